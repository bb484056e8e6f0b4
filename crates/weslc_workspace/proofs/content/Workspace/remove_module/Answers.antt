use mathlib.Core.Logic.{∥∥₁_map}
use Rattle.std.proofs.Common.{◌≡◌, sym, ◌∙◌, subst, ℕ, List, None, false}
use Rattle.std.specs.HashSet.{contains_text}
use Rattle.wgsl_path.specs.Paths.{path_text}
use Rattle.weslc_workspace.proofs.KeptLemmas.{kept_when_set, kept_when_none}
use Rattle.weslc_workspace.proofs.content.Workspace.remove_module.Goals as goal

pub invariant_of-self-else-contains : goal.invariant_of-self-else-contains
invariant_of-self-else-contains c = record {
  kept = λ current. ∥∥₁_map (c.args.self.now.kept current)
      (λ k. kept_when_set c.args.self.now.modules c.remove.new.self c.args.self.now.root c.args.self.now.options c.args.self.now.asked c.args.self.now.compiled.answer k
      (path_text c.args.path.now) None c.remove.ensures.set
      (subst (λ (t : List ℕ). contains_text c.args.self.now.asked t ≡ false) (c.as_str.ensures.value ∙ c.in-Some.ensures.path) (sym c.contains.ensures ∙ c.if-contains.false)));
}

pub invariant_of-self-in-None : goal.invariant_of-self-in-None
invariant_of-self-in-None c = record {
  kept = λ current. ∥∥₁_map (c.args.self.now.kept current)
      (λ k. kept_when_none c.args.self.now.modules c.remove.new.self c.args.self.now.root c.args.self.now.options c.args.self.now.asked c.args.self.now.compiled.answer k
      (path_text c.args.path.now) c.remove.ensures.set (sym c.in-None.ensures.found));
}
