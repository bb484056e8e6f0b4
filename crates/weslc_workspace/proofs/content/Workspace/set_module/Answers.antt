use mathlib.Core.Logic.{∥∥₁_map}
use Rattle.std.proofs.Common.{◌≡◌, sym, ◌∙◌, subst, ℕ, List, Some, false}
use Rattle.std.specs.HashSet.{contains_text}
use Rattle.weslc_workspace.proofs.KeptLemmas.{kept_so, kept_when_set}
use Rattle.weslc_workspace.proofs.content.Workspace.set_module.Goals as goal

pub invariant_of-self : goal.invariant_of-self
invariant_of-self c = record {
  kept = λ current. ∥∥₁_map (c.args.self.now.kept current)
      (λ k. kept_so c.args.self.now.modules c.set.new.self c.args.self.now.root c.args.self.now.options c.args.self.now.asked c.args.self.now.compiled.answer k c.in_err-set.ensures.refused);
}

pub invariant_of-self-else-contains : goal.invariant_of-self-else-contains
invariant_of-self-else-contains c = record {
  kept = λ current. ∥∥₁_map (c.args.self.now.kept current)
      (λ k. kept_when_set c.args.self.now.modules c.set.new.self c.args.self.now.root c.args.self.now.options c.args.self.now.asked c.args.self.now.compiled.answer k
      c.as_str.result.now (Some c.args.text) c.in_ok-set.ensures.set
      (subst (λ (t : List ℕ). contains_text c.args.self.now.asked t ≡ false) (c.as_str-2.ensures.value ∙ sym c.as_str.ensures.value) (sym c.contains.ensures ∙ c.if-contains.false)));
}
