use mathlib.Core.Logic.{∥∥₁_map}
use Rattle.std.proofs.Common.{refl}
use Rattle.weslc_workspace.proofs.KeptLemmas.{kept_with}
use Rattle.weslc_workspace.proofs.content.Workspace.set_feature.Goals as goal

pub invariant_of-self : goal.invariant_of-self
invariant_of-self c = record {
  kept = λ current. ∥∥₁_map (c.args.self.now.kept current)
      (λ k. kept_with c.args.self.now.modules c.args.self.now.modules c.args.self.now.root c.args.self.now.options c.args.self.now.asked c.args.self.now.compiled.answer k
      (record c.args.self.now.options { features = c.set.new.self }) (record { flags = c.in_err-set.ensures.refused; others = refl }));
}
