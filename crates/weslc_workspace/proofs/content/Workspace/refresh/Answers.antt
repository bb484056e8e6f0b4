use mathlib.Core.Logic.{∥∥₁_map}
use Rattle.weslc_workspace.proofs.KeptLemmas.{kept_answers}
use Rattle.weslc_workspace.proofs.content.Workspace.refresh.Goals as goal

pub returns-then-not-self-clause-answers : goal.returns-then-not-self-clause-answers
returns-then-not-self-clause-answers c = λ some. ∥∥₁_map (c.args.self.now.kept c.if-not-self.true)
    (λ k. kept_answers c.args.self.now.modules c.args.self.now.root c.args.self.now.options c.args.self.now.asked c.args.self.now.compiled.answer k)
