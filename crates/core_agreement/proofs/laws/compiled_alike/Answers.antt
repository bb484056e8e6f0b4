use Rattle.core_agreement.proofs.Answers.{compiled_alike}
use Rattle.core_agreement.proofs.laws.compiled_alike.Goals as goal

pub returns : goal.returns
returns g c one other = compiled_alike (g.R.Resolver.answers one) (g.S.Resolver.answers other) (g.met.R.Resolver.one_answer one) (g.met.S.Resolver.one_answer other)
