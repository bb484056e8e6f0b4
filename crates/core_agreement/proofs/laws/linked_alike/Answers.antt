use Rattle.core_agreement.proofs.Answers.{linked_alike}
use Rattle.core_agreement.proofs.laws.linked_alike.Goals as goal

pub returns : goal.returns
returns g c one other = linked_alike (g.R.Resolver.answers one) (g.S.Resolver.answers other) (g.met.R.Resolver.one_answer one) (g.met.S.Resolver.one_answer other)
