use Rattle.core_agreement.proofs.Texts.{linked_texts_are_one}
use Rattle.core_agreement.proofs.laws.linked_texts_are_one.Goals as goal

pub returns : goal.returns
returns g c one other = linked_texts_are_one (g.R.Resolver.answers one) (g.S.Resolver.answers other) (g.met.S.Resolver.one_answer other)
