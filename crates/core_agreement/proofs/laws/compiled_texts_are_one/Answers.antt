use Rattle.core_agreement.proofs.Texts.{compiled_texts_are_one}
use Rattle.core_agreement.proofs.laws.compiled_texts_are_one.Goals as goal

pub returns : goal.returns
returns g c one other = compiled_texts_are_one (g.R.Resolver.answers one) (g.S.Resolver.answers other) (g.met.S.Resolver.one_answer other)
