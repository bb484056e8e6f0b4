use Rattle.core_texts.proofs.Whole as law
use Rattle.core_texts.proofs.laws.same_tokens_are_the_same_unit.Goals as goal

pub returns : goal.returns
returns c = law.same_tokens_are_the_same_unit
