use Rattle.core_texts.proofs.Whole as law
use Rattle.core_texts.proofs.laws.texts_are_one_thing.Goals as goal

pub returns : goal.returns
returns c = law.texts_are_one_thing
