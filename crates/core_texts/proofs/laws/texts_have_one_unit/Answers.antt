use Rattle.core_texts.proofs.Whole as law
use Rattle.core_texts.proofs.laws.texts_have_one_unit.Goals as goal

pub returns : goal.returns
returns c = law.texts_have_one_unit
