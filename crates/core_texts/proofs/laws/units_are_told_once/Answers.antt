use Rattle.core_texts.proofs.Whole as law
use Rattle.core_texts.proofs.laws.units_are_told_once.Goals as goal

pub returns : goal.returns
returns c = law.units_are_told_once
