use Rattle.wesl_marks_mut.proofs.Keeping as lemmas
use Rattle.wesl_marks_mut.proofs.laws.units_stay.Goals as goal

pub returns : goal.returns
returns c = lemmas.units_stay
