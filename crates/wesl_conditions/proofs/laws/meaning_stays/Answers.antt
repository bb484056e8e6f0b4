use Rattle.wesl_conditions.proofs.MeaningLemmas.{meaning_stays}
use Rattle.wesl_conditions.proofs.laws.meaning_stays.Goals as goal

pub returns : goal.returns
returns c features choice x admits = meaning_stays features choice admits x
