use Rattle.wesl_cond_laws.proofs.Modules.{meaning_stays as law}
use Rattle.wesl_cond_laws.proofs.laws.meaning_stays.Goals as goal

pub returns : goal.returns
returns c features choice u admits = law features choice u admits
