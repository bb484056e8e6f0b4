use Rattle.wesl_cond_laws.proofs.Modules.{twice_is_once as law}
use Rattle.wesl_cond_laws.proofs.laws.twice_is_once.Goals as goal

pub returns : goal.returns
returns c features u = law features u
