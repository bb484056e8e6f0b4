use Rattle.wesl_cond_laws.proofs.Modules.{no_fault_is_made as law}
use Rattle.wesl_cond_laws.proofs.laws.no_fault_is_made.Goals as goal

pub returns : goal.returns
returns c features u h = law features u h
