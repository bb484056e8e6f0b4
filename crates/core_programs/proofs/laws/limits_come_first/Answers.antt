use Rattle.core_programs.proofs.Limits.{run_over as law}
use Rattle.core_programs.proofs.laws.limits_come_first.Goals as goal

pub returns : goal.returns
returns c p k order s handed from l = law p k order s handed from l
