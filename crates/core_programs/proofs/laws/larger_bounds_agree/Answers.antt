use Rattle.core_programs.proofs.Longer.{run_longer as law}
use Rattle.core_programs.proofs.laws.larger_bounds_agree.Goals as goal

pub returns : goal.returns
returns c p j k order s handed = law p j k order s handed
