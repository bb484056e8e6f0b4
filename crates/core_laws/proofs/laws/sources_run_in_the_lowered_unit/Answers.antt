use Rattle.core_laws.proofs.Runs.{sources_run_in_the_lowered_unit}
use Rattle.core_laws.proofs.laws.sources_run_in_the_lowered_unit.Goals as goal

pub returns : goal.returns
returns c = sources_run_in_the_lowered_unit
