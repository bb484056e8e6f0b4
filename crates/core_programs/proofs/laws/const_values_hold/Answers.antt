use Rattle.core_programs.proofs.Stages.{const_values_hold as law}
use Rattle.core_programs.proofs.laws.const_values_hold.Goals as goal

pub returns : goal.returns
returns c stage p known k m env e = law stage p known k m env e
