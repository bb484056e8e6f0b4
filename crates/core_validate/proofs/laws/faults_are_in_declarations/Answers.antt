use Rattle.core_validate.proofs.Located.{faults_are_in_declarations}
use Rattle.core_validate.proofs.laws.faults_are_in_declarations.Goals as goal

pub returns : goal.returns
returns c = faults_are_in_declarations
