use Rattle.std.proofs.Common.{refl}
use Rattle.wesl_linking_spec.proofs.Shown.{faults}
use Rattle.wesl_linking_spec.proofs.laws.faults_in_examples.Goals as goal

pub returns-clause-duplicates : goal.returns-clause-duplicates
returns-clause-duplicates c = refl

pub returns-clause-undefined : goal.returns-clause-undefined
returns-clause-undefined c = refl

pub returns-clause-rows : goal.returns-clause-rows
returns-clause-rows c = refl

pub returns-clause-calls : goal.returns-clause-calls
returns-clause-calls c = refl

pub returns-clause-first : goal.returns-clause-first
returns-clause-first c = faults
