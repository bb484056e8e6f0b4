use Rattle.std.proofs.Common.{◌≡◌, drop}
use Rattle.core_validate.specs.Lookups.{texts}
use Rattle.core_validate.specs.Faults.{undefined_at, faults_at}
use Rattle.core_validate.proofs.check.check_names.Given as goal

abbrev pub invariant-loop-row : goal.invariant-loop-row
invariant-loop-row l = faults_at (undefined_at (texts l.table)) (drop l.row-index l.rows) ≡ faults_at (undefined_at (texts l.table)) l.rows
