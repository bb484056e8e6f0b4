use Rattle.std.proofs.Common.{◌≡◌, drop}
use Rattle.core_validate.specs.Faults.{miscall_at, faults_at}
use Rattle.core_validate.proofs.check.check_calls.Given as goal

abbrev pub invariant-loop-row : goal.invariant-loop-row
invariant-loop-row l = faults_at (miscall_at l.rows) (drop l.row-index l.rows) ≡ faults_at (miscall_at l.rows) l.rows
