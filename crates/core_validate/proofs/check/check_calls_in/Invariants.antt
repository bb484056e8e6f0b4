use Rattle.std.proofs.Common.{◌≡◌, drop}
use Rattle.std.specs.List.{flat_map}
use Rattle.core_validate.specs.Faults.{miscall_at}
use Rattle.core_validate.proofs.check.check_calls_in.Given as goal

abbrev pub invariant-loop-place : goal.invariant-loop-place
invariant-loop-place l =
    flat_map (miscall_at l.rows l.row.name) (drop l.place-index l.row.places) ≡ flat_map (miscall_at l.rows l.row.name) l.row.places
