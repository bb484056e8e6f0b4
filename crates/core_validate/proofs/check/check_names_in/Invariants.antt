use Rattle.std.proofs.Common.{◌≡◌, drop}
use Rattle.std.specs.List.{flat_map}
use Rattle.core_validate.specs.Lookups.{texts}
use Rattle.core_validate.specs.Faults.{undefined_at}
use Rattle.core_validate.proofs.check.check_names_in.Given as goal

abbrev pub invariant-loop-place : goal.invariant-loop-place
invariant-loop-place l =
    flat_map (undefined_at (texts l.table) l.row.name) (drop l.place-index l.row.places) ≡ flat_map (undefined_at (texts l.table) l.row.name) l.row.places
