use Rattle.std.proofs.Common.{◌≡◌, drop}
use Rattle.std.specs.List.{flat_map}
use Rattle.core_validate.specs.Lookups.{trees}
use Rattle.core_validate.specs.Faults.{duplicates_in}
use Rattle.core_validate.proofs.index.check_duplicates.Given as goal

abbrev pub invariant-loop-declaration : goal.invariant-loop-declaration
invariant-loop-declaration l = flat_map duplicates_in (trees (drop l.declaration-index l.declarations)) ≡ flat_map duplicates_in (trees l.declarations)
