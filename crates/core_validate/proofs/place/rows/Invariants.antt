use Rattle.std.proofs.Common.{◌≡◌, take, map}
use Rattle.core_validate.specs.Scopes.{row_of}
use Rattle.core_validate.specs.Lookups.{lookup, trees}
use Rattle.core_validate.proofs.place.rows.Given as goal

abbrev pub invariant-loop-declaration : goal.invariant-loop-declaration
invariant-loop-declaration l = l.made ≡ map (row_of (lookup l.index)) (trees (take l.declaration-index l.declarations))
