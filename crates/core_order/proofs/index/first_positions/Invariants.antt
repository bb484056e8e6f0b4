use Rattle.std.proofs.Common.{◌≡◌, take}
use Rattle.std.specs.Prelude.{position}
use Rattle.std.specs.Str.{bytes_eq}
use Rattle.core_validate.specs.Scopes.{Name}
use Rattle.core_validate.specs.Lookups.{lookup, declared}
use Rattle.core_order.proofs.index.first_positions.Given as goal

abbrev pub invariant-loop-position : goal.invariant-loop-position
invariant-loop-position l = (x : Name) → lookup l.index x ≡ position (bytes_eq x) (declared (take l.position l.declarations))
