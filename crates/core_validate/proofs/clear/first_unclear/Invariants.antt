use Rattle.std.proofs.Common.{◌≡◌, drop}
use Rattle.core_validate.specs.First.{first}
use Rattle.core_validate.specs.Lookups.{lookup, texts, trees}
use Rattle.core_validate.specs.Clearness.{unclear_from}
use Rattle.core_validate.proofs.clear.first_unclear.Given as goal

abbrev pub invariant-loop-position : goal.invariant-loop-position
invariant-loop-position l =
    first (unclear_from (lookup l.index) (texts l.names) l.position (trees (drop l.position l.declarations)))
    ≡ first (unclear_from (lookup l.index) (texts l.names) 0 (trees l.declarations))
