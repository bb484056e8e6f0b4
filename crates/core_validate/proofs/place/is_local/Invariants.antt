use Rattle.std.proofs.Common.{◌≡◌, drop}
use Rattle.core_validate.specs.Scopes.{is_in}
use Rattle.core_validate.specs.Lookups.{local_names}
use Rattle.core_validate.proofs.place.is_local.Given as goal

abbrev pub invariant-loop-local : goal.invariant-loop-local
invariant-loop-local l = is_in l.name (local_names (drop l.local-index l.locals)) ≡ is_in l.name (local_names l.locals)
