use Rattle.std.proofs.Common.{◌≡◌, drop, filter}
use Rattle.core_validate.specs.First.{first}
use Rattle.core_validate.specs.Lookups.{lookup, local_names, texts}
use Rattle.core_validate.specs.Clearness.{is_declared_by}
use Rattle.core_validate.proofs.clear.unclear_parameter.Given as goal

abbrev pub invariant-loop-parameter : goal.invariant-loop-parameter
invariant-loop-parameter l =
    first (filter (is_declared_by (lookup l.index) (texts l.names)) (local_names (drop l.parameter-index l.parameters)))
    ≡ first (filter (is_declared_by (lookup l.index) (texts l.names)) (local_names l.parameters))
