use Rattle.std.proofs.Common.{◌≡◌, ◌++◌, drop, map}
use Rattle.std.specs.List.{flat_map}
use Rattle.core_syntax.specs.View.{parameter_tree}
use Rattle.core_validate.specs.Scopes.{parameter_places}
use Rattle.core_validate.specs.Lookups.{lookup}
use Rattle.std.proofs.Common.{[]}
use Rattle.core_validate.proofs.place.add_parameters.Given as goal

abbrev pub invariant-loop-parameter : goal.invariant-loop-parameter
invariant-loop-parameter l =
    l.places ++ flat_map (parameter_places (lookup l.index) []) (map parameter_tree (drop l.parameter-index l.parameters))
    ≡ l.initial.places ++ flat_map (parameter_places (lookup l.index) []) (map parameter_tree l.parameters)
