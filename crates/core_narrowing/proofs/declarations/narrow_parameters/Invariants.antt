use Rattle.std.proofs.Common.{◌≡◌, ◌++◌, drop, map}
use Rattle.std.specs.List.{flat_map}
use Rattle.wgsl_declarations.specs.View as whole
use Rattle.core_narrowing.specs.Trees.{parameters_tree}
use Rattle.core_narrowing.specs.Narrowing.{each, narrow_param, in_front}
use Rattle.core_narrowing.specs.Places as part
use Rattle.core_narrowing.specs.ModulePlaces as places
use Rattle.core_narrowing.proofs.declarations.narrow_parameters.Given as goal

abbrev pub invariant-loop-parameter : goal.invariant-loop-parameter
invariant-loop-parameter l = (in_front (parameters_tree l.narrowed) (each narrow_param (map whole.parameter_tree (drop l.parameter-index l.parameters))) ≡ each narrow_param (map whole.parameter_tree l.parameters))
    × (flat_map part.in_parameter l.narrowed ++ flat_map places.in_parameter (drop l.parameter-index l.parameters) ≡ flat_map places.in_parameter l.parameters)
