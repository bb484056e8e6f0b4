use Rattle.std.proofs.Common.{◌≡◌, drop}
use Rattle.std.specs.List.{list_all}
use Rattle.core_narrowing.specs.Trees.{parameters_tree}
use Rattle.core_narrowing.specs.InCore as spec
use Rattle.core_narrowing.proofs.in_core.are_parameters.Given as goal

abbrev pub invariant-loop-parameter : goal.invariant-loop-parameter
invariant-loop-parameter l = list_all spec.is_parameter (parameters_tree (drop l.parameter-index l.parameters)) ≡ list_all spec.is_parameter (parameters_tree l.parameters)
