use Rattle.std.proofs.Common.{◌≡◌, drop, map}
use Rattle.core_syntax.specs.View.{parameter_tree}
use Rattle.core_eval.specs.Scopes.{scope_of}
use Rattle.core_lower_expressions.specs.Computed as spec
use Rattle.core_lower.proofs.function.parameter_types.Given as goal

abbrev pub invariant-loop-parameter : goal.invariant-loop-parameter
invariant-loop-parameter l =
    spec.prepended l.done (spec.parameter_types (scope_of l.scope) (map parameter_tree (drop l.parameter-index l.parameters)))
    ≡ spec.parameter_types (scope_of l.scope) (map parameter_tree l.parameters)
