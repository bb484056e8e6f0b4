use Rattle.std.proofs.Common.{◌≡◌, drop, map}
use Rattle.core_syntax.specs.View.{parameter_tree}
use Rattle.core_lower_expressions.specs.Cleared.{any_stage}
use Rattle.core_lower.proofs.function.any_stage.Given as goal

abbrev pub invariant-loop-parameter : goal.invariant-loop-parameter
invariant-loop-parameter l =
    any_stage (map parameter_tree (drop l.parameter-index l.parameters)) ≡ any_stage (map parameter_tree l.parameters)
