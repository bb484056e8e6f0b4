use Rattle.std.proofs.Common.{◌≡◌, take, map}
use Rattle.wgsl_declarations.specs.View as whole
use Rattle.core_syntax.specs.View.{parameter_tree}
use Rattle.core_narrowing.specs.Widening.{widen_param}
use Rattle.core_widening.proofs.declarations.widen_parameters.Given as goal

abbrev pub invariant-loop-parameter : goal.invariant-loop-parameter
invariant-loop-parameter l = map whole.parameter_tree l.widened ≡ map (λ p. widen_param (parameter_tree p)) (take l.parameter-index l.parameters)
