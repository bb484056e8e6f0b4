use Rattle.std.proofs.Common.{◌≡◌, drop, map}
use Rattle.wgsl_declarations.specs.View.{parameter_tree}
use Rattle.wesl_cond_left.specs.Open.{parameters_open}
use Rattle.wesl_cond_left.proofs.unit.in_parameters.Given as goal

abbrev pub invariant-loop-parameter : goal.invariant-loop-parameter
invariant-loop-parameter l = parameters_open (map parameter_tree (drop l.parameter-index l.parameter-items)) ≡ parameters_open (map parameter_tree l.parameter-items)
