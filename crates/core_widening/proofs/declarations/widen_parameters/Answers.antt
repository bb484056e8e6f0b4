use Rattle.wgsl_declarations.specs.View as whole
use Rattle.core_syntax.specs.View.{parameter_tree}
use Rattle.core_narrowing.specs.Widening.{widen_param}
use Rattle.core_widening.proofs.Widened.{all_of}
use Rattle.core_widening.proofs.declarations.widen_parameters.Goals as goal

pub returns : goal.returns
returns c = all_of widen_param parameter_tree whole.parameter_tree c.args.parameters.now c.loop-parameter.parameter-index c.loop-parameter.widened c.loop-parameter-test.false c.loop-parameter.invariant
