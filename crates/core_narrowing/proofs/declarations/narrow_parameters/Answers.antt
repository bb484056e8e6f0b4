use Rattle.wgsl_declarations.specs.View as whole
use Rattle.core_syntax.specs.View.{parameter_tree}
use Rattle.core_narrowing.specs.Narrowing.{narrow_param}
use Rattle.core_narrowing.specs.Places as part
use Rattle.core_narrowing.specs.ModulePlaces as places
use Rattle.core_narrowing.proofs.Steps.{one_listed}
use Rattle.core_narrowing.proofs.PlaceSteps.{one_placed}
use Rattle.core_narrowing.proofs.declarations.narrow_parameters.Goals as goal

pub loop-parameter-preserved : goal.loop-parameter-preserved
loop-parameter-preserved c = (
  one_listed whole.parameter_tree narrow_param parameter_tree c.args.parameters.now c.loop-parameter.parameter-index c.parameter-item.result c.loop-parameter.narrowed c.push.new.self c.in_ok-narrow_parameter.field-0 _
      c.loop-parameter-test.true c.parameter-item.is c.in_ok-push.ensures.ok c.in_ok-narrow_parameter.ensures.tree c.loop-parameter.invariant.0,
  one_placed places.in_parameter part.in_parameter c.args.parameters.now c.loop-parameter.parameter-index c.parameter-item.result c.loop-parameter.narrowed c.push.new.self c.in_ok-narrow_parameter.field-0 _
      c.loop-parameter-test.true c.parameter-item.is c.in_ok-push.ensures.ok c.in_ok-narrow_parameter.ensures.places c.loop-parameter.invariant.1,
)
