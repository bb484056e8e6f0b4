use Rattle.core_written.specs.Scopes.{scope_of}
use Rattle.core_lower_expressions.specs.Reduced.{reduction}
use Rattle.core_lower_expressions.proofs.Reduces.{passes_on, argument_fault, refused_by_callee}
use Rattle.core_lower_expressions.proofs.expression.refused_call.Goals as goal

pub returns-in_err-_values : goal.returns-in_err-_values
returns-in_err-_values c =
    passes_on reduction _ _ c.from_residual.result c.in_err-_values.field-0.0 c.from_residual.ensures.1 c.in_err-_values.ensures
    (argument_fault (scope_of c.args.scope.now) c.args.x.now c.as_slice.result.now c.as_slice.ensures)

pub returns : goal.returns
returns c = refused_by_callee (scope_of c.args.scope.now) c.args.x.now c.as_slice.result.now c.as_slice.ensures _ c.args.fault c.requires c.in_ok-_values.ensures
