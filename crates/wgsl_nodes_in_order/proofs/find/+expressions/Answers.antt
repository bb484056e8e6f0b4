-- Calls and names.
use Rattle.wgsl_nodes_in_order.specs.Found.{nodes}
use Rattle.wgsl_nodes_in_order.proofs.Steps.{of_call, of_named, if_ok}
use Rattle.wgsl_nodes_in_order.proofs.find.+expressions.Goals as goal

pub find_inside-returns-in-FunctionCall : goal.find_inside-returns-in-FunctionCall
find_inside-returns-in-FunctionCall t c = if_ok c.find_call.result (of_call (nodes c.args.found.now.items) (nodes c.find_call.new.found.items) c.args.expression.now c.in-FunctionCall.x c.get.result.now c.in-FunctionCall.is c.get.ensures) c.find_call.ensures

pub find_inside-returns-in-TypeOrIdentifier : goal.find_inside-returns-in-TypeOrIdentifier
find_inside-returns-in-TypeOrIdentifier t c = if_ok c.find_type.result (of_named (nodes c.args.found.now.items) (nodes c.find_type.new.found.items) c.args.expression.now c.in-TypeOrIdentifier.x c.in-TypeOrIdentifier.is) c.find_type.ensures
