use Rattle.std.proofs.Common.{ap, sym, ◌∙◌, ◌+◌, map, drop, subst}
use Rattle.core_syntax.specs.Tree.{exps}
use Rattle.core_syntax.specs.View.{node_tree, type_tree}
use Rattle.core_written.specs.Ends.{Gives}
use Rattle.core_written.specs.Scopes.{scope_of}
use Rattle.core_lower_expressions.specs.Reduced.{reduction, reductions, under_operator, between_operands, of_arguments, all_reduced, before_more}
use Rattle.core_lower_expressions.proofs.Reduces.{passes_on, goes_on, faults_go, at_parenthesized, at_unary, at_call, parenthesized_out, binary_left_fault, binary_undecided, call_of, next_argument, before_next, before_fault}
use Rattle.core_lower_expressions.proofs.expression.+reducing.Goals as goal

pub reduce-returns-in_err-inner-in-Parenthesized : goal.reduce-returns-in_err-inner-in-Parenthesized
reduce-returns-in_err-inner-in-Parenthesized t c =
    passes_on reduction _ _ c.from_residual.result c.in_err-inner-in-Parenthesized.field-0.0 c.from_residual.ensures.1 c.in_err-inner-in-Parenthesized.ensures
    (faults_go _ _ _ (at_parenthesized (scope_of c.args.scope.now) c.args.node.now c.node.result.now c.node.ensures c.in-Parenthesized.x c.in-Parenthesized.is))

pub reduce-returns-in_err-operand-in-Unary : goal.reduce-returns-in_err-operand-in-Unary
reduce-returns-in_err-operand-in-Unary t c =
    passes_on reduction _ _ c.from_residual-in_err-operand-in-Unary.result c.in_err-operand-in-Unary.field-0.0 c.from_residual-in_err-operand-in-Unary.ensures.1 c.in_err-operand-in-Unary.ensures
    (faults_go _ _ _ (at_unary (scope_of c.args.scope.now) c.args.node.now c.node.result.now c.node.ensures c.in-Unary.x c.in-Unary.is))

pub reduce-returns-in_ok-in_parentheses-in-Parenthesized : goal.reduce-returns-in_ok-in_parentheses-in-Parenthesized
reduce-returns-in_ok-in_parentheses-in-Parenthesized t c =
    parenthesized_out (scope_of c.args.scope.now) (node_tree c.in-Parenthesized.x.expression) (reduction c.in_ok-inner-in-Parenthesized.inner) _ _
    (at_parenthesized (scope_of c.args.scope.now) c.args.node.now c.node.result.now c.node.ensures c.in-Parenthesized.x c.in-Parenthesized.is)
    c.in_ok-inner-in-Parenthesized.ensures c.in_ok-in_parentheses-in-Parenthesized.ensures

pub reduce-returns-in_ok-operand-in-Unary : goal.reduce-returns-in_ok-operand-in-Unary
reduce-returns-in_ok-operand-in-Unary t c =
    goes_on reduction _ (under_operator c.in-Unary.x.operator) (reduction c.in_ok-operand-in-Unary.operand) _ c.under_operator.result
    (at_unary (scope_of c.args.scope.now) c.args.node.now c.node.result.now c.node.ensures c.in-Unary.x c.in-Unary.is)
    c.in_ok-operand-in-Unary.ensures c.under_operator.ensures

pub reduce-returns-in-FunctionCall : goal.reduce-returns-in-FunctionCall
reduce-returns-in-FunctionCall t c =
    subst (λ o. Gives reduction o c.reduce_call.result)
    (sym (at_call (scope_of c.args.scope.now) c.args.node.now c.node.result.now c.node.ensures c.in-FunctionCall.x c.get.result.now c.in-FunctionCall.is c.get.ensures)) c.reduce_call.ensures

pub reduce_arguments-returns-in_err-argument : goal.reduce_arguments-returns-in_err-argument
reduce_arguments-returns-in_err-argument t c =
    let s = scope_of c.args.scope.now in
    let nodes = c.args.nodes.now in
    let i = c.loop-node.node-index in
    let xs = reductions c.loop-node.arguments in
    passes_on reductions _ _ c.from_residual.result c.in_err-argument.field-0.0 c.from_residual.ensures.1 c.in_err-argument.ensures
    (λ f h. sym c.loop-node.invariant
    ∙ ap (λ es. before_more xs (all_reduced s es)) (next_argument nodes i c.node-item.result c.loop-node-test.true c.node-item.is)
    ∙ before_fault s xs (node_tree c.node-item.result) (exps (map node_tree (drop (i + 1) nodes))) f h)

pub reduce_arguments-loop-node-preserved : goal.reduce_arguments-loop-node-preserved
reduce_arguments-loop-node-preserved t c =
    let s = scope_of c.args.scope.now in
    let nodes = c.args.nodes.now in
    let i = c.loop-node.node-index in
    let xs = reductions c.loop-node.arguments in
    let left = exps (map node_tree (drop (i + 1) nodes)) in
    ap (λ ys. before_more ys (all_reduced s left)) c.in_ok-arguments.ensures
    ∙ before_next s xs (node_tree c.node-item.result) left (reduction c.in_ok-argument.argument) c.in_ok-argument.ensures
    ∙ ap (λ es. before_more xs (all_reduced s es)) (sym (next_argument nodes i c.node-item.result c.loop-node-test.true c.node-item.is))
    ∙ c.loop-node.invariant

pub reduce_binary-returns-in_err-left : goal.reduce_binary-returns-in_err-left
reduce_binary-returns-in_err-left t c =
    passes_on reduction _ _ c.from_residual.result c.in_err-left.field-0.0 c.from_residual.ensures.1 c.in_err-left.ensures
    (binary_left_fault (scope_of c.args.scope.now) c.args.x.now.operator (node_tree c.args.x.now.left) (node_tree c.args.x.now.right))

pub reduce_binary-returns-in_err-right : goal.reduce_binary-returns-in_err-right
reduce_binary-returns-in_err-right t c =
    passes_on reduction _ _ c.from_residual-in_err-right.result c.in_err-right.field-0.0 c.from_residual-in_err-right.ensures.1 c.in_err-right.ensures
    (faults_go _ _ _ (binary_undecided (scope_of c.args.scope.now) c.args.x.now.operator (node_tree c.args.x.now.left) (node_tree c.args.x.now.right) (reduction c.in_ok-left.left)
    c.in_ok-left.ensures (sym c.is_decided.ensures ∙ c.if-is_decided.false)))

pub reduce_binary-returns : goal.reduce_binary-returns
reduce_binary-returns t c =
    let o = c.args.x.now.operator in
    goes_on reduction _ (between_operands o (reduction c.in_ok-left.left)) (reduction c.in_ok-right.right) _ c.between_operands.result
    (binary_undecided (scope_of c.args.scope.now) o (node_tree c.args.x.now.left) (node_tree c.args.x.now.right) (reduction c.in_ok-left.left)
    c.in_ok-left.ensures (sym c.is_decided.ensures ∙ c.if-is_decided.false))
    c.in_ok-right.ensures c.between_operands.ensures

pub reduce_call-returns-in_err-arguments-in-Ok : goal.reduce_call-returns-in_err-arguments-in-Ok
reduce_call-returns-in_err-arguments-in-Ok t c =
    passes_on reduction _ _ c.from_residual.result c.in_err-arguments-in-Ok.field-0.0 c.from_residual.ensures.1 c.in_err-arguments-in-Ok.ensures
    (faults_go _ _ _ (call_of (scope_of c.args.scope.now) c.args.x.now c.as_slice.result.now c.in-Ok.name.now c.as_slice.ensures c.in-Ok.ensures))

pub reduce_call-returns-in_ok-arguments-in-Ok : goal.reduce_call-returns-in_ok-arguments-in-Ok
reduce_call-returns-in_ok-arguments-in-Ok t c =
    goes_on reduction _ (of_arguments (scope_of c.args.scope.now) c.in-Ok.name.now (type_tree c.args.x.now.ty)) (reductions c.in_ok-arguments-in-Ok.arguments) _ c.constructed.result
    (call_of (scope_of c.args.scope.now) c.args.x.now c.as_slice.result.now c.in-Ok.name.now c.as_slice.ensures c.in-Ok.ensures)
    c.in_ok-arguments-in-Ok.ensures c.constructed.ensures
