-- Calls, names, and lists of expressions.
use Rattle.std.proofs.Common.{◌≡◌, rules, Err, ◌∙◌}
use Rattle.wgsl_expressions.specs.View as whole
use Rattle.core_syntax.specs.View.{node_tree}
use Rattle.core_narrowing.proofs.Steps.{parenthesized_so, unary_so, call_so, call_not, named_so, named_not, type_not, plain_type_so, type_so, one_more, no_more}
use Rattle.core_narrowing.specs.Places as part
use Rattle.core_narrowing.specs.ModulePlaces as places
use Rattle.core_narrowing.proofs.PlaceSteps.{parenthesized_at, unary_at, call_at, named_at, plain_type_at, type_at, one_placed, all_placed}
use Rattle.core_narrowing.proofs.expressions.+narrow.Goals.{narrow_type-in-None, narrow_type-in-Some+in_ok-narrowed-in-Some+in_ok-new-in-Some}
use Rattle.core_narrowing.proofs.expressions.+narrow.Goals as goal

pub narrow_expression-returns-in_ok-expression-in-Parenthesized-clause-tree : goal.narrow_expression-returns-in_ok-expression-in-Parenthesized-clause-tree
narrow_expression-returns-in_ok-expression-in-Parenthesized-clause-tree t c =
    parenthesized_so c.args.expression.now c.in-Parenthesized.x c.in_ok-expression-in-Parenthesized.expression c.in-Parenthesized.is c.in_ok-expression-in-Parenthesized.ensures.tree

pub narrow_expression-returns-in_ok-operand-in-Unary-clause-tree : goal.narrow_expression-returns-in_ok-operand-in-Unary-clause-tree
narrow_expression-returns-in_ok-operand-in-Unary-clause-tree t c =
    unary_so c.args.expression.now c.in-Unary.x c.in_ok-operand-in-Unary.operand c.in-Unary.is c.in_ok-operand-in-Unary.ensures.tree

pub narrow_expression-returns-in_err-call-in-FunctionCall-clause-tree : goal.narrow_expression-returns-in_err-call-in-FunctionCall-clause-tree
narrow_expression-returns-in_err-call-in-FunctionCall-clause-tree t c =
    let same : c.from_residual-in_err-call-in-FunctionCall.result ≡ Err c.in_err-call-in-FunctionCall.field-0.0 = search rules in
    rw same (call_not c.args.expression.now c.in-FunctionCall.x c.get.result.now c.in_err-call-in-FunctionCall.field-0.0 c.in-FunctionCall.is c.get.ensures c.in_err-call-in-FunctionCall.ensures.tree)

pub narrow_expression-returns-in_ok-new-in-FunctionCall-clause-tree : goal.narrow_expression-returns-in_ok-new-in-FunctionCall-clause-tree
narrow_expression-returns-in_ok-new-in-FunctionCall-clause-tree t c =
    call_so c.args.expression.now c.in-FunctionCall.x c.get.result.now c.in_ok-call-in-FunctionCall.call c.in_ok-new-in-FunctionCall.field-0 c.in-FunctionCall.is c.get.ensures c.in_ok-call-in-FunctionCall.ensures.tree c.in_ok-new-in-FunctionCall.ensures

pub narrow_expression-returns-in_err-narrow_type-in-TypeOrIdentifier-clause-tree : goal.narrow_expression-returns-in_err-narrow_type-in-TypeOrIdentifier-clause-tree
narrow_expression-returns-in_err-narrow_type-in-TypeOrIdentifier-clause-tree t c =
    let same : c.from_residual-in_err-narrow_type-in-TypeOrIdentifier.result ≡ Err c.in_err-narrow_type-in-TypeOrIdentifier.field-0.0 = search rules in
    rw same (named_not c.args.expression.now c.in-TypeOrIdentifier.x c.in_err-narrow_type-in-TypeOrIdentifier.field-0.0 c.in-TypeOrIdentifier.is c.in_err-narrow_type-in-TypeOrIdentifier.ensures.tree)

pub narrow_expression-returns-in_ok-narrow_type-in-TypeOrIdentifier-clause-tree : goal.narrow_expression-returns-in_ok-narrow_type-in-TypeOrIdentifier-clause-tree
narrow_expression-returns-in_ok-narrow_type-in-TypeOrIdentifier-clause-tree t c =
    named_so c.args.expression.now c.in-TypeOrIdentifier.x c.in_ok-narrow_type-in-TypeOrIdentifier.field-0 c.in-TypeOrIdentifier.is c.in_ok-narrow_type-in-TypeOrIdentifier.ensures.tree

pub narrow_nodes-loop-node-preserved : goal.narrow_nodes-loop-node-preserved
narrow_nodes-loop-node-preserved t c = (
  one_more whole.node_tree node_tree c.args.nodes.now c.loop-node.node-index c.node-item.result c.loop-node.narrowed c.push.new.self c.in_ok-narrow_node.field-0 _ c.loop-node-test.true c.node-item.is c.in_ok-push.ensures.ok
      c.in_ok-narrow_node.ensures.tree c.loop-node.invariant.0,
  one_placed places.in_node part.in_node c.args.nodes.now c.loop-node.node-index c.node-item.result c.loop-node.narrowed c.push.new.self c.in_ok-narrow_node.field-0 _ c.loop-node-test.true c.node-item.is c.in_ok-push.ensures.ok
      c.in_ok-narrow_node.ensures.places c.loop-node.invariant.1,
)

pub narrow_nodes-returns-clause-tree : goal.narrow_nodes-returns-clause-tree
narrow_nodes-returns-clause-tree t c = no_more whole.node_tree node_tree c.args.nodes.now c.loop-node.node-index c.loop-node.narrowed _ c.loop-node-test.false c.loop-node.invariant.0

pub narrow_nodes-returns-clause-places : goal.narrow_nodes-returns-clause-places
narrow_nodes-returns-clause-places t c = all_placed places.in_node part.in_node c.args.nodes.now c.loop-node.node-index c.loop-node.narrowed _ c.loop-node-test.false c.loop-node.invariant.1

pub narrow_arguments-loop-argument-preserved : goal.narrow_arguments-loop-argument-preserved
narrow_arguments-loop-argument-preserved t c = (
  one_more (λ a. whole.node_tree a.expression) (λ a. node_tree a.expression) c.args.arguments.now c.loop-argument.argument-index c.argument-item.result c.loop-argument.narrowed c.push.new.self
      (record { expression = c.in_ok-expression.expression }) _ c.loop-argument-test.true c.argument-item.is c.in_ok-push.ensures.ok c.in_ok-expression.ensures.tree c.loop-argument.invariant.0,
  one_placed (places.in_argument places.in_expression) (part.in_argument part.in_expression) c.args.arguments.now c.loop-argument.argument-index c.argument-item.result c.loop-argument.narrowed c.push.new.self
      (record { expression = c.in_ok-expression.expression }) _ c.loop-argument-test.true c.argument-item.is c.in_ok-push.ensures.ok c.in_ok-expression.ensures.places c.loop-argument.invariant.1,
)

pub narrow_arguments-returns-clause-tree : goal.narrow_arguments-returns-clause-tree
narrow_arguments-returns-clause-tree t c =
    no_more (λ a. whole.node_tree a.expression) (λ a. node_tree a.expression) c.args.arguments.now c.loop-argument.argument-index c.loop-argument.narrowed _ c.loop-argument-test.false c.loop-argument.invariant.0

pub narrow_arguments-returns-clause-places : goal.narrow_arguments-returns-clause-places
narrow_arguments-returns-clause-places t c =
    all_placed (places.in_argument places.in_expression) (part.in_argument part.in_expression) c.args.arguments.now c.loop-argument.argument-index c.loop-argument.narrowed _ c.loop-argument-test.false c.loop-argument.invariant.1

pub narrow_type-returns-in_err-narrowed-in-Some-clause-tree : goal.narrow_type-returns-in_err-narrowed-in-Some-clause-tree
narrow_type-returns-in_err-narrowed-in-Some-clause-tree t c =
    let same : c.from_residual.result ≡ Err c.in_err-narrowed-in-Some.field-0.0 = search rules in
    rw same (type_not c.args.ty.now c.in-Some.arguments c.as_slice.result.now c.in_err-narrowed-in-Some.field-0.0 c.in-Some.is (c.as_slice.ensures ∙ c.get.ensures) c.in_err-narrowed-in-Some.ensures.tree)

pub narrow_type-returns-clause-tree : goal.narrow_type-returns-clause-tree
narrow_type-returns-clause-tree t c = elim c.match-ty.branch [
  | narrow_type-in-None w ↦ rw w.template_args-is (plain_type_so c.args.ty.now c.in_ok-clone_in.field-0 c.in_ok-clone_in-2.field-0 w.in-None.is c.in_ok-clone_in.ensures c.in_ok-clone_in-2.ensures)
  | narrow_type-in-Some+in_ok-narrowed-in-Some+in_ok-new-in-Some w ↦ rw w.template_args-is (type_so c.args.ty.now c.in_ok-clone_in.field-0 c.in_ok-clone_in-2.field-0 w.in-Some.arguments w.as_slice.result.now
      w.in_ok-narrowed-in-Some.narrowed w.in_ok-new-in-Some.field-0 w.in-Some.is (w.as_slice.ensures ∙ w.get.ensures) w.in_ok-narrowed-in-Some.ensures.tree w.in_ok-new-in-Some.ensures c.in_ok-clone_in.ensures c.in_ok-clone_in-2.ensures)
]

pub narrow_type-returns-clause-places : goal.narrow_type-returns-clause-places
narrow_type-returns-clause-places t c = elim c.match-ty.branch [
  | narrow_type-in-None w ↦ rw w.template_args-is (plain_type_at c.args.ty.now c.in_ok-clone_in.field-0 c.in_ok-clone_in-2.field-0 w.in-None.is)
  | narrow_type-in-Some+in_ok-narrowed-in-Some+in_ok-new-in-Some w ↦ rw w.template_args-is (type_at c.args.ty.now c.in_ok-clone_in.field-0 c.in_ok-clone_in-2.field-0 w.in-Some.arguments w.as_slice.result.now
      w.in_ok-narrowed-in-Some.narrowed w.in_ok-new-in-Some.field-0 w.in-Some.is (w.as_slice.ensures ∙ w.get.ensures) w.in_ok-narrowed-in-Some.ensures.places w.in_ok-new-in-Some.ensures)
]

pub narrow_expression-returns-in_ok-expression-in-Parenthesized-clause-places : goal.narrow_expression-returns-in_ok-expression-in-Parenthesized-clause-places
narrow_expression-returns-in_ok-expression-in-Parenthesized-clause-places t c =
    parenthesized_at c.args.expression.now c.in-Parenthesized.x c.in_ok-expression-in-Parenthesized.expression c.in-Parenthesized.is c.in_ok-expression-in-Parenthesized.ensures.places

pub narrow_expression-returns-in_ok-operand-in-Unary-clause-places : goal.narrow_expression-returns-in_ok-operand-in-Unary-clause-places
narrow_expression-returns-in_ok-operand-in-Unary-clause-places t c =
    unary_at c.args.expression.now c.in-Unary.x c.in-Unary.x.operator c.in_ok-operand-in-Unary.operand c.in-Unary.is c.in_ok-operand-in-Unary.ensures.places

pub narrow_expression-returns-in_ok-new-in-FunctionCall-clause-places : goal.narrow_expression-returns-in_ok-new-in-FunctionCall-clause-places
narrow_expression-returns-in_ok-new-in-FunctionCall-clause-places t c =
    call_at c.args.expression.now c.in-FunctionCall.x c.get.result.now c.in_ok-call-in-FunctionCall.call c.in_ok-new-in-FunctionCall.field-0 c.in-FunctionCall.is c.get.ensures c.in_ok-call-in-FunctionCall.ensures.places c.in_ok-new-in-FunctionCall.ensures

pub narrow_expression-returns-in_ok-narrow_type-in-TypeOrIdentifier-clause-places : goal.narrow_expression-returns-in_ok-narrow_type-in-TypeOrIdentifier-clause-places
narrow_expression-returns-in_ok-narrow_type-in-TypeOrIdentifier-clause-places t c =
    named_at c.args.expression.now c.in-TypeOrIdentifier.x c.in_ok-narrow_type-in-TypeOrIdentifier.field-0 c.in-TypeOrIdentifier.is c.in_ok-narrow_type-in-TypeOrIdentifier.ensures.places
