use Rattle.std.proofs.Common.{◌∙◌}
use Rattle.core_widening.proofs.Steps.{parenthesized_so, unary_so, call_so, plain_type_so, type_so}
use Rattle.core_widening.proofs.expressions.+widen.Goals.{widen_type-in-None, widen_type-in-Some+in_ok-widened-in-Some+in_ok-new-in-Some}
use Rattle.core_widening.proofs.expressions.+widen.Goals as goal

pub widen_expression-returns-in_ok-expression-in-Parenthesized : goal.widen_expression-returns-in_ok-expression-in-Parenthesized
widen_expression-returns-in_ok-expression-in-Parenthesized t c =
    parenthesized_so c.args.expression.now c.in-Parenthesized.x c.in_ok-expression-in-Parenthesized.expression c.in-Parenthesized.is c.in_ok-expression-in-Parenthesized.ensures

pub widen_expression-returns-in_ok-operand-in-Unary : goal.widen_expression-returns-in_ok-operand-in-Unary
widen_expression-returns-in_ok-operand-in-Unary t c =
    unary_so c.args.expression.now c.in-Unary.x c.in_ok-operand-in-Unary.operand c.in-Unary.is c.in_ok-operand-in-Unary.ensures

pub widen_call-returns : goal.widen_call-returns
widen_call-returns t c =
    call_so c.args.x.now c.as_slice.result.now c.in_ok-ty.ty c.in_ok-ty.arguments c.widen_type-ty.result c.widen_nodes.result c.as_slice.ensures c.in_ok-ty.ensures c.widen_type-ty.ensures c.widen_nodes.ensures

pub widen_type-returns : goal.widen_type-returns
widen_type-returns t c = elim c.match-ty.branch [
  | widen_type-in-None w ↦ rw w.template_args-is (plain_type_so c.args.ty.now c.in_ok-clone_in.field-0 c.in_ok-clone_in-2.field-0 w.in-None.is c.in_ok-clone_in.ensures c.in_ok-clone_in-2.ensures)
  | widen_type-in-Some+in_ok-widened-in-Some+in_ok-new-in-Some w ↦ rw w.template_args-is (type_so c.args.ty.now c.in_ok-clone_in.field-0 c.in_ok-clone_in-2.field-0 w.in-Some.arguments w.as_slice.result.now
      w.in_ok-widened-in-Some.widened w.in_ok-new-in-Some.field-0 w.in-Some.is (w.as_slice.ensures ∙ w.get.ensures) w.in_ok-widened-in-Some.ensures w.in_ok-new-in-Some.ensures c.in_ok-clone_in.ensures c.in_ok-clone_in-2.ensures)
]
