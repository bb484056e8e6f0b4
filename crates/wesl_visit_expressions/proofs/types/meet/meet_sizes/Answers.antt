use Rattle.std.proofs.Common.{◌≡◌, rules, Err}
use Rattle.wesl_visit_expressions.specs.Types.{types_inside}
use Rattle.wesl_visit_children.proofs.Deep.{met_both, met_refusal_first}
use Rattle.std.specs.Fn.{CalledAt}
use Rattle.wesl_visit_expressions.proofs.types.meet.meet_sizes.Goals as goal

pub returns-in_err-meet_expression-clause-met : goal.returns-in_err-meet_expression-clause-met
returns-in_err-meet_expression-clause-met g c =
    let same : c.from_residual.result ≡ Err c.in_err-meet_expression.field-0.0 = search rules in
    rw same (met_refusal_first types_inside (CalledAt g.F.FnMut) _ (rw c.node.ensures at c.in_err-meet_expression.ensures.met))

pub returns-in_err-meet_option-clause-met : goal.returns-in_err-meet_option-clause-met
returns-in_err-meet_option-clause-met g c =
    let same : c.from_residual-in_err-meet_option.result ≡ Err c.in_err-meet_option.field-0.0 = search rules in
    rw same (met_both types_inside (CalledAt g.F.FnMut) (rw c.node.ensures at c.in_ok-meet_expression.ensures.met) (met_refusal_first types_inside (CalledAt g.F.FnMut) _ c.in_err-meet_option.ensures.met))

pub returns-clause-met : goal.returns-clause-met
returns-clause-met g c = met_both types_inside (CalledAt g.F.FnMut) (rw c.node.ensures at c.in_ok-meet_expression.ensures.met) (met_both types_inside (CalledAt g.F.FnMut) c.in_ok-meet_option.ensures.met (c.meet_option-2.ensures.met))
