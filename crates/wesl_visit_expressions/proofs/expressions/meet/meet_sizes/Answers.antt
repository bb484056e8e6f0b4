use Rattle.std.proofs.Common.{◌≡◌, rules, Err}
use Rattle.wesl_visit_expressions.specs.Expressions.{expressions_inside}
use Rattle.wesl_visit_children.proofs.Deep.{met_both, met_refusal_first}
use Rattle.std.specs.Fn.{CalledAt}
use Rattle.wesl_visit_expressions.proofs.expressions.meet.meet_sizes.Goals as goal

pub returns-in_err-meet_node-clause-met : goal.returns-in_err-meet_node-clause-met
returns-in_err-meet_node-clause-met g c =
    let same : c.from_residual.result ≡ Err c.in_err-meet_node.field-0.0 = search rules in
    rw same (met_refusal_first expressions_inside (CalledAt g.F.FnMut) _ c.in_err-meet_node.ensures.met)

pub returns-in_err-meet_option-clause-met : goal.returns-in_err-meet_option-clause-met
returns-in_err-meet_option-clause-met g c =
    let same : c.from_residual-in_err-meet_option.result ≡ Err c.in_err-meet_option.field-0.0 = search rules in
    rw same (met_both expressions_inside (CalledAt g.F.FnMut) c.in_ok-meet_node.ensures.met (met_refusal_first expressions_inside (CalledAt g.F.FnMut) _ c.in_err-meet_option.ensures.met))

pub returns-clause-met : goal.returns-clause-met
returns-clause-met g c = met_both expressions_inside (CalledAt g.F.FnMut) c.in_ok-meet_node.ensures.met (met_both expressions_inside (CalledAt g.F.FnMut) c.in_ok-meet_option.ensures.met (c.meet_option-2.ensures.met))
