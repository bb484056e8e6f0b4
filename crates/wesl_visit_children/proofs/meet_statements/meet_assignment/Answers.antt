use Rattle.std.proofs.Common.{◌≡◌, rules, Err}
use Rattle.wesl_visit_children.proofs.TurnsLemmas.{met_both, met_refusal_first}
use Rattle.wesl_visit_children.proofs.meet_statements.meet_assignment.Goals as goal

pub returns-in_err-meet_attributes-clause-met : goal.returns-in_err-meet_attributes-clause-met
returns-in_err-meet_attributes-clause-met g c =
    let same : c.from_residual.result ≡ Err c.in_err-meet_attributes.field-0.0 = search rules in
    rw same (met_refusal_first g.W.ReadParts.at _ (rw c.as_slice.ensures at c.in_err-meet_attributes.ensures.met))

pub returns-in_err-meet_expression-clause-met : goal.returns-in_err-meet_expression-clause-met
returns-in_err-meet_expression-clause-met g c =
    let same : c.from_residual-in_err-meet_expression.result ≡ Err c.in_err-meet_expression.field-0.0 = search rules in
    rw same (met_both g.W.ReadParts.at (rw c.as_slice.ensures at c.in_ok-meet_attributes.ensures.met) (met_refusal_first g.W.ReadParts.at _ c.in_err-meet_expression.ensures.met))

pub returns-clause-met : goal.returns-clause-met
returns-clause-met g c = met_both g.W.ReadParts.at (rw c.as_slice.ensures at c.in_ok-meet_attributes.ensures.met) (met_both g.W.ReadParts.at c.in_ok-meet_expression.ensures.met (c.meet_expression-2.ensures.met))
