use Rattle.std.proofs.Common.{◌≡◌, rules, Err}
use Rattle.wesl_visit_children.proofs.TurnsLemmas.{met_both, met_refusal_first}
use Rattle.wesl_visit_children.proofs.meet_modules.meet_struct.Goals as goal

pub returns-in_err-meet_attributes-clause-met : goal.returns-in_err-meet_attributes-clause-met
returns-in_err-meet_attributes-clause-met g c =
    let same : c.from_residual.result ≡ Err c.in_err-meet_attributes.field-0.0 = search rules in
    rw same (met_refusal_first g.W.ReadParts.at _ (rw c.as_slice.ensures at c.in_err-meet_attributes.ensures.met))

pub returns-clause-met : goal.returns-clause-met
returns-clause-met g c = met_both g.W.ReadParts.at (rw c.as_slice.ensures at c.in_ok-meet_attributes.ensures.met) (rw c.as_slice-2.ensures at c.meet_members.ensures.met)
