use Rattle.std.proofs.Common.{◌≡◌, rules, Err}
use Rattle.wesl_visit_children.proofs.TurnsLemmas.{met_both, met_refusal_first}
use Rattle.wesl_visit_children.proofs.meet_modules.meet_function.Goals as goal

pub returns-in_err-meet_attributes-clause-met : goal.returns-in_err-meet_attributes-clause-met
returns-in_err-meet_attributes-clause-met g c =
    let same : c.from_residual.result ≡ Err c.in_err-meet_attributes.field-0.0 = search rules in
    rw same (met_refusal_first g.W.ReadParts.at _ (rw c.as_slice.ensures at c.in_err-meet_attributes.ensures.met))

pub returns-in_err-meet_parameters-clause-met : goal.returns-in_err-meet_parameters-clause-met
returns-in_err-meet_parameters-clause-met g c =
    let same : c.from_residual-in_err-meet_parameters.result ≡ Err c.in_err-meet_parameters.field-0.0 = search rules in
    rw same (met_both g.W.ReadParts.at (rw c.as_slice.ensures at c.in_ok-meet_attributes.ensures.met) (met_refusal_first g.W.ReadParts.at _ (rw c.as_slice-2.ensures at c.in_err-meet_parameters.ensures.met)))

pub returns-in_err-meet_attributes-2-clause-met : goal.returns-in_err-meet_attributes-2-clause-met
returns-in_err-meet_attributes-2-clause-met g c =
    let same : c.from_residual-in_err-meet_attributes-2.result ≡ Err c.in_err-meet_attributes-2.field-0.0 = search rules in
    rw same (met_both g.W.ReadParts.at (rw c.as_slice.ensures at c.in_ok-meet_attributes.ensures.met) (met_both g.W.ReadParts.at (rw c.as_slice-2.ensures at c.in_ok-meet_parameters.ensures.met) (met_refusal_first g.W.ReadParts.at _ (rw c.as_slice-3.ensures at c.in_err-meet_attributes-2.ensures.met))))

pub returns-in_err-meet_optional_type-clause-met : goal.returns-in_err-meet_optional_type-clause-met
returns-in_err-meet_optional_type-clause-met g c =
    let same : c.from_residual-in_err-meet_optional_type.result ≡ Err c.in_err-meet_optional_type.field-0.0 = search rules in
    rw same (met_both g.W.ReadParts.at (rw c.as_slice.ensures at c.in_ok-meet_attributes.ensures.met) (met_both g.W.ReadParts.at (rw c.as_slice-2.ensures at c.in_ok-meet_parameters.ensures.met) (met_both g.W.ReadParts.at (rw c.as_slice-3.ensures at c.in_ok-meet_attributes-2.ensures.met) (met_refusal_first g.W.ReadParts.at _ c.in_err-meet_optional_type.ensures.met))))

pub returns-clause-met : goal.returns-clause-met
returns-clause-met g c = met_both g.W.ReadParts.at (rw c.as_slice.ensures at c.in_ok-meet_attributes.ensures.met) (met_both g.W.ReadParts.at (rw c.as_slice-2.ensures at c.in_ok-meet_parameters.ensures.met) (met_both g.W.ReadParts.at (rw c.as_slice-3.ensures at c.in_ok-meet_attributes-2.ensures.met) (met_both g.W.ReadParts.at c.in_ok-meet_optional_type.ensures.met c.meet_block.ensures.met)))
