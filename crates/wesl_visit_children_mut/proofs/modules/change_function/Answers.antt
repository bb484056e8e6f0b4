use Rattle.std.proofs.Common.{◌≡◌, rules, Err}
use Rattle.wesl_visit_children.proofs.TurnsLemmas.{changed_both, changed_refusal_first}
use Rattle.wesl_visit_children_mut.proofs.modules.change_function.Goals as goal

pub returns-in_err-change_attributes-clause-changed : goal.returns-in_err-change_attributes-clause-changed
returns-in_err-change_attributes-clause-changed g c =
    let same : c.from_residual.result ≡ Err c.in_err-change_attributes.field-0.0 = search rules in
    rw same (changed_refusal_first g.W.WriteParts.at _ c.in_err-change_attributes.ensures.changed)

pub returns-in_err-change_parameters-clause-changed : goal.returns-in_err-change_parameters-clause-changed
returns-in_err-change_parameters-clause-changed g c =
    let same : c.from_residual-in_err-change_parameters.result ≡ Err c.in_err-change_parameters.field-0.0 = search rules in
    rw same (changed_both g.W.WriteParts.at c.in_ok-change_attributes.ensures.changed (changed_refusal_first g.W.WriteParts.at _ c.in_err-change_parameters.ensures.changed))

pub returns-in_err-change_attributes-2-clause-changed : goal.returns-in_err-change_attributes-2-clause-changed
returns-in_err-change_attributes-2-clause-changed g c =
    let same : c.from_residual-in_err-change_attributes-2.result ≡ Err c.in_err-change_attributes-2.field-0.0 = search rules in
    rw same (changed_both g.W.WriteParts.at c.in_ok-change_attributes.ensures.changed (changed_both g.W.WriteParts.at c.in_ok-change_parameters.ensures.changed (changed_refusal_first g.W.WriteParts.at _ c.in_err-change_attributes-2.ensures.changed)))

pub returns-in_err-change_optional_type-clause-changed : goal.returns-in_err-change_optional_type-clause-changed
returns-in_err-change_optional_type-clause-changed g c =
    let same : c.from_residual-in_err-change_optional_type.result ≡ Err c.in_err-change_optional_type.field-0.0 = search rules in
    rw same (changed_both g.W.WriteParts.at c.in_ok-change_attributes.ensures.changed (changed_both g.W.WriteParts.at c.in_ok-change_parameters.ensures.changed (changed_both g.W.WriteParts.at c.in_ok-change_attributes-2.ensures.changed (changed_refusal_first g.W.WriteParts.at _ c.in_err-change_optional_type.ensures.changed))))

pub returns-clause-changed : goal.returns-clause-changed
returns-clause-changed g c = changed_both g.W.WriteParts.at c.in_ok-change_attributes.ensures.changed (changed_both g.W.WriteParts.at c.in_ok-change_parameters.ensures.changed (changed_both g.W.WriteParts.at c.in_ok-change_attributes-2.ensures.changed (changed_both g.W.WriteParts.at c.in_ok-change_optional_type.ensures.changed c.change_block.ensures.changed)))
