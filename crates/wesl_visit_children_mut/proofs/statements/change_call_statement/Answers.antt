use Rattle.std.proofs.Common.{◌≡◌, rules, Err}
use Rattle.wesl_visit_children.proofs.TurnsLemmas.{changed_both, changed_refusal_first}
use Rattle.wesl_visit_children_mut.proofs.statements.change_call_statement.Goals as goal

pub returns-in_err-change_attributes-clause-changed : goal.returns-in_err-change_attributes-clause-changed
returns-in_err-change_attributes-clause-changed g c =
    let same : c.from_residual.result ≡ Err c.in_err-change_attributes.field-0.0 = search rules in
    rw same (changed_refusal_first g.W.WriteParts.at _ c.in_err-change_attributes.ensures.changed)

pub returns-clause-changed : goal.returns-clause-changed
returns-clause-changed g c = changed_both g.W.WriteParts.at c.in_ok-change_attributes.ensures.changed c.change_call.ensures.changed
