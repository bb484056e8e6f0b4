use Rattle.std.proofs.Common.{◌≡◌, rules, Err}
use Rattle.wesl_visit_children.proofs.TurnsLemmas.{changed_both, changed_refusal_first}
use Rattle.wesl_visit_children_mut.proofs.parts.change_call.Goals as goal

pub returns-in_err-change_type-clause-changed : goal.returns-in_err-change_type-clause-changed
returns-in_err-change_type-clause-changed g c =
    let same : c.from_residual.result ≡ Err c.in_err-change_type.field-0.0 = search rules in
    rw same (changed_refusal_first g.W.WriteParts.at _ c.in_err-change_type.ensures.changed)

pub returns-clause-changed : goal.returns-clause-changed
returns-clause-changed g c = changed_both g.W.WriteParts.at c.in_ok-change_type.ensures.changed c.change_arguments.ensures.changed
