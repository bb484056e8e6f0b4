use Rattle.std.proofs.Common.{◌≡◌, rules, Err}
use Rattle.wesl_visit_children.proofs.TurnsLemmas.{met_both, met_refusal_first}
use Rattle.wesl_visit_children.proofs.meet_modules.meet_unit.Goals as goal

pub returns-in_err-meet_imports-clause-met : goal.returns-in_err-meet_imports-clause-met
returns-in_err-meet_imports-clause-met g c =
    let same : c.from_residual.result ≡ Err c.in_err-meet_imports.field-0.0 = search rules in
    rw same (met_refusal_first g.W.ReadParts.at _ (rw c.as_slice.ensures at c.in_err-meet_imports.ensures.met))

pub returns-in_err-meet_directives-clause-met : goal.returns-in_err-meet_directives-clause-met
returns-in_err-meet_directives-clause-met g c =
    let same : c.from_residual-in_err-meet_directives.result ≡ Err c.in_err-meet_directives.field-0.0 = search rules in
    rw same (met_both g.W.ReadParts.at (rw c.as_slice.ensures at c.in_ok-meet_imports.ensures.met) (met_refusal_first g.W.ReadParts.at _ (rw c.as_slice-2.ensures at c.in_err-meet_directives.ensures.met)))

pub returns-clause-met : goal.returns-clause-met
returns-clause-met g c = met_both g.W.ReadParts.at (rw c.as_slice.ensures at c.in_ok-meet_imports.ensures.met) (met_both g.W.ReadParts.at (rw c.as_slice-2.ensures at c.in_ok-meet_directives.ensures.met) (rw c.as_slice-3.ensures at c.meet_declarations.ensures.met))
