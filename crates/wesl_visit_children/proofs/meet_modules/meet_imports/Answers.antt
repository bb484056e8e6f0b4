use Rattle.std.proofs.Common.{◌≡◌, rules, Err}
use Rattle.wesl_visit_children.specs.Turns.{called_none}
use Rattle.wesl_visit_children.proofs.Loops.{met_more, met_refusal_at}
use Rattle.wesl_visit_children.specs.Parts.{in_import}
use Rattle.wesl_visit_children.proofs.meet_modules.meet_imports.Goals as goal

pub loop-import-init : goal.loop-import-init
loop-import-init g c = (search rules, called_none)

pub loop-import-preserved : goal.loop-import-preserved
loop-import-preserved g c = (c.in_ok-meet_import.ensures.ready, met_more g.W.ReadParts.at in_import c.args.w.now c.loop-import.w c.meet_import.new.w c.args.imports.now c.loop-import.import-index c.import-item.result c.loop-import-test.true c.import-item.is c.loop-import.invariant.1 c.in_ok-meet_import.ensures.met)

pub returns-in_err-meet_import-clause-met : goal.returns-in_err-meet_import-clause-met
returns-in_err-meet_import-clause-met g c =
    let same : c.from_residual.result ≡ Err c.in_err-meet_import.field-0.0 = search rules in
    rw same (met_refusal_at g.W.ReadParts.at in_import c.args.w.now c.loop-import.w c.meet_import.new.w c.in_err-meet_import.field-0.0 c.args.imports.now c.loop-import.import-index c.import-item.result c.loop-import-test.true c.import-item.is c.loop-import.invariant.1 c.in_err-meet_import.ensures.met)
