use Rattle.std.proofs.Common.{◌≡◌, rules, Err}
use Rattle.wesl_visit_children.specs.Turns.{called_none}
use Rattle.wesl_visit_children.proofs.Loops.{met_more, met_refusal_at}
use Rattle.wesl_visit_children.specs.Parts.{in_selector}
use Rattle.wesl_visit_children.proofs.meet_statements.meet_selectors.Goals as goal

pub loop-selector-init : goal.loop-selector-init
loop-selector-init g c = (search rules, called_none)

pub loop-selector-preserved : goal.loop-selector-preserved
loop-selector-preserved g c = (c.in_ok-meet_selector.ensures.ready, met_more g.W.ReadParts.at in_selector c.args.w.now c.loop-selector.w c.meet_selector.new.w c.args.selectors.now c.loop-selector.selector-index c.selector-item.result c.loop-selector-test.true c.selector-item.is c.loop-selector.invariant.1 c.in_ok-meet_selector.ensures.met)

pub returns-in_err-meet_selector-clause-met : goal.returns-in_err-meet_selector-clause-met
returns-in_err-meet_selector-clause-met g c =
    let same : c.from_residual.result ≡ Err c.in_err-meet_selector.field-0.0 = search rules in
    rw same (met_refusal_at g.W.ReadParts.at in_selector c.args.w.now c.loop-selector.w c.meet_selector.new.w c.in_err-meet_selector.field-0.0 c.args.selectors.now c.loop-selector.selector-index c.selector-item.result c.loop-selector-test.true c.selector-item.is c.loop-selector.invariant.1 c.in_err-meet_selector.ensures.met)
