use Rattle.std.proofs.Common.{◌≡◌, rules, Err}
use Rattle.wesl_visit_children.specs.Turns.{called_none}
use Rattle.wesl_visit_children.proofs.Loops.{met_more, met_refusal_at}
use Rattle.wesl_visit_children.specs.Parts.{in_directive}
use Rattle.wesl_visit_children.proofs.meet_modules.meet_directives.Goals as goal

pub loop-directive-init : goal.loop-directive-init
loop-directive-init g c = (search rules, called_none)

pub loop-directive-preserved : goal.loop-directive-preserved
loop-directive-preserved g c = (c.in_ok-meet_directive.ensures.ready, met_more g.W.ReadParts.at in_directive c.args.w.now c.loop-directive.w c.meet_directive.new.w c.args.directives.now c.loop-directive.directive-index c.directive-item.result c.loop-directive-test.true c.directive-item.is c.loop-directive.invariant.1 c.in_ok-meet_directive.ensures.met)

pub returns-in_err-meet_directive-clause-met : goal.returns-in_err-meet_directive-clause-met
returns-in_err-meet_directive-clause-met g c =
    let same : c.from_residual.result ≡ Err c.in_err-meet_directive.field-0.0 = search rules in
    rw same (met_refusal_at g.W.ReadParts.at in_directive c.args.w.now c.loop-directive.w c.meet_directive.new.w c.in_err-meet_directive.field-0.0 c.args.directives.now c.loop-directive.directive-index c.directive-item.result c.loop-directive-test.true c.directive-item.is c.loop-directive.invariant.1 c.in_err-meet_directive.ensures.met)
