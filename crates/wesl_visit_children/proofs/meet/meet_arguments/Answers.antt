use Rattle.std.proofs.Common.{◌≡◌, rules, Err}
use Rattle.wesl_visit_children.specs.Turns.{called_none}
use Rattle.wesl_visit_children.proofs.Loops.{met_more, met_refusal_at}
use Rattle.wesl_visit_children.specs.Parts.{in_expression}
use Rattle.wesl_visit_children.proofs.meet.meet_arguments.Goals as goal

pub loop-argument-init : goal.loop-argument-init
loop-argument-init g c = (search rules, called_none)

pub loop-argument-preserved : goal.loop-argument-preserved
loop-argument-preserved g c = (c.in_ok-meet_expression.ensures.ready, met_more g.W.ReadParts.at in_expression c.args.w.now c.loop-argument.w c.meet_expression.new.w c.args.arguments.now c.loop-argument.argument-index c.argument-item.result c.loop-argument-test.true c.argument-item.is c.loop-argument.invariant.1 c.in_ok-meet_expression.ensures.met)

pub returns-in_err-meet_expression-clause-met : goal.returns-in_err-meet_expression-clause-met
returns-in_err-meet_expression-clause-met g c =
    let same : c.from_residual.result ≡ Err c.in_err-meet_expression.field-0.0 = search rules in
    rw same (met_refusal_at g.W.ReadParts.at in_expression c.args.w.now c.loop-argument.w c.meet_expression.new.w c.in_err-meet_expression.field-0.0 c.args.arguments.now c.loop-argument.argument-index c.argument-item.result c.loop-argument-test.true c.argument-item.is c.loop-argument.invariant.1 c.in_err-meet_expression.ensures.met)
