use Rattle.std.proofs.Common.{◌≡◌, rules, Err}
use Rattle.wesl_visit_children.specs.Turns.{called_none}
use Rattle.wesl_visit_children.proofs.Loops.{met_more, met_refusal_at}
use Rattle.wesl_visit_children.specs.Parts.{in_parameter}
use Rattle.wesl_visit_children.proofs.meet_modules.meet_parameters.Goals as goal

pub loop-parameter-init : goal.loop-parameter-init
loop-parameter-init g c = (search rules, called_none)

pub loop-parameter-preserved : goal.loop-parameter-preserved
loop-parameter-preserved g c = (c.in_ok-meet_parameter.ensures.ready, met_more g.W.ReadParts.at in_parameter c.args.w.now c.loop-parameter.w c.meet_parameter.new.w c.args.parameters.now c.loop-parameter.parameter-index c.parameter-item.result c.loop-parameter-test.true c.parameter-item.is c.loop-parameter.invariant.1 c.in_ok-meet_parameter.ensures.met)

pub returns-in_err-meet_parameter-clause-met : goal.returns-in_err-meet_parameter-clause-met
returns-in_err-meet_parameter-clause-met g c =
    let same : c.from_residual.result ≡ Err c.in_err-meet_parameter.field-0.0 = search rules in
    rw same (met_refusal_at g.W.ReadParts.at in_parameter c.args.w.now c.loop-parameter.w c.meet_parameter.new.w c.in_err-meet_parameter.field-0.0 c.args.parameters.now c.loop-parameter.parameter-index c.parameter-item.result c.loop-parameter-test.true c.parameter-item.is c.loop-parameter.invariant.1 c.in_err-meet_parameter.ensures.met)
