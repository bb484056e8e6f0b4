use Rattle.std.proofs.Common.{◌≡◌, rules, Err}
use Rattle.wesl_visit_children.specs.Turns.{called_none}
use Rattle.wesl_visit_children.proofs.Loops.{met_more, met_refusal_at}
use Rattle.wesl_visit_children.specs.Parts.{in_attribute}
use Rattle.wesl_visit_children.proofs.meet.meet_attributes.Goals as goal

pub loop-attribute-init : goal.loop-attribute-init
loop-attribute-init g c = (search rules, called_none)

pub loop-attribute-preserved : goal.loop-attribute-preserved
loop-attribute-preserved g c = (c.in_ok-meet_attribute.ensures.ready, met_more g.W.ReadParts.at in_attribute c.args.w.now c.loop-attribute.w c.meet_attribute.new.w c.args.attributes.now c.loop-attribute.attribute-index c.attribute-item.result c.loop-attribute-test.true c.attribute-item.is c.loop-attribute.invariant.1 c.in_ok-meet_attribute.ensures.met)

pub returns-in_err-meet_attribute-clause-met : goal.returns-in_err-meet_attribute-clause-met
returns-in_err-meet_attribute-clause-met g c =
    let same : c.from_residual.result ≡ Err c.in_err-meet_attribute.field-0.0 = search rules in
    rw same (met_refusal_at g.W.ReadParts.at in_attribute c.args.w.now c.loop-attribute.w c.meet_attribute.new.w c.in_err-meet_attribute.field-0.0 c.args.attributes.now c.loop-attribute.attribute-index c.attribute-item.result c.loop-attribute-test.true c.attribute-item.is c.loop-attribute.invariant.1 c.in_err-meet_attribute.ensures.met)
