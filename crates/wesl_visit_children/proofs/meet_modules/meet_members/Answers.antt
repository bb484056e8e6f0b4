use Rattle.std.proofs.Common.{◌≡◌, rules, Err}
use Rattle.wesl_visit_children.specs.Turns.{called_none}
use Rattle.wesl_visit_children.proofs.Loops.{met_more, met_refusal_at}
use Rattle.wesl_visit_children.specs.Parts.{in_member_node}
use Rattle.wesl_visit_children.proofs.meet_modules.meet_members.Goals as goal

pub loop-member-init : goal.loop-member-init
loop-member-init g c = (search rules, called_none)

pub loop-member-preserved : goal.loop-member-preserved
loop-member-preserved g c = (c.in_ok-meet_member.ensures.ready, met_more g.W.ReadParts.at in_member_node c.args.w.now c.loop-member.w c.meet_member.new.w c.args.members.now c.loop-member.member-index c.member-item.result c.loop-member-test.true c.member-item.is c.loop-member.invariant.1 (rw c.node.ensures at c.in_ok-meet_member.ensures.met))

pub returns-in_err-meet_member-clause-met : goal.returns-in_err-meet_member-clause-met
returns-in_err-meet_member-clause-met g c =
    let same : c.from_residual.result ≡ Err c.in_err-meet_member.field-0.0 = search rules in
    rw same (met_refusal_at g.W.ReadParts.at in_member_node c.args.w.now c.loop-member.w c.meet_member.new.w c.in_err-meet_member.field-0.0 c.args.members.now c.loop-member.member-index c.member-item.result c.loop-member-test.true c.member-item.is c.loop-member.invariant.1 (rw c.node.ensures at c.in_err-meet_member.ensures.met))
