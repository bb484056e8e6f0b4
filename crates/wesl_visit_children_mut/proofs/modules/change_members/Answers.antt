use Rattle.std.proofs.Common.{◌≡◌, ◌∙◌, rules, refl, ap, Err, length-set}
use Rattle.wesl_visit_children.specs.Turns.{changed_none}
use Rattle.wesl_visit_children.proofs.Lists.{map_stays, later_same}
use Rattle.wesl_visit_children.proofs.Loops.{changed_more, changed_refusal_at}
use Rattle.wesl_visit_children.specs.Parts.{in_member_node}
use Rattle.wesl_visit_children.specs.Rest.{around_member_node}
use Rattle.wesl_visit_children_mut.proofs.modules.change_members.Goals as goal

pub loop-i-init : goal.loop-i-init
loop-i-init g c = (search rules, changed_none, refl, refl, λ k d le. refl)

pub loop-i-preserved : goal.loop-i-preserved
loop-i-preserved g c = (
  c.in_ok-change_member.ensures.ready,
  changed_more g.W.WriteParts.at in_member_node c.args.w.now c.loop-i.w c.change_member.new.w c.args.members.now c.loop-i.members c.loop-i.i c.get_mut.result.now (record { node = c.change_member.new.x; span = c.get_mut.result.now.span }) (search rules) c.loop-i.invariant.3 c.get_mut.ensures.value c.loop-i.invariant.4 c.loop-i.invariant.1 (rw c.node_mut.ensures.value at c.in_ok-change_member.ensures.changed),
  map_stays (around_member_node g.W.WriteParts.rest) c.loop-i.members c.loop-i.i c.get_mut.result.now (record { node = c.change_member.new.x; span = c.get_mut.result.now.span }) (search rules) c.get_mut.ensures.value (ap (λ a. record { node = a; span = c.get_mut.result.now.span }) (rw c.node_mut.ensures.value at c.in_ok-change_member.ensures.rest)) ∙ c.loop-i.invariant.2,
  length-set c.loop-i.members c.loop-i.i (record { node = c.change_member.new.x; span = c.get_mut.result.now.span }) ∙ c.loop-i.invariant.3,
  later_same c.args.members.now c.loop-i.members c.loop-i.i (record { node = c.change_member.new.x; span = c.get_mut.result.now.span }) c.loop-i.invariant.4,
)

pub returns-in_err-change_member-clause-changed : goal.returns-in_err-change_member-clause-changed
returns-in_err-change_member-clause-changed g c =
    let same : c.from_residual.result ≡ Err c.in_err-change_member.field-0.0 = search rules in
    rw same (changed_refusal_at g.W.WriteParts.at in_member_node c.args.w.now c.loop-i.w c.change_member.new.w c.in_err-change_member.field-0.0 c.args.members.now c.loop-i.members c.loop-i.i c.get_mut.result.now (record { node = c.change_member.new.x; span = c.get_mut.result.now.span }) (search rules) c.loop-i.invariant.3 c.get_mut.ensures.value c.loop-i.invariant.4 c.loop-i.invariant.1 (rw c.node_mut.ensures.value at c.in_err-change_member.ensures.changed))

pub returns-in_err-change_member-clause-rest : goal.returns-in_err-change_member-clause-rest
returns-in_err-change_member-clause-rest g c = map_stays (around_member_node g.W.WriteParts.rest) c.loop-i.members c.loop-i.i c.get_mut.result.now (record { node = c.change_member.new.x; span = c.get_mut.result.now.span }) (search rules) c.get_mut.ensures.value (ap (λ a. record { node = a; span = c.get_mut.result.now.span }) (rw c.node_mut.ensures.value at c.in_err-change_member.ensures.rest)) ∙ c.loop-i.invariant.2
