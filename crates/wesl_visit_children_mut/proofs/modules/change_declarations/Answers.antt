use Rattle.std.proofs.Common.{◌≡◌, ◌∙◌, rules, refl, ap, Err, length-set}
use Rattle.wesl_visit_children.specs.Turns.{changed_none}
use Rattle.wesl_visit_children.proofs.Lists.{map_stays, later_same}
use Rattle.wesl_visit_children.proofs.Loops.{changed_more, changed_refusal_at}
use Rattle.wesl_visit_children.specs.Parts.{in_declaration_node}
use Rattle.wesl_visit_children.specs.Rest.{around_declaration_node}
use Rattle.wesl_visit_children_mut.proofs.modules.change_declarations.Goals as goal

pub loop-i-init : goal.loop-i-init
loop-i-init g c = (search rules, changed_none, refl, refl, λ k d le. refl)

pub loop-i-preserved : goal.loop-i-preserved
loop-i-preserved g c = (
  c.in_ok-change_declaration.ensures.ready,
  changed_more g.W.WriteParts.at in_declaration_node c.args.w.now c.loop-i.w c.change_declaration.new.w c.args.declarations.now c.loop-i.declarations c.loop-i.i c.get_mut.result.now (record { node = c.change_declaration.new.declaration; span = c.get_mut.result.now.span }) (search rules) c.loop-i.invariant.3 c.get_mut.ensures.value c.loop-i.invariant.4 c.loop-i.invariant.1 (rw c.node_mut.ensures.value at c.in_ok-change_declaration.ensures.changed),
  map_stays (around_declaration_node g.W.WriteParts.rest) c.loop-i.declarations c.loop-i.i c.get_mut.result.now (record { node = c.change_declaration.new.declaration; span = c.get_mut.result.now.span }) (search rules) c.get_mut.ensures.value (ap (λ a. record { node = a; span = c.get_mut.result.now.span }) (rw c.node_mut.ensures.value at c.in_ok-change_declaration.ensures.rest)) ∙ c.loop-i.invariant.2,
  length-set c.loop-i.declarations c.loop-i.i (record { node = c.change_declaration.new.declaration; span = c.get_mut.result.now.span }) ∙ c.loop-i.invariant.3,
  later_same c.args.declarations.now c.loop-i.declarations c.loop-i.i (record { node = c.change_declaration.new.declaration; span = c.get_mut.result.now.span }) c.loop-i.invariant.4,
)

pub returns-in_err-change_declaration-clause-changed : goal.returns-in_err-change_declaration-clause-changed
returns-in_err-change_declaration-clause-changed g c =
    let same : c.from_residual.result ≡ Err c.in_err-change_declaration.field-0.0 = search rules in
    rw same (changed_refusal_at g.W.WriteParts.at in_declaration_node c.args.w.now c.loop-i.w c.change_declaration.new.w c.in_err-change_declaration.field-0.0 c.args.declarations.now c.loop-i.declarations c.loop-i.i c.get_mut.result.now (record { node = c.change_declaration.new.declaration; span = c.get_mut.result.now.span }) (search rules) c.loop-i.invariant.3 c.get_mut.ensures.value c.loop-i.invariant.4 c.loop-i.invariant.1 (rw c.node_mut.ensures.value at c.in_err-change_declaration.ensures.changed))

pub returns-in_err-change_declaration-clause-rest : goal.returns-in_err-change_declaration-clause-rest
returns-in_err-change_declaration-clause-rest g c = map_stays (around_declaration_node g.W.WriteParts.rest) c.loop-i.declarations c.loop-i.i c.get_mut.result.now (record { node = c.change_declaration.new.declaration; span = c.get_mut.result.now.span }) (search rules) c.get_mut.ensures.value (ap (λ a. record { node = a; span = c.get_mut.result.now.span }) (rw c.node_mut.ensures.value at c.in_err-change_declaration.ensures.rest)) ∙ c.loop-i.invariant.2
