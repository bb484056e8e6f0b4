use Rattle.std.proofs.Common.{◌≡◌, ◌∙◌, rules, refl, Err, length-set}
use Rattle.wesl_visit_children.specs.Turns.{changed_none}
use Rattle.wesl_visit_children.proofs.Lists.{map_stays, later_same}
use Rattle.wesl_visit_children.proofs.Loops.{changed_more, changed_refusal_at}
use Rattle.wesl_visit_children.specs.Parts.{in_parameter}
use Rattle.wesl_visit_children.specs.Rest.{around_parameter}
use Rattle.wesl_visit_children_mut.proofs.modules.change_parameters.Goals as goal

pub loop-i-init : goal.loop-i-init
loop-i-init g c = (search rules, changed_none, refl, refl, λ k d le. refl)

pub loop-i-preserved : goal.loop-i-preserved
loop-i-preserved g c = (
  c.in_ok-change_parameter.ensures.ready,
  changed_more g.W.WriteParts.at in_parameter c.args.w.now c.loop-i.w c.change_parameter.new.w c.args.parameters.now c.loop-i.parameters c.loop-i.i c.get_mut.result.now c.change_parameter.new.x (search rules) c.loop-i.invariant.3 c.get_mut.ensures.value c.loop-i.invariant.4 c.loop-i.invariant.1 c.in_ok-change_parameter.ensures.changed,
  map_stays (around_parameter g.W.WriteParts.rest) c.loop-i.parameters c.loop-i.i c.get_mut.result.now c.change_parameter.new.x (search rules) c.get_mut.ensures.value (c.in_ok-change_parameter.ensures.rest) ∙ c.loop-i.invariant.2,
  length-set c.loop-i.parameters c.loop-i.i c.change_parameter.new.x ∙ c.loop-i.invariant.3,
  later_same c.args.parameters.now c.loop-i.parameters c.loop-i.i c.change_parameter.new.x c.loop-i.invariant.4,
)

pub returns-in_err-change_parameter-clause-changed : goal.returns-in_err-change_parameter-clause-changed
returns-in_err-change_parameter-clause-changed g c =
    let same : c.from_residual.result ≡ Err c.in_err-change_parameter.field-0.0 = search rules in
    rw same (changed_refusal_at g.W.WriteParts.at in_parameter c.args.w.now c.loop-i.w c.change_parameter.new.w c.in_err-change_parameter.field-0.0 c.args.parameters.now c.loop-i.parameters c.loop-i.i c.get_mut.result.now c.change_parameter.new.x (search rules) c.loop-i.invariant.3 c.get_mut.ensures.value c.loop-i.invariant.4 c.loop-i.invariant.1 c.in_err-change_parameter.ensures.changed)

pub returns-in_err-change_parameter-clause-rest : goal.returns-in_err-change_parameter-clause-rest
returns-in_err-change_parameter-clause-rest g c = map_stays (around_parameter g.W.WriteParts.rest) c.loop-i.parameters c.loop-i.i c.get_mut.result.now c.change_parameter.new.x (search rules) c.get_mut.ensures.value (c.in_err-change_parameter.ensures.rest) ∙ c.loop-i.invariant.2
