use Rattle.std.proofs.Common.{◌≡◌, ◌∙◌, rules, refl, Err, length-set}
use Rattle.wesl_visit_children.specs.Turns.{changed_none}
use Rattle.wesl_visit_children.proofs.Lists.{map_stays, later_same}
use Rattle.wesl_visit_children.proofs.Loops.{changed_more, changed_refusal_at}
use Rattle.wesl_visit_children.specs.Parts.{in_expression}
use Rattle.wesl_visit_children_mut.proofs.parts.change_arguments.Goals as goal

pub loop-i-init : goal.loop-i-init
loop-i-init g c = (search rules, changed_none, refl, refl, λ k d le. refl)

pub loop-i-preserved : goal.loop-i-preserved
loop-i-preserved g c = (
  c.in_ok-change_expression.ensures.ready,
  changed_more g.W.WriteParts.at in_expression c.args.w.now c.loop-i.w c.change_expression.new.w c.args.arguments.now c.loop-i.arguments c.loop-i.i c.get_mut.result.now c.change_expression.new.expression (search rules) c.loop-i.invariant.3 c.get_mut.ensures.value c.loop-i.invariant.4 c.loop-i.invariant.1 c.in_ok-change_expression.ensures.changed,
  map_stays g.W.WriteParts.rest.expression c.loop-i.arguments c.loop-i.i c.get_mut.result.now c.change_expression.new.expression (search rules) c.get_mut.ensures.value c.in_ok-change_expression.ensures.rest ∙ c.loop-i.invariant.2,
  length-set c.loop-i.arguments c.loop-i.i c.change_expression.new.expression ∙ c.loop-i.invariant.3,
  later_same c.args.arguments.now c.loop-i.arguments c.loop-i.i c.change_expression.new.expression c.loop-i.invariant.4,
)

pub returns-in_err-change_expression-clause-changed : goal.returns-in_err-change_expression-clause-changed
returns-in_err-change_expression-clause-changed g c =
    let same : c.from_residual.result ≡ Err c.in_err-change_expression.field-0.0 = search rules in
    rw same (changed_refusal_at g.W.WriteParts.at in_expression c.args.w.now c.loop-i.w c.change_expression.new.w c.in_err-change_expression.field-0.0 c.args.arguments.now c.loop-i.arguments c.loop-i.i c.get_mut.result.now c.change_expression.new.expression (search rules) c.loop-i.invariant.3 c.get_mut.ensures.value c.loop-i.invariant.4 c.loop-i.invariant.1 c.in_err-change_expression.ensures.changed)

pub returns-in_err-change_expression-clause-rest : goal.returns-in_err-change_expression-clause-rest
returns-in_err-change_expression-clause-rest g c = map_stays g.W.WriteParts.rest.expression c.loop-i.arguments c.loop-i.i c.get_mut.result.now c.change_expression.new.expression (search rules) c.get_mut.ensures.value c.in_err-change_expression.ensures.rest ∙ c.loop-i.invariant.2
