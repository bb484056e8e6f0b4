use Rattle.std.proofs.Common.{◌≡◌, ◌∙◌, ◌∷◌, [], rules, of_calls, refl, Err, length-set}
use Rattle.wesl_visit_expressions.specs.Expressions.{in_argument, around_node, around_argument, inside_by, around_by}
use Rattle.wesl_visit_children.specs.Turns.{remade_none, remade_refusal_inside}
use Rattle.wesl_visit_children.proofs.Deep.{changed_both, changed_refusal_first, changed_node}
use Rattle.wesl_visit_children.proofs.Lists.{singles, map_stays, later_same}
use Rattle.wesl_visit_children.proofs.DeepLoops.{changed_more, changed_refusal_at, changed_all}
use Rattle.wesl_visit_expressions.proofs.Turns.{nothing_inside}
use Rattle.wesl_visit_expressions.proofs.Cases.{inner}
use Rattle.std.specs.Fn.{CalledAtMut}
use Rattle.wesl_visit_expressions.proofs.expressions.change.+change.Goals as goal

pub change_expression-returns-in-Literal-clause-changed : goal.change_expression-returns-in-Literal-clause-changed
change_expression-returns-in-Literal-clause-changed g t c = search (rules, inner, remade_none)

pub change_nodes-loop-i-init : goal.change_nodes-loop-i-init
change_nodes-loop-i-init g t c = (search rules, remade_none, refl, refl, λ k d le. refl)

pub change_nodes-loop-i-preserved : goal.change_nodes-loop-i-preserved
change_nodes-loop-i-preserved g t c = (
  c.in_ok-change_node.ensures.callable,
  changed_more (inside_by c.args.deep) (around_by c.args.deep) (CalledAtMut g.F.FnMut) (λ n. n ∷ []) c.args.f.now c.loop-i.f c.change_node.new.f c.args.nodes.now c.loop-i.nodes c.loop-i.i c.get_mut.result.now c.change_node.new.node (search rules) c.loop-i.invariant.3 c.get_mut.ensures.value c.loop-i.invariant.4 c.loop-i.invariant.1 c.in_ok-change_node.ensures.changed,
  map_stays around_node c.loop-i.nodes c.loop-i.i c.get_mut.result.now c.change_node.new.node (search rules) c.get_mut.ensures.value refl ∙ c.loop-i.invariant.2,
  length-set c.loop-i.nodes c.loop-i.i c.change_node.new.node ∙ c.loop-i.invariant.3,
  later_same c.args.nodes.now c.loop-i.nodes c.loop-i.i c.change_node.new.node c.loop-i.invariant.4,
)

pub change_nodes-returns-in_err-change_node-clause-changed : goal.change_nodes-returns-in_err-change_node-clause-changed
change_nodes-returns-in_err-change_node-clause-changed g t c =
    let same : c.from_residual.result ≡ Err c.in_err-change_node.field-0.0 = search rules in
    rw same (simp singles at (changed_refusal_at (inside_by c.args.deep) (around_by c.args.deep) (CalledAtMut g.F.FnMut) (λ n. n ∷ []) c.args.f.now c.loop-i.f c.change_node.new.f c.in_err-change_node.field-0.0 c.args.nodes.now c.loop-i.nodes c.loop-i.i c.get_mut.result.now c.change_node.new.node (search rules) c.loop-i.invariant.3 c.get_mut.ensures.value c.loop-i.invariant.4 c.loop-i.invariant.1 c.in_err-change_node.ensures.changed))

pub change_nodes-returns-in_err-change_node-clause-rest : goal.change_nodes-returns-in_err-change_node-clause-rest
change_nodes-returns-in_err-change_node-clause-rest g t c = map_stays around_node c.loop-i.nodes c.loop-i.i c.get_mut.result.now c.change_node.new.node (search rules) c.get_mut.ensures.value refl ∙ c.loop-i.invariant.2

pub change_nodes-returns-clause-changed : goal.change_nodes-returns-clause-changed
change_nodes-returns-clause-changed g t c = simp singles at (changed_all (inside_by c.args.deep) (around_by c.args.deep) (CalledAtMut g.F.FnMut) (λ n. n ∷ []) c.args.f.now c.loop-i.f c.args.nodes.now c.loop-i.nodes c.loop-i.i (search rules) c.loop-i.invariant.3 c.loop-i.invariant.1)

pub change_indexing-returns-in_err-change_node-clause-changed : goal.change_indexing-returns-in_err-change_node-clause-changed
change_indexing-returns-in_err-change_node-clause-changed g t c =
    let same : c.from_residual.result ≡ Err c.in_err-change_node.field-0.0 = search rules in
    rw same (changed_refusal_first (inside_by c.args.deep) (around_by c.args.deep) (CalledAtMut g.F.FnMut) _ c.in_err-change_node.ensures.changed)

pub change_indexing-returns-clause-changed : goal.change_indexing-returns-clause-changed
change_indexing-returns-clause-changed g t c = changed_both (inside_by c.args.deep) (around_by c.args.deep) (CalledAtMut g.F.FnMut) c.in_ok-change_node.ensures.changed (c.change_node-2.ensures.changed)

pub change_binary-returns-in_err-change_node-clause-changed : goal.change_binary-returns-in_err-change_node-clause-changed
change_binary-returns-in_err-change_node-clause-changed g t c =
    let same : c.from_residual.result ≡ Err c.in_err-change_node.field-0.0 = search rules in
    rw same (changed_refusal_first (inside_by c.args.deep) (around_by c.args.deep) (CalledAtMut g.F.FnMut) _ c.in_err-change_node.ensures.changed)

pub change_binary-returns-clause-changed : goal.change_binary-returns-clause-changed
change_binary-returns-clause-changed g t c = changed_both (inside_by c.args.deep) (around_by c.args.deep) (CalledAtMut g.F.FnMut) c.in_ok-change_node.ensures.changed (c.change_node-2.ensures.changed)

pub change_call-returns-in_err-change_type-clause-changed : goal.change_call-returns-in_err-change_type-clause-changed
change_call-returns-in_err-change_type-clause-changed g t c =
    let same : c.from_residual.result ≡ Err c.in_err-change_type.field-0.0 = search rules in
    rw same (changed_refusal_first (inside_by c.args.deep) (around_by c.args.deep) (CalledAtMut g.F.FnMut) _ c.in_err-change_type.ensures.changed)

pub change_call-returns-clause-changed : goal.change_call-returns-clause-changed
change_call-returns-clause-changed g t c = changed_both (inside_by c.args.deep) (around_by c.args.deep) (CalledAtMut g.F.FnMut) c.in_ok-change_type.ensures.changed c.change_nodes.ensures.changed

pub change_type-returns-in-None-clause-changed : goal.change_type-returns-in-None-clause-changed
change_type-returns-in-None-clause-changed g t c = rw c.in-None.is remade_none

pub change_arguments-loop-i-init : goal.change_arguments-loop-i-init
change_arguments-loop-i-init g t c = (search rules, remade_none, refl, refl, λ k d le. refl)

pub change_arguments-loop-i-preserved : goal.change_arguments-loop-i-preserved
change_arguments-loop-i-preserved g t c = (
  c.in_ok-change_node.ensures.callable,
  changed_more (inside_by c.args.deep) (around_by c.args.deep) (CalledAtMut g.F.FnMut) in_argument c.args.f.now c.loop-i.f c.change_node.new.f c.args.arguments.now c.loop-i.arguments c.loop-i.i c.get_mut.result.now (record { expression = c.change_node.new.node }) (search rules) c.loop-i.invariant.3 c.get_mut.ensures.value c.loop-i.invariant.4 c.loop-i.invariant.1 c.in_ok-change_node.ensures.changed,
  map_stays around_argument c.loop-i.arguments c.loop-i.i c.get_mut.result.now (record { expression = c.change_node.new.node }) (search rules) c.get_mut.ensures.value refl ∙ c.loop-i.invariant.2,
  length-set c.loop-i.arguments c.loop-i.i (record { expression = c.change_node.new.node }) ∙ c.loop-i.invariant.3,
  later_same c.args.arguments.now c.loop-i.arguments c.loop-i.i (record { expression = c.change_node.new.node }) c.loop-i.invariant.4,
)

pub change_arguments-returns-in_err-change_node-clause-changed : goal.change_arguments-returns-in_err-change_node-clause-changed
change_arguments-returns-in_err-change_node-clause-changed g t c =
    let same : c.from_residual.result ≡ Err c.in_err-change_node.field-0.0 = search rules in
    rw same (changed_refusal_at (inside_by c.args.deep) (around_by c.args.deep) (CalledAtMut g.F.FnMut) in_argument c.args.f.now c.loop-i.f c.change_node.new.f c.in_err-change_node.field-0.0 c.args.arguments.now c.loop-i.arguments c.loop-i.i c.get_mut.result.now (record { expression = c.change_node.new.node }) (search rules) c.loop-i.invariant.3 c.get_mut.ensures.value c.loop-i.invariant.4 c.loop-i.invariant.1 c.in_err-change_node.ensures.changed)

pub change_arguments-returns-in_err-change_node-clause-rest : goal.change_arguments-returns-in_err-change_node-clause-rest
change_arguments-returns-in_err-change_node-clause-rest g t c = map_stays around_argument c.loop-i.arguments c.loop-i.i c.get_mut.result.now (record { expression = c.change_node.new.node }) (search rules) c.get_mut.ensures.value refl ∙ c.loop-i.invariant.2

pub change_node-returns-in_err-change_inside-clause-changed : goal.change_node-returns-in_err-change_inside-clause-changed
change_node-returns-in_err-change_inside-clause-changed g t c =
    let same : c.from_residual.result ≡ Err c.in_err-change_inside.field-0.0 = search rules in
    rw same (remade_refusal_inside c.in_err-change_inside.ensures.changed c.in_err-change_inside.ensures.rest)

pub change_node-returns-clause-changed : goal.change_node-returns-clause-changed
change_node-returns-clause-changed g t c =
    let step : CalledAtMut g.F.FnMut c.change_inside.new.f c.change_inside.new.node c.f.result c.f.new.self c.f.new.arg2 = search (rules, of_calls) in
    changed_node (inside_by c.args.deep) (around_by c.args.deep) (CalledAtMut g.F.FnMut) c.args.f.now c.change_inside.new.f c.f.new.self c.args.node.now c.change_inside.new.node c.f.new.arg2
    c.f.result c.in_ok-change_inside.ensures.changed c.in_ok-change_inside.ensures.rest step

pub change_inside-returns-else-deep-clause-changed : goal.change_inside-returns-else-deep-clause-changed
change_inside-returns-else-deep-clause-changed g t c = nothing_inside c.args.deep (CalledAtMut g.F.FnMut) c.args.f.now c.args.node.now c.if-deep.false
