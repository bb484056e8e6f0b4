use Rattle.std.proofs.Common.{◌≡◌, ◌∷◌, [], rules, refl, Err}
use Rattle.wesl_visit_expressions.specs.Expressions.{in_argument, expressions_inside}
use Rattle.wesl_visit_children.specs.Turns.{deep_none, deep_refusal}
use Rattle.wesl_visit_children.proofs.Deep.{met_both, met_refusal_first, met_node}
use Rattle.wesl_visit_children.proofs.Lists.{singles}
use Rattle.wesl_visit_children.proofs.DeepLoops.{met_more, met_refusal_at, met_all}
use Rattle.wesl_visit_expressions.proofs.Cases.{inner}
use Rattle.std.specs.Fn.{CalledAt}
use Rattle.wesl_visit_expressions.proofs.expressions.meet.+meet.Goals as goal

pub meet_expression-returns-in-Literal-clause-met : goal.meet_expression-returns-in-Literal-clause-met
meet_expression-returns-in-Literal-clause-met g t c = search (rules, inner, deep_none)

pub meet_nodes-loop-node-init : goal.meet_nodes-loop-node-init
meet_nodes-loop-node-init g t c = (search rules, deep_none)

pub meet_nodes-loop-node-preserved : goal.meet_nodes-loop-node-preserved
meet_nodes-loop-node-preserved g t c = (c.in_ok-meet_node.ensures.callable, met_more expressions_inside (CalledAt g.F.FnMut) (λ n. n ∷ []) c.args.f.now c.loop-node.f c.meet_node.new.f c.args.nodes.now c.loop-node.node-index c.node-item.result c.loop-node-test.true c.node-item.is c.loop-node.invariant.1 c.in_ok-meet_node.ensures.met)

pub meet_nodes-returns-in_err-meet_node-clause-met : goal.meet_nodes-returns-in_err-meet_node-clause-met
meet_nodes-returns-in_err-meet_node-clause-met g t c =
    let same : c.from_residual.result ≡ Err c.in_err-meet_node.field-0.0 = search rules in
    rw same (rw singles at (met_refusal_at expressions_inside (CalledAt g.F.FnMut) (λ n. n ∷ []) c.args.f.now c.loop-node.f c.meet_node.new.f c.in_err-meet_node.field-0.0 c.args.nodes.now c.loop-node.node-index c.node-item.result c.loop-node-test.true c.node-item.is c.loop-node.invariant.1 c.in_err-meet_node.ensures.met))

pub meet_nodes-returns-clause-met : goal.meet_nodes-returns-clause-met
meet_nodes-returns-clause-met g t c = rw singles at (met_all expressions_inside (CalledAt g.F.FnMut) (λ n. n ∷ []) c.args.f.now c.loop-node.f c.args.nodes.now c.loop-node.node-index c.loop-node-test.false c.loop-node.invariant.1)

pub meet_indexing-returns-in_err-meet_node-clause-met : goal.meet_indexing-returns-in_err-meet_node-clause-met
meet_indexing-returns-in_err-meet_node-clause-met g t c =
    let same : c.from_residual.result ≡ Err c.in_err-meet_node.field-0.0 = search rules in
    rw same (met_refusal_first expressions_inside (CalledAt g.F.FnMut) _ c.in_err-meet_node.ensures.met)

pub meet_indexing-returns-clause-met : goal.meet_indexing-returns-clause-met
meet_indexing-returns-clause-met g t c = met_both expressions_inside (CalledAt g.F.FnMut) c.in_ok-meet_node.ensures.met (c.meet_node-2.ensures.met)

pub meet_binary-returns-in_err-meet_node-clause-met : goal.meet_binary-returns-in_err-meet_node-clause-met
meet_binary-returns-in_err-meet_node-clause-met g t c =
    let same : c.from_residual.result ≡ Err c.in_err-meet_node.field-0.0 = search rules in
    rw same (met_refusal_first expressions_inside (CalledAt g.F.FnMut) _ c.in_err-meet_node.ensures.met)

pub meet_binary-returns-clause-met : goal.meet_binary-returns-clause-met
meet_binary-returns-clause-met g t c = met_both expressions_inside (CalledAt g.F.FnMut) c.in_ok-meet_node.ensures.met (c.meet_node-2.ensures.met)

pub meet_call-returns-in_err-meet_type-clause-met : goal.meet_call-returns-in_err-meet_type-clause-met
meet_call-returns-in_err-meet_type-clause-met g t c =
    let same : c.from_residual.result ≡ Err c.in_err-meet_type.field-0.0 = search rules in
    rw same (met_refusal_first expressions_inside (CalledAt g.F.FnMut) _ c.in_err-meet_type.ensures.met)

pub meet_call-returns-clause-met : goal.meet_call-returns-clause-met
meet_call-returns-clause-met g t c = met_both expressions_inside (CalledAt g.F.FnMut) c.in_ok-meet_type.ensures.met (rw c.as_slice.ensures at c.meet_nodes.ensures.met)

pub meet_type-returns-in-None-clause-met : goal.meet_type-returns-in-None-clause-met
meet_type-returns-in-None-clause-met g t c = rw c.in-None.is deep_none

pub meet_arguments-loop-argument-init : goal.meet_arguments-loop-argument-init
meet_arguments-loop-argument-init g t c = (search rules, deep_none)

pub meet_arguments-loop-argument-preserved : goal.meet_arguments-loop-argument-preserved
meet_arguments-loop-argument-preserved g t c = (c.in_ok-meet_node.ensures.callable, met_more expressions_inside (CalledAt g.F.FnMut) in_argument c.args.f.now c.loop-argument.f c.meet_node.new.f c.args.arguments.now c.loop-argument.argument-index c.argument-item.result c.loop-argument-test.true c.argument-item.is c.loop-argument.invariant.1 c.in_ok-meet_node.ensures.met)

pub meet_arguments-returns-in_err-meet_node-clause-met : goal.meet_arguments-returns-in_err-meet_node-clause-met
meet_arguments-returns-in_err-meet_node-clause-met g t c =
    let same : c.from_residual.result ≡ Err c.in_err-meet_node.field-0.0 = search rules in
    rw same (met_refusal_at expressions_inside (CalledAt g.F.FnMut) in_argument c.args.f.now c.loop-argument.f c.meet_node.new.f c.in_err-meet_node.field-0.0 c.args.arguments.now c.loop-argument.argument-index c.argument-item.result c.loop-argument-test.true c.argument-item.is c.loop-argument.invariant.1 c.in_err-meet_node.ensures.met)

pub meet_node-returns-in_err-f-clause-met : goal.meet_node-returns-in_err-f-clause-met
meet_node-returns-in_err-f-clause-met g t c =
    let same : c.from_residual.result ≡ Err c.in_err-f.field-0.0 = search rules in
    rw same (deep_refusal (record { shown = c.args.node; shows = refl; called = c.in_err-f.ensures }))

pub meet_node-returns-clause-met : goal.meet_node-returns-clause-met
meet_node-returns-clause-met g t c = met_node expressions_inside (CalledAt g.F.FnMut) c.args.f.now c.f.new.self c.meet_expression.new.f c.args.node.now c.meet_expression.result (record { shown = c.args.node; shows = refl; called = c.in_ok-f.ensures }) (rw c.node.ensures at c.meet_expression.ensures.met)
