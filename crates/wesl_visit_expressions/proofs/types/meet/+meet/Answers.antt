use Rattle.std.proofs.Common.{◌≡◌, rules, refl, Err}
use Rattle.wesl_visit_expressions.specs.Types.{in_node, in_argument, types_inside}
use Rattle.wesl_visit_children.specs.Turns.{deep_none, deep_refusal}
use Rattle.wesl_visit_children.proofs.Deep.{met_both, met_refusal_first, met_node}
use Rattle.wesl_visit_children.proofs.DeepLoops.{met_more, met_refusal_at}
use Rattle.wesl_visit_expressions.proofs.TypesCases.{inner, in_of_indexing, in_of_binary}
use Rattle.std.specs.Fn.{CalledAt}
use Rattle.wesl_visit_expressions.proofs.types.meet.+meet.Goals as goal

pub meet_expression-returns-in-Literal-clause-met : goal.meet_expression-returns-in-Literal-clause-met
meet_expression-returns-in-Literal-clause-met g t c = search (rules, inner, deep_none)

pub meet_expression-returns-in_err-meet_expression-in-Indexing-clause-met : goal.meet_expression-returns-in_err-meet_expression-in-Indexing-clause-met
meet_expression-returns-in_err-meet_expression-in-Indexing-clause-met g t c =
    let same : c.from_residual.result ≡ Err c.in_err-meet_expression-in-Indexing.field-0.0 = search rules in
    rw same (rw c.in-Indexing.is (rw (in_of_indexing c.in-Indexing.x) (met_refusal_first types_inside (CalledAt g.F.FnMut) {t = c.meet_expression-in-Indexing.new.f} _ (rw c.node-in-Indexing.ensures at c.in_err-meet_expression-in-Indexing.ensures.met))))

pub meet_expression-returns-in_err-meet_expression-in-Binary-clause-met : goal.meet_expression-returns-in_err-meet_expression-in-Binary-clause-met
meet_expression-returns-in_err-meet_expression-in-Binary-clause-met g t c =
    let same : c.from_residual-in_err-meet_expression-in-Binary.result ≡ Err c.in_err-meet_expression-in-Binary.field-0.0 = search rules in
    rw same (rw c.in-Binary.is (rw (in_of_binary c.in-Binary.x) (met_refusal_first types_inside (CalledAt g.F.FnMut) {t = c.meet_expression-in-Binary.new.f} _ (rw c.node-in-Binary.ensures at c.in_err-meet_expression-in-Binary.ensures.met))))

pub meet_expression-returns-in_ok-meet_expression-in-Indexing-clause-met : goal.meet_expression-returns-in_ok-meet_expression-in-Indexing-clause-met
meet_expression-returns-in_ok-meet_expression-in-Indexing-clause-met g t c =
    rw c.in-Indexing.is (rw (in_of_indexing c.in-Indexing.x) (met_both types_inside (CalledAt g.F.FnMut) (rw c.node-in-Indexing.ensures at c.in_ok-meet_expression-in-Indexing.ensures.met) (rw c.node-in-Indexing-2.ensures at c.meet_expression-in-Indexing-2.ensures.met)))

pub meet_expression-returns-in_ok-meet_expression-in-Binary-clause-met : goal.meet_expression-returns-in_ok-meet_expression-in-Binary-clause-met
meet_expression-returns-in_ok-meet_expression-in-Binary-clause-met g t c =
    rw c.in-Binary.is (rw (in_of_binary c.in-Binary.x) (met_both types_inside (CalledAt g.F.FnMut) (rw c.node-in-Binary.ensures at c.in_ok-meet_expression-in-Binary.ensures.met) (rw c.node-in-Binary-2.ensures at c.meet_expression-in-Binary-2.ensures.met)))

pub meet_type-returns-in_err-f-clause-met : goal.meet_type-returns-in_err-f-clause-met
meet_type-returns-in_err-f-clause-met g t c =
    let same : c.from_residual.result ≡ Err c.in_err-f.field-0.0 = search rules in
    rw same (deep_refusal (record { shown = c.args.ty; shows = refl; called = c.in_err-f.ensures }))

pub meet_type-returns-clause-met : goal.meet_type-returns-clause-met
meet_type-returns-clause-met g t c = met_node types_inside (CalledAt g.F.FnMut) c.args.f.now c.f.new.self c.meet_arguments.new.f c.args.ty.now c.meet_arguments.result (record { shown = c.args.ty; shows = refl; called = c.in_ok-f.ensures }) c.meet_arguments.ensures.met

pub meet_call-returns-in_err-meet_type-clause-met : goal.meet_call-returns-in_err-meet_type-clause-met
meet_call-returns-in_err-meet_type-clause-met g t c =
    let same : c.from_residual.result ≡ Err c.in_err-meet_type.field-0.0 = search rules in
    rw same (met_refusal_first types_inside (CalledAt g.F.FnMut) _ c.in_err-meet_type.ensures.met)

pub meet_call-returns-clause-met : goal.meet_call-returns-clause-met
meet_call-returns-clause-met g t c = met_both types_inside (CalledAt g.F.FnMut) c.in_ok-meet_type.ensures.met (rw c.as_slice.ensures at c.meet_nodes.ensures.met)

pub meet_nodes-loop-node-init : goal.meet_nodes-loop-node-init
meet_nodes-loop-node-init g t c = (search rules, deep_none)

pub meet_nodes-loop-node-preserved : goal.meet_nodes-loop-node-preserved
meet_nodes-loop-node-preserved g t c = (c.in_ok-meet_expression.ensures.callable, met_more types_inside (CalledAt g.F.FnMut) in_node c.args.f.now c.loop-node.f c.meet_expression.new.f c.args.nodes.now c.loop-node.node-index c.node-item.result c.loop-node-test.true c.node-item.is c.loop-node.invariant.1 (rw c.node.ensures at c.in_ok-meet_expression.ensures.met))

pub meet_nodes-returns-in_err-meet_expression-clause-met : goal.meet_nodes-returns-in_err-meet_expression-clause-met
meet_nodes-returns-in_err-meet_expression-clause-met g t c =
    let same : c.from_residual.result ≡ Err c.in_err-meet_expression.field-0.0 = search rules in
    rw same (met_refusal_at types_inside (CalledAt g.F.FnMut) in_node c.args.f.now c.loop-node.f c.meet_expression.new.f c.in_err-meet_expression.field-0.0 c.args.nodes.now c.loop-node.node-index c.node-item.result c.loop-node-test.true c.node-item.is c.loop-node.invariant.1 (rw c.node.ensures at c.in_err-meet_expression.ensures.met))

pub meet_arguments-loop-argument-init : goal.meet_arguments-loop-argument-init
meet_arguments-loop-argument-init g t c = (search rules, deep_none)

pub meet_arguments-loop-argument-preserved : goal.meet_arguments-loop-argument-preserved
meet_arguments-loop-argument-preserved g t c = (c.in_ok-meet_expression-in-Some.ensures.callable, met_more types_inside (CalledAt g.F.FnMut) in_argument c.args.f.now c.loop-argument.f c.meet_expression.new.f c.as_slice-argument-items.result.now c.loop-argument.argument-index c.argument-item.result c.loop-argument-test.true c.argument-item.is c.loop-argument.invariant.1 (rw c.node.ensures at c.in_ok-meet_expression-in-Some.ensures.met))

pub meet_arguments-returns-in_err-meet_expression-in-Some-clause-met : goal.meet_arguments-returns-in_err-meet_expression-in-Some-clause-met
meet_arguments-returns-in_err-meet_expression-in-Some-clause-met g t c =
    let same : c.from_residual.result ≡ Err c.in_err-meet_expression-in-Some.field-0.0 = search rules in
    let items : c.as_slice-argument-items.result.now ≡ c.in-Some.arguments = search rules in
    rw same (rw c.in-Some.is (rw items at (met_refusal_at types_inside (CalledAt g.F.FnMut) in_argument c.args.f.now c.loop-argument.f c.meet_expression.new.f c.in_err-meet_expression-in-Some.field-0.0 c.as_slice-argument-items.result.now c.loop-argument.argument-index c.argument-item.result c.loop-argument-test.true c.argument-item.is c.loop-argument.invariant.1 (rw c.node.ensures at c.in_err-meet_expression-in-Some.ensures.met))))

pub meet_arguments-returns-in-None-clause-met : goal.meet_arguments-returns-in-None-clause-met
meet_arguments-returns-in-None-clause-met g t c = rw c.in-None.is deep_none
