use Rattle.std.proofs.Common.{rules, refl, ◌≡◌, ◌∷◌, [], Err}
use Rattle.std.specs.Fn.{CalledAt}
use Rattle.wesl_visit_children.specs.Turns.{deep_none, deep_refusal}
use Rattle.wesl_visit.specs.Statements.{in_else_if, in_clause, statements_inside}
use Rattle.wesl_visit.proofs.Cases.{inner}
use Rattle.wesl_visit_children.proofs.Lists.{singles}
use Rattle.wesl_visit_children.proofs.Deep.{met_both, met_refusal_first, met_node}
use Rattle.wesl_visit_children.proofs.DeepLoops.{met_more, met_refusal_at, met_all}
use Rattle.wesl_visit.proofs.meet.+meet.Goals as goal

pub meet_else-returns-in-None-clause-met : goal.meet_else-returns-in-None-clause-met
meet_else-returns-in-None-clause-met g t c = rw c.in-None.is deep_none

pub meet_continuing-returns-in-None-clause-met : goal.meet_continuing-returns-in-None-clause-met
meet_continuing-returns-in-None-clause-met g t c = rw c.in-None.is deep_none

pub meet_part-returns-in-None-clause-met : goal.meet_part-returns-in-None-clause-met
meet_part-returns-in-None-clause-met g t c = rw c.in-None.is deep_none

pub meet_statement-returns-in-Void-clause-met : goal.meet_statement-returns-in-Void-clause-met
meet_statement-returns-in-Void-clause-met g t c = search (rules, inner, deep_none)

pub meet_statement-returns-in-Assignment-clause-met : goal.meet_statement-returns-in-Assignment-clause-met
meet_statement-returns-in-Assignment-clause-met g t c = search (rules, inner, deep_none)

pub meet_statement-returns-in-Increment-clause-met : goal.meet_statement-returns-in-Increment-clause-met
meet_statement-returns-in-Increment-clause-met g t c = search (rules, inner, deep_none)

pub meet_statement-returns-in-Decrement-clause-met : goal.meet_statement-returns-in-Decrement-clause-met
meet_statement-returns-in-Decrement-clause-met g t c = search (rules, inner, deep_none)

pub meet_statement-returns-in-Break-clause-met : goal.meet_statement-returns-in-Break-clause-met
meet_statement-returns-in-Break-clause-met g t c = search (rules, inner, deep_none)

pub meet_statement-returns-in-Continue-clause-met : goal.meet_statement-returns-in-Continue-clause-met
meet_statement-returns-in-Continue-clause-met g t c = search (rules, inner, deep_none)

pub meet_statement-returns-in-Return-clause-met : goal.meet_statement-returns-in-Return-clause-met
meet_statement-returns-in-Return-clause-met g t c = search (rules, inner, deep_none)

pub meet_statement-returns-in-Discard-clause-met : goal.meet_statement-returns-in-Discard-clause-met
meet_statement-returns-in-Discard-clause-met g t c = search (rules, inner, deep_none)

pub meet_statement-returns-in-FunctionCall-clause-met : goal.meet_statement-returns-in-FunctionCall-clause-met
meet_statement-returns-in-FunctionCall-clause-met g t c = search (rules, inner, deep_none)

pub meet_statement-returns-in-ConstAssert-clause-met : goal.meet_statement-returns-in-ConstAssert-clause-met
meet_statement-returns-in-ConstAssert-clause-met g t c = search (rules, inner, deep_none)

pub meet_statement-returns-in-Declaration-clause-met : goal.meet_statement-returns-in-Declaration-clause-met
meet_statement-returns-in-Declaration-clause-met g t c = search (rules, inner, deep_none)

pub meet_nodes-loop-node-init : goal.meet_nodes-loop-node-init
meet_nodes-loop-node-init g t c = (search rules, deep_none)

pub meet_nodes-loop-node-preserved : goal.meet_nodes-loop-node-preserved
meet_nodes-loop-node-preserved g t c = (c.in_ok-meet_node.ensures.callable, met_more statements_inside (CalledAt g.F.FnMut) (λ n. n ∷ []) c.args.f.now c.loop-node.f c.meet_node.new.f c.args.nodes.now c.loop-node.node-index c.node-item.result c.loop-node-test.true c.node-item.is c.loop-node.invariant.1 c.in_ok-meet_node.ensures.met)

pub meet_nodes-returns-in_err-meet_node-clause-met : goal.meet_nodes-returns-in_err-meet_node-clause-met
meet_nodes-returns-in_err-meet_node-clause-met g t c =
    let same : c.from_residual.result ≡ Err c.in_err-meet_node.field-0.0 = search rules in
    rw same (rw singles at (met_refusal_at statements_inside (CalledAt g.F.FnMut) (λ n. n ∷ []) c.args.f.now c.loop-node.f c.meet_node.new.f c.in_err-meet_node.field-0.0 c.args.nodes.now c.loop-node.node-index c.node-item.result c.loop-node-test.true c.node-item.is c.loop-node.invariant.1 c.in_err-meet_node.ensures.met))

pub meet_else_ifs-loop-clause-init : goal.meet_else_ifs-loop-clause-init
meet_else_ifs-loop-clause-init g t c = (search rules, deep_none)

pub meet_else_ifs-loop-clause-preserved : goal.meet_else_ifs-loop-clause-preserved
meet_else_ifs-loop-clause-preserved g t c = (c.in_ok-meet_else_if.ensures.callable, met_more statements_inside (CalledAt g.F.FnMut) in_else_if c.args.f.now c.loop-clause.f c.meet_else_if.new.f c.args.clauses.now c.loop-clause.clause-index c.clause-item.result c.loop-clause-test.true c.clause-item.is c.loop-clause.invariant.1 c.in_ok-meet_else_if.ensures.met)

pub meet_else_ifs-returns-in_err-meet_else_if-clause-met : goal.meet_else_ifs-returns-in_err-meet_else_if-clause-met
meet_else_ifs-returns-in_err-meet_else_if-clause-met g t c =
    let same : c.from_residual.result ≡ Err c.in_err-meet_else_if.field-0.0 = search rules in
    rw same (met_refusal_at statements_inside (CalledAt g.F.FnMut) in_else_if c.args.f.now c.loop-clause.f c.meet_else_if.new.f c.in_err-meet_else_if.field-0.0 c.args.clauses.now c.loop-clause.clause-index c.clause-item.result c.loop-clause-test.true c.clause-item.is c.loop-clause.invariant.1 c.in_err-meet_else_if.ensures.met)

pub meet_clauses-loop-clause-init : goal.meet_clauses-loop-clause-init
meet_clauses-loop-clause-init g t c = (search rules, deep_none)

pub meet_clauses-loop-clause-preserved : goal.meet_clauses-loop-clause-preserved
meet_clauses-loop-clause-preserved g t c = (c.in_ok-meet_clause.ensures.callable, met_more statements_inside (CalledAt g.F.FnMut) in_clause c.args.f.now c.loop-clause.f c.meet_clause.new.f c.args.clauses.now c.loop-clause.clause-index c.clause-item.result c.loop-clause-test.true c.clause-item.is c.loop-clause.invariant.1 c.in_ok-meet_clause.ensures.met)

pub meet_clauses-returns-in_err-meet_clause-clause-met : goal.meet_clauses-returns-in_err-meet_clause-clause-met
meet_clauses-returns-in_err-meet_clause-clause-met g t c =
    let same : c.from_residual.result ≡ Err c.in_err-meet_clause.field-0.0 = search rules in
    rw same (met_refusal_at statements_inside (CalledAt g.F.FnMut) in_clause c.args.f.now c.loop-clause.f c.meet_clause.new.f c.in_err-meet_clause.field-0.0 c.args.clauses.now c.loop-clause.clause-index c.clause-item.result c.loop-clause-test.true c.clause-item.is c.loop-clause.invariant.1 c.in_err-meet_clause.ensures.met)

pub meet_nodes-returns-clause-met : goal.meet_nodes-returns-clause-met
meet_nodes-returns-clause-met g t c = rw singles at (met_all statements_inside (CalledAt g.F.FnMut) (λ n. n ∷ []) c.args.f.now c.loop-node.f c.args.nodes.now c.loop-node.node-index c.loop-node-test.false c.loop-node.invariant.1)

pub meet_if-returns-in_err-meet_block-clause-met : goal.meet_if-returns-in_err-meet_block-clause-met
meet_if-returns-in_err-meet_block-clause-met g t c =
    let same : c.from_residual.result ≡ Err c.in_err-meet_block.field-0.0 = search rules in
    rw same (met_refusal_first statements_inside (CalledAt g.F.FnMut) _ c.in_err-meet_block.ensures.met)

pub meet_if-returns-in_err-meet_else_ifs-clause-met : goal.meet_if-returns-in_err-meet_else_ifs-clause-met
meet_if-returns-in_err-meet_else_ifs-clause-met g t c =
    let same : c.from_residual-in_err-meet_else_ifs.result ≡ Err c.in_err-meet_else_ifs.field-0.0 = search rules in
    rw same (met_both statements_inside (CalledAt g.F.FnMut) c.in_ok-meet_block.ensures.met (met_refusal_first statements_inside (CalledAt g.F.FnMut) _ (rw c.as_slice.ensures at c.in_err-meet_else_ifs.ensures.met)))

pub meet_if-returns-clause-met : goal.meet_if-returns-clause-met
meet_if-returns-clause-met g t c = met_both statements_inside (CalledAt g.F.FnMut) c.in_ok-meet_block.ensures.met (met_both statements_inside (CalledAt g.F.FnMut) (rw c.as_slice.ensures at c.in_ok-meet_else_ifs.ensures.met) c.meet_else.ensures.met)

pub meet_loop-returns-in_err-meet_block-clause-met : goal.meet_loop-returns-in_err-meet_block-clause-met
meet_loop-returns-in_err-meet_block-clause-met g t c =
    let same : c.from_residual.result ≡ Err c.in_err-meet_block.field-0.0 = search rules in
    rw same (met_refusal_first statements_inside (CalledAt g.F.FnMut) _ c.in_err-meet_block.ensures.met)

pub meet_loop-returns-clause-met : goal.meet_loop-returns-clause-met
meet_loop-returns-clause-met g t c = met_both statements_inside (CalledAt g.F.FnMut) c.in_ok-meet_block.ensures.met c.meet_continuing.ensures.met

pub meet_for-returns-in_err-meet_part-clause-met : goal.meet_for-returns-in_err-meet_part-clause-met
meet_for-returns-in_err-meet_part-clause-met g t c =
    let same : c.from_residual.result ≡ Err c.in_err-meet_part.field-0.0 = search rules in
    rw same (met_refusal_first statements_inside (CalledAt g.F.FnMut) _ c.in_err-meet_part.ensures.met)

pub meet_for-returns-in_err-meet_part-2-clause-met : goal.meet_for-returns-in_err-meet_part-2-clause-met
meet_for-returns-in_err-meet_part-2-clause-met g t c =
    let same : c.from_residual-in_err-meet_part-2.result ≡ Err c.in_err-meet_part-2.field-0.0 = search rules in
    rw same (met_both statements_inside (CalledAt g.F.FnMut) c.in_ok-meet_part.ensures.met (met_refusal_first statements_inside (CalledAt g.F.FnMut) _ c.in_err-meet_part-2.ensures.met))

pub meet_for-returns-clause-met : goal.meet_for-returns-clause-met
meet_for-returns-clause-met g t c = met_both statements_inside (CalledAt g.F.FnMut) c.in_ok-meet_part.ensures.met (met_both statements_inside (CalledAt g.F.FnMut) c.in_ok-meet_part-2.ensures.met c.meet_block.ensures.met)

pub meet_node-returns-in_err-f-clause-met : goal.meet_node-returns-in_err-f-clause-met
meet_node-returns-in_err-f-clause-met g t c =
    let same : c.from_residual.result ≡ Err c.in_err-f.field-0.0 = search rules in
    rw same (deep_refusal (record { shown = c.args.node; shows = refl; called = c.in_err-f.ensures }))

pub meet_node-returns-clause-met : goal.meet_node-returns-clause-met
meet_node-returns-clause-met g t c = met_node statements_inside (CalledAt g.F.FnMut) c.args.f.now c.f.new.self c.meet_statement.new.f c.args.node.now c.meet_statement.result (record { shown = c.args.node; shows = refl; called = c.in_ok-f.ensures }) (rw c.node.ensures at c.meet_statement.ensures.met)
