use Rattle.std.proofs.Common.{◌≡◌, rules, Err}
use Rattle.wesl_visit_children.specs.Turns.{called_none}
use Rattle.wesl_visit_children.proofs.TurnsLemmas.{met_both, met_refusal_first}
use Rattle.wesl_visit_children.proofs.Loops.{met_more, met_refusal_at}
use Rattle.wesl_visit_children.proofs.Cases.{inner, in_of_break, in_of_continue, in_of_discard}
use Rattle.wesl_visit_children.specs.Parts.{in_node, in_else_if, in_clause, parts_in_statement}
use Rattle.wesl_visit_children.proofs.meet_statements.+meet.Goals as goal

pub meet_statement-returns-in-Void-clause-met : goal.meet_statement-returns-in-Void-clause-met
meet_statement-returns-in-Void-clause-met g t c = search (rules, inner, called_none)

pub meet_statements-loop-node-init : goal.meet_statements-loop-node-init
meet_statements-loop-node-init g t c = (search rules, called_none)

pub meet_statements-loop-node-preserved : goal.meet_statements-loop-node-preserved
meet_statements-loop-node-preserved g t c = (c.in_ok-meet_statement.ensures.ready, met_more g.W.ReadParts.at (in_node parts_in_statement) c.args.w.now c.loop-node.w c.meet_statement.new.w c.args.nodes.now c.loop-node.node-index c.node-item.result c.loop-node-test.true c.node-item.is c.loop-node.invariant.1 (rw c.node.ensures at c.in_ok-meet_statement.ensures.met))

pub meet_statements-returns-in_err-meet_statement-clause-met : goal.meet_statements-returns-in_err-meet_statement-clause-met
meet_statements-returns-in_err-meet_statement-clause-met g t c =
    let same : c.from_residual.result ≡ Err c.in_err-meet_statement.field-0.0 = search rules in
    rw same (met_refusal_at g.W.ReadParts.at (in_node parts_in_statement) c.args.w.now c.loop-node.w c.meet_statement.new.w c.in_err-meet_statement.field-0.0 c.args.nodes.now c.loop-node.node-index c.node-item.result c.loop-node-test.true c.node-item.is c.loop-node.invariant.1 (rw c.node.ensures at c.in_err-meet_statement.ensures.met))

pub meet_block-returns-in_err-meet_attributes-clause-met : goal.meet_block-returns-in_err-meet_attributes-clause-met
meet_block-returns-in_err-meet_attributes-clause-met g t c =
    let same : c.from_residual.result ≡ Err c.in_err-meet_attributes.field-0.0 = search rules in
    rw same (met_refusal_first g.W.ReadParts.at _ (rw c.as_slice.ensures at c.in_err-meet_attributes.ensures.met))

pub meet_block-returns-clause-met : goal.meet_block-returns-clause-met
meet_block-returns-clause-met g t c = met_both g.W.ReadParts.at (rw c.as_slice.ensures at c.in_ok-meet_attributes.ensures.met) (rw c.as_slice-2.ensures at c.meet_statements.ensures.met)

pub meet_if-returns-in_err-meet_marked-clause-met : goal.meet_if-returns-in_err-meet_marked-clause-met
meet_if-returns-in_err-meet_marked-clause-met g t c =
    let same : c.from_residual.result ≡ Err c.in_err-meet_marked.field-0.0 = search rules in
    rw same (met_refusal_first g.W.ReadParts.at _ (rw c.as_slice.ensures at c.in_err-meet_marked.ensures.met))

pub meet_if-returns-in_err-meet_block-clause-met : goal.meet_if-returns-in_err-meet_block-clause-met
meet_if-returns-in_err-meet_block-clause-met g t c =
    let same : c.from_residual-in_err-meet_block.result ≡ Err c.in_err-meet_block.field-0.0 = search rules in
    rw same (met_both g.W.ReadParts.at (rw c.as_slice.ensures at c.in_ok-meet_marked.ensures.met) (met_refusal_first g.W.ReadParts.at _ c.in_err-meet_block.ensures.met))

pub meet_if-returns-in_err-meet_else_ifs-clause-met : goal.meet_if-returns-in_err-meet_else_ifs-clause-met
meet_if-returns-in_err-meet_else_ifs-clause-met g t c =
    let same : c.from_residual-in_err-meet_else_ifs.result ≡ Err c.in_err-meet_else_ifs.field-0.0 = search rules in
    rw same (met_both g.W.ReadParts.at (rw c.as_slice.ensures at c.in_ok-meet_marked.ensures.met) (met_both g.W.ReadParts.at c.in_ok-meet_block.ensures.met (met_refusal_first g.W.ReadParts.at _ (rw c.as_slice-2.ensures at c.in_err-meet_else_ifs.ensures.met))))

pub meet_if-returns-clause-met : goal.meet_if-returns-clause-met
meet_if-returns-clause-met g t c = met_both g.W.ReadParts.at (rw c.as_slice.ensures at c.in_ok-meet_marked.ensures.met) (met_both g.W.ReadParts.at c.in_ok-meet_block.ensures.met (met_both g.W.ReadParts.at (rw c.as_slice-2.ensures at c.in_ok-meet_else_ifs.ensures.met) c.meet_else.ensures.met))

pub meet_else_ifs-loop-clause-init : goal.meet_else_ifs-loop-clause-init
meet_else_ifs-loop-clause-init g t c = (search rules, called_none)

pub meet_else_ifs-loop-clause-preserved : goal.meet_else_ifs-loop-clause-preserved
meet_else_ifs-loop-clause-preserved g t c = (c.in_ok-meet_else_if.ensures.ready, met_more g.W.ReadParts.at (in_else_if parts_in_statement) c.args.w.now c.loop-clause.w c.meet_else_if.new.w c.args.clauses.now c.loop-clause.clause-index c.clause-item.result c.loop-clause-test.true c.clause-item.is c.loop-clause.invariant.1 c.in_ok-meet_else_if.ensures.met)

pub meet_else_ifs-returns-in_err-meet_else_if-clause-met : goal.meet_else_ifs-returns-in_err-meet_else_if-clause-met
meet_else_ifs-returns-in_err-meet_else_if-clause-met g t c =
    let same : c.from_residual.result ≡ Err c.in_err-meet_else_if.field-0.0 = search rules in
    rw same (met_refusal_at g.W.ReadParts.at (in_else_if parts_in_statement) c.args.w.now c.loop-clause.w c.meet_else_if.new.w c.in_err-meet_else_if.field-0.0 c.args.clauses.now c.loop-clause.clause-index c.clause-item.result c.loop-clause-test.true c.clause-item.is c.loop-clause.invariant.1 c.in_err-meet_else_if.ensures.met)

pub meet_else_if-returns-in_err-meet_expression-clause-met : goal.meet_else_if-returns-in_err-meet_expression-clause-met
meet_else_if-returns-in_err-meet_expression-clause-met g t c =
    let same : c.from_residual.result ≡ Err c.in_err-meet_expression.field-0.0 = search rules in
    rw same (met_refusal_first g.W.ReadParts.at _ c.in_err-meet_expression.ensures.met)

pub meet_else_if-returns-clause-met : goal.meet_else_if-returns-clause-met
meet_else_if-returns-clause-met g t c = met_both g.W.ReadParts.at c.in_ok-meet_expression.ensures.met c.meet_block.ensures.met

pub meet_else-returns-in-None-clause-met : goal.meet_else-returns-in-None-clause-met
meet_else-returns-in-None-clause-met g t c = rw c.in-None.is called_none

pub meet_switch-returns-in_err-meet_marked-clause-met : goal.meet_switch-returns-in_err-meet_marked-clause-met
meet_switch-returns-in_err-meet_marked-clause-met g t c =
    let same : c.from_residual.result ≡ Err c.in_err-meet_marked.field-0.0 = search rules in
    rw same (met_refusal_first g.W.ReadParts.at _ (rw c.as_slice.ensures at c.in_err-meet_marked.ensures.met))

pub meet_switch-returns-in_err-meet_attributes-clause-met : goal.meet_switch-returns-in_err-meet_attributes-clause-met
meet_switch-returns-in_err-meet_attributes-clause-met g t c =
    let same : c.from_residual-in_err-meet_attributes.result ≡ Err c.in_err-meet_attributes.field-0.0 = search rules in
    rw same (met_both g.W.ReadParts.at (rw c.as_slice.ensures at c.in_ok-meet_marked.ensures.met) (met_refusal_first g.W.ReadParts.at _ (rw c.as_slice-2.ensures at c.in_err-meet_attributes.ensures.met)))

pub meet_switch-returns-clause-met : goal.meet_switch-returns-clause-met
meet_switch-returns-clause-met g t c = met_both g.W.ReadParts.at (rw c.as_slice.ensures at c.in_ok-meet_marked.ensures.met) (met_both g.W.ReadParts.at (rw c.as_slice-2.ensures at c.in_ok-meet_attributes.ensures.met) (rw c.as_slice-3.ensures at c.meet_clauses.ensures.met))

pub meet_clauses-loop-clause-init : goal.meet_clauses-loop-clause-init
meet_clauses-loop-clause-init g t c = (search rules, called_none)

pub meet_clauses-loop-clause-preserved : goal.meet_clauses-loop-clause-preserved
meet_clauses-loop-clause-preserved g t c = (c.in_ok-meet_clause.ensures.ready, met_more g.W.ReadParts.at (in_clause parts_in_statement) c.args.w.now c.loop-clause.w c.meet_clause.new.w c.args.clauses.now c.loop-clause.clause-index c.clause-item.result c.loop-clause-test.true c.clause-item.is c.loop-clause.invariant.1 c.in_ok-meet_clause.ensures.met)

pub meet_clauses-returns-in_err-meet_clause-clause-met : goal.meet_clauses-returns-in_err-meet_clause-clause-met
meet_clauses-returns-in_err-meet_clause-clause-met g t c =
    let same : c.from_residual.result ≡ Err c.in_err-meet_clause.field-0.0 = search rules in
    rw same (met_refusal_at g.W.ReadParts.at (in_clause parts_in_statement) c.args.w.now c.loop-clause.w c.meet_clause.new.w c.in_err-meet_clause.field-0.0 c.args.clauses.now c.loop-clause.clause-index c.clause-item.result c.loop-clause-test.true c.clause-item.is c.loop-clause.invariant.1 c.in_err-meet_clause.ensures.met)

pub meet_clause-returns-in_err-meet_selectors-clause-met : goal.meet_clause-returns-in_err-meet_selectors-clause-met
meet_clause-returns-in_err-meet_selectors-clause-met g t c =
    let same : c.from_residual.result ≡ Err c.in_err-meet_selectors.field-0.0 = search rules in
    rw same (met_refusal_first g.W.ReadParts.at _ (rw c.as_slice.ensures at c.in_err-meet_selectors.ensures.met))

pub meet_clause-returns-clause-met : goal.meet_clause-returns-clause-met
meet_clause-returns-clause-met g t c = met_both g.W.ReadParts.at (rw c.as_slice.ensures at c.in_ok-meet_selectors.ensures.met) c.meet_block.ensures.met

pub meet_loop-returns-in_err-meet_attributes-clause-met : goal.meet_loop-returns-in_err-meet_attributes-clause-met
meet_loop-returns-in_err-meet_attributes-clause-met g t c =
    let same : c.from_residual.result ≡ Err c.in_err-meet_attributes.field-0.0 = search rules in
    rw same (met_refusal_first g.W.ReadParts.at _ (rw c.as_slice.ensures at c.in_err-meet_attributes.ensures.met))

pub meet_loop-returns-in_err-meet_block-clause-met : goal.meet_loop-returns-in_err-meet_block-clause-met
meet_loop-returns-in_err-meet_block-clause-met g t c =
    let same : c.from_residual-in_err-meet_block.result ≡ Err c.in_err-meet_block.field-0.0 = search rules in
    rw same (met_both g.W.ReadParts.at (rw c.as_slice.ensures at c.in_ok-meet_attributes.ensures.met) (met_refusal_first g.W.ReadParts.at _ c.in_err-meet_block.ensures.met))

pub meet_loop-returns-clause-met : goal.meet_loop-returns-clause-met
meet_loop-returns-clause-met g t c = met_both g.W.ReadParts.at (rw c.as_slice.ensures at c.in_ok-meet_attributes.ensures.met) (met_both g.W.ReadParts.at c.in_ok-meet_block.ensures.met c.meet_optional_continuing.ensures.met)

pub meet_optional_continuing-returns-in-None-clause-met : goal.meet_optional_continuing-returns-in-None-clause-met
meet_optional_continuing-returns-in-None-clause-met g t c = rw c.in-None.is called_none

pub meet_continuing-returns-in_err-meet_attributes-clause-met : goal.meet_continuing-returns-in_err-meet_attributes-clause-met
meet_continuing-returns-in_err-meet_attributes-clause-met g t c =
    let same : c.from_residual.result ≡ Err c.in_err-meet_attributes.field-0.0 = search rules in
    rw same (met_refusal_first g.W.ReadParts.at _ (rw c.as_slice.ensures at c.in_err-meet_attributes.ensures.met))

pub meet_continuing-returns-in_err-meet_block-clause-met : goal.meet_continuing-returns-in_err-meet_block-clause-met
meet_continuing-returns-in_err-meet_block-clause-met g t c =
    let same : c.from_residual-in_err-meet_block.result ≡ Err c.in_err-meet_block.field-0.0 = search rules in
    rw same (met_both g.W.ReadParts.at (rw c.as_slice.ensures at c.in_ok-meet_attributes.ensures.met) (met_refusal_first g.W.ReadParts.at _ c.in_err-meet_block.ensures.met))

pub meet_continuing-returns-clause-met : goal.meet_continuing-returns-clause-met
meet_continuing-returns-clause-met g t c = met_both g.W.ReadParts.at (rw c.as_slice.ensures at c.in_ok-meet_attributes.ensures.met) (met_both g.W.ReadParts.at c.in_ok-meet_block.ensures.met c.meet_break_if.ensures.met)

pub meet_for-returns-in_err-meet_attributes-clause-met : goal.meet_for-returns-in_err-meet_attributes-clause-met
meet_for-returns-in_err-meet_attributes-clause-met g t c =
    let same : c.from_residual.result ≡ Err c.in_err-meet_attributes.field-0.0 = search rules in
    rw same (met_refusal_first g.W.ReadParts.at _ (rw c.as_slice.ensures at c.in_err-meet_attributes.ensures.met))

pub meet_for-returns-in_err-meet_part-clause-met : goal.meet_for-returns-in_err-meet_part-clause-met
meet_for-returns-in_err-meet_part-clause-met g t c =
    let same : c.from_residual-in_err-meet_part.result ≡ Err c.in_err-meet_part.field-0.0 = search rules in
    rw same (met_both g.W.ReadParts.at (rw c.as_slice.ensures at c.in_ok-meet_attributes.ensures.met) (met_refusal_first g.W.ReadParts.at _ c.in_err-meet_part.ensures.met))

pub meet_for-returns-in_err-meet_option-clause-met : goal.meet_for-returns-in_err-meet_option-clause-met
meet_for-returns-in_err-meet_option-clause-met g t c =
    let same : c.from_residual-in_err-meet_option.result ≡ Err c.in_err-meet_option.field-0.0 = search rules in
    rw same (met_both g.W.ReadParts.at (rw c.as_slice.ensures at c.in_ok-meet_attributes.ensures.met) (met_both g.W.ReadParts.at c.in_ok-meet_part.ensures.met (met_refusal_first g.W.ReadParts.at _ c.in_err-meet_option.ensures.met)))

pub meet_for-returns-in_err-meet_part-2-clause-met : goal.meet_for-returns-in_err-meet_part-2-clause-met
meet_for-returns-in_err-meet_part-2-clause-met g t c =
    let same : c.from_residual-in_err-meet_part-2.result ≡ Err c.in_err-meet_part-2.field-0.0 = search rules in
    rw same (met_both g.W.ReadParts.at (rw c.as_slice.ensures at c.in_ok-meet_attributes.ensures.met) (met_both g.W.ReadParts.at c.in_ok-meet_part.ensures.met (met_both g.W.ReadParts.at c.in_ok-meet_option.ensures.met (met_refusal_first g.W.ReadParts.at _ c.in_err-meet_part-2.ensures.met))))

pub meet_for-returns-clause-met : goal.meet_for-returns-clause-met
meet_for-returns-clause-met g t c = met_both g.W.ReadParts.at (rw c.as_slice.ensures at c.in_ok-meet_attributes.ensures.met) (met_both g.W.ReadParts.at c.in_ok-meet_part.ensures.met (met_both g.W.ReadParts.at c.in_ok-meet_option.ensures.met (met_both g.W.ReadParts.at c.in_ok-meet_part-2.ensures.met c.meet_block.ensures.met)))

pub meet_part-returns-in-None-clause-met : goal.meet_part-returns-in-None-clause-met
meet_part-returns-in-None-clause-met g t c = rw c.in-None.is called_none

pub meet_while-returns-in_err-meet_marked-clause-met : goal.meet_while-returns-in_err-meet_marked-clause-met
meet_while-returns-in_err-meet_marked-clause-met g t c =
    let same : c.from_residual.result ≡ Err c.in_err-meet_marked.field-0.0 = search rules in
    rw same (met_refusal_first g.W.ReadParts.at _ (rw c.as_slice.ensures at c.in_err-meet_marked.ensures.met))

pub meet_while-returns-clause-met : goal.meet_while-returns-clause-met
meet_while-returns-clause-met g t c = met_both g.W.ReadParts.at (rw c.as_slice.ensures at c.in_ok-meet_marked.ensures.met) c.meet_block.ensures.met

pub meet_statement-returns-in-Break-clause-met : goal.meet_statement-returns-in-Break-clause-met
meet_statement-returns-in-Break-clause-met g t c = rw c.in-Break.is (rw (in_of_break c.in-Break.x) (rw c.as_slice-in-Break.ensures at c.meet_attributes.ensures.met))

pub meet_statement-returns-in-Continue-clause-met : goal.meet_statement-returns-in-Continue-clause-met
meet_statement-returns-in-Continue-clause-met g t c = rw c.in-Continue.is (rw (in_of_continue c.in-Continue.x) (rw c.as_slice-in-Continue.ensures at c.meet_attributes-in-Continue.ensures.met))

pub meet_statement-returns-in-Discard-clause-met : goal.meet_statement-returns-in-Discard-clause-met
meet_statement-returns-in-Discard-clause-met g t c = rw c.in-Discard.is (rw (in_of_discard c.in-Discard.x) (rw c.as_slice-in-Discard.ensures at c.meet_attributes-in-Discard.ensures.met))
