use Rattle.std.proofs.Common.{◌≡◌, ◌∙◌, rules, refl, ap, Err, length-set}
use Rattle.wesl_visit_children.specs.Turns.{changed_none}
use Rattle.wesl_visit_children.proofs.TurnsLemmas.{changed_both, changed_refusal_first}
use Rattle.wesl_visit_children.proofs.Lists.{map_stays, later_same}
use Rattle.wesl_visit_children.proofs.Loops.{changed_more, changed_refusal_at}
use Rattle.wesl_visit_children.proofs.Cases.{inner}
use Rattle.wesl_visit_children.specs.Parts.{in_node, in_else_if, in_clause, parts_in_statement}
use Rattle.wesl_visit_children.specs.Rest.{around_statement_node, around_else_if, around_clause, around_parts_in_statement}
use Rattle.wesl_visit_children_mut.proofs.statements.+change.Goals as goal

pub change_statement-returns-in-Void-clause-changed : goal.change_statement-returns-in-Void-clause-changed
change_statement-returns-in-Void-clause-changed g t c = search (rules, inner, changed_none)

pub change_statements-loop-i-init : goal.change_statements-loop-i-init
change_statements-loop-i-init g t c = (search rules, changed_none, refl, refl, λ k d le. refl)

pub change_statements-loop-i-preserved : goal.change_statements-loop-i-preserved
change_statements-loop-i-preserved g t c = (
  c.in_ok-change_statement.ensures.ready,
  changed_more g.W.WriteParts.at (in_node parts_in_statement) c.args.w.now c.loop-i.w c.change_statement.new.w c.args.nodes.now c.loop-i.nodes c.loop-i.i c.get_mut.result.now (record { node = c.change_statement.new.statement; span = c.get_mut.result.now.span }) (search rules) c.loop-i.invariant.3 c.get_mut.ensures.value c.loop-i.invariant.4 c.loop-i.invariant.1 (rw c.node_mut.ensures.value at c.in_ok-change_statement.ensures.changed),
  map_stays (around_statement_node g.W.WriteParts.rest (around_parts_in_statement g.W.WriteParts.rest)) c.loop-i.nodes c.loop-i.i c.get_mut.result.now (record { node = c.change_statement.new.statement; span = c.get_mut.result.now.span }) (search rules) c.get_mut.ensures.value (ap (λ a. record { node = a; span = c.get_mut.result.now.span }) (rw c.node_mut.ensures.value at c.in_ok-change_statement.ensures.rest)) ∙ c.loop-i.invariant.2,
  length-set c.loop-i.nodes c.loop-i.i (record { node = c.change_statement.new.statement; span = c.get_mut.result.now.span }) ∙ c.loop-i.invariant.3,
  later_same c.args.nodes.now c.loop-i.nodes c.loop-i.i (record { node = c.change_statement.new.statement; span = c.get_mut.result.now.span }) c.loop-i.invariant.4,
)

pub change_statements-returns-in_err-change_statement-clause-changed : goal.change_statements-returns-in_err-change_statement-clause-changed
change_statements-returns-in_err-change_statement-clause-changed g t c =
    let same : c.from_residual.result ≡ Err c.in_err-change_statement.field-0.0 = search rules in
    rw same (changed_refusal_at g.W.WriteParts.at (in_node parts_in_statement) c.args.w.now c.loop-i.w c.change_statement.new.w c.in_err-change_statement.field-0.0 c.args.nodes.now c.loop-i.nodes c.loop-i.i c.get_mut.result.now (record { node = c.change_statement.new.statement; span = c.get_mut.result.now.span }) (search rules) c.loop-i.invariant.3 c.get_mut.ensures.value c.loop-i.invariant.4 c.loop-i.invariant.1 (rw c.node_mut.ensures.value at c.in_err-change_statement.ensures.changed))

pub change_statements-returns-in_err-change_statement-clause-rest : goal.change_statements-returns-in_err-change_statement-clause-rest
change_statements-returns-in_err-change_statement-clause-rest g t c = map_stays (around_statement_node g.W.WriteParts.rest (around_parts_in_statement g.W.WriteParts.rest)) c.loop-i.nodes c.loop-i.i c.get_mut.result.now (record { node = c.change_statement.new.statement; span = c.get_mut.result.now.span }) (search rules) c.get_mut.ensures.value (ap (λ a. record { node = a; span = c.get_mut.result.now.span }) (rw c.node_mut.ensures.value at c.in_err-change_statement.ensures.rest)) ∙ c.loop-i.invariant.2

pub change_block-returns-in_err-change_attributes-clause-changed : goal.change_block-returns-in_err-change_attributes-clause-changed
change_block-returns-in_err-change_attributes-clause-changed g t c =
    let same : c.from_residual.result ≡ Err c.in_err-change_attributes.field-0.0 = search rules in
    rw same (changed_refusal_first g.W.WriteParts.at _ c.in_err-change_attributes.ensures.changed)

pub change_block-returns-clause-changed : goal.change_block-returns-clause-changed
change_block-returns-clause-changed g t c = changed_both g.W.WriteParts.at c.in_ok-change_attributes.ensures.changed c.change_statements.ensures.changed

pub change_if-returns-in_err-change_marked-clause-changed : goal.change_if-returns-in_err-change_marked-clause-changed
change_if-returns-in_err-change_marked-clause-changed g t c =
    let same : c.from_residual.result ≡ Err c.in_err-change_marked.field-0.0 = search rules in
    rw same (changed_refusal_first g.W.WriteParts.at _ c.in_err-change_marked.ensures.changed)

pub change_if-returns-in_err-change_block-clause-changed : goal.change_if-returns-in_err-change_block-clause-changed
change_if-returns-in_err-change_block-clause-changed g t c =
    let same : c.from_residual-in_err-change_block.result ≡ Err c.in_err-change_block.field-0.0 = search rules in
    rw same (changed_both g.W.WriteParts.at c.in_ok-change_marked.ensures.changed (changed_refusal_first g.W.WriteParts.at _ c.in_err-change_block.ensures.changed))

pub change_if-returns-in_err-change_else_ifs-clause-changed : goal.change_if-returns-in_err-change_else_ifs-clause-changed
change_if-returns-in_err-change_else_ifs-clause-changed g t c =
    let same : c.from_residual-in_err-change_else_ifs.result ≡ Err c.in_err-change_else_ifs.field-0.0 = search rules in
    rw same (changed_both g.W.WriteParts.at c.in_ok-change_marked.ensures.changed (changed_both g.W.WriteParts.at c.in_ok-change_block.ensures.changed (changed_refusal_first g.W.WriteParts.at _ c.in_err-change_else_ifs.ensures.changed)))

pub change_if-returns-clause-changed : goal.change_if-returns-clause-changed
change_if-returns-clause-changed g t c = changed_both g.W.WriteParts.at c.in_ok-change_marked.ensures.changed (changed_both g.W.WriteParts.at c.in_ok-change_block.ensures.changed (changed_both g.W.WriteParts.at c.in_ok-change_else_ifs.ensures.changed c.change_else.ensures.changed))

pub change_else_ifs-loop-i-init : goal.change_else_ifs-loop-i-init
change_else_ifs-loop-i-init g t c = (search rules, changed_none, refl, refl, λ k d le. refl)

pub change_else_ifs-loop-i-preserved : goal.change_else_ifs-loop-i-preserved
change_else_ifs-loop-i-preserved g t c = (
  c.in_ok-change_else_if.ensures.ready,
  changed_more g.W.WriteParts.at (in_else_if parts_in_statement) c.args.w.now c.loop-i.w c.change_else_if.new.w c.args.clauses.now c.loop-i.clauses c.loop-i.i c.get_mut.result.now c.change_else_if.new.clause (search rules) c.loop-i.invariant.3 c.get_mut.ensures.value c.loop-i.invariant.4 c.loop-i.invariant.1 c.in_ok-change_else_if.ensures.changed,
  map_stays (around_else_if g.W.WriteParts.rest (around_parts_in_statement g.W.WriteParts.rest)) c.loop-i.clauses c.loop-i.i c.get_mut.result.now c.change_else_if.new.clause (search rules) c.get_mut.ensures.value (c.in_ok-change_else_if.ensures.rest) ∙ c.loop-i.invariant.2,
  length-set c.loop-i.clauses c.loop-i.i c.change_else_if.new.clause ∙ c.loop-i.invariant.3,
  later_same c.args.clauses.now c.loop-i.clauses c.loop-i.i c.change_else_if.new.clause c.loop-i.invariant.4,
)

pub change_else_ifs-returns-in_err-change_else_if-clause-changed : goal.change_else_ifs-returns-in_err-change_else_if-clause-changed
change_else_ifs-returns-in_err-change_else_if-clause-changed g t c =
    let same : c.from_residual.result ≡ Err c.in_err-change_else_if.field-0.0 = search rules in
    rw same (changed_refusal_at g.W.WriteParts.at (in_else_if parts_in_statement) c.args.w.now c.loop-i.w c.change_else_if.new.w c.in_err-change_else_if.field-0.0 c.args.clauses.now c.loop-i.clauses c.loop-i.i c.get_mut.result.now c.change_else_if.new.clause (search rules) c.loop-i.invariant.3 c.get_mut.ensures.value c.loop-i.invariant.4 c.loop-i.invariant.1 c.in_err-change_else_if.ensures.changed)

pub change_else_ifs-returns-in_err-change_else_if-clause-rest : goal.change_else_ifs-returns-in_err-change_else_if-clause-rest
change_else_ifs-returns-in_err-change_else_if-clause-rest g t c = map_stays (around_else_if g.W.WriteParts.rest (around_parts_in_statement g.W.WriteParts.rest)) c.loop-i.clauses c.loop-i.i c.get_mut.result.now c.change_else_if.new.clause (search rules) c.get_mut.ensures.value (c.in_err-change_else_if.ensures.rest) ∙ c.loop-i.invariant.2

pub change_else_if-returns-in_err-change_expression-clause-changed : goal.change_else_if-returns-in_err-change_expression-clause-changed
change_else_if-returns-in_err-change_expression-clause-changed g t c =
    let same : c.from_residual.result ≡ Err c.in_err-change_expression.field-0.0 = search rules in
    rw same (changed_refusal_first g.W.WriteParts.at _ c.in_err-change_expression.ensures.changed)

pub change_else_if-returns-clause-changed : goal.change_else_if-returns-clause-changed
change_else_if-returns-clause-changed g t c = changed_both g.W.WriteParts.at c.in_ok-change_expression.ensures.changed c.change_block.ensures.changed

pub change_else-returns-in-None-clause-changed : goal.change_else-returns-in-None-clause-changed
change_else-returns-in-None-clause-changed g t c = rw c.in-None.is changed_none

pub change_switch-returns-in_err-change_marked-clause-changed : goal.change_switch-returns-in_err-change_marked-clause-changed
change_switch-returns-in_err-change_marked-clause-changed g t c =
    let same : c.from_residual.result ≡ Err c.in_err-change_marked.field-0.0 = search rules in
    rw same (changed_refusal_first g.W.WriteParts.at _ c.in_err-change_marked.ensures.changed)

pub change_switch-returns-in_err-change_attributes-clause-changed : goal.change_switch-returns-in_err-change_attributes-clause-changed
change_switch-returns-in_err-change_attributes-clause-changed g t c =
    let same : c.from_residual-in_err-change_attributes.result ≡ Err c.in_err-change_attributes.field-0.0 = search rules in
    rw same (changed_both g.W.WriteParts.at c.in_ok-change_marked.ensures.changed (changed_refusal_first g.W.WriteParts.at _ c.in_err-change_attributes.ensures.changed))

pub change_switch-returns-clause-changed : goal.change_switch-returns-clause-changed
change_switch-returns-clause-changed g t c = changed_both g.W.WriteParts.at c.in_ok-change_marked.ensures.changed (changed_both g.W.WriteParts.at c.in_ok-change_attributes.ensures.changed c.change_clauses.ensures.changed)

pub change_clauses-loop-i-init : goal.change_clauses-loop-i-init
change_clauses-loop-i-init g t c = (search rules, changed_none, refl, refl, λ k d le. refl)

pub change_clauses-loop-i-preserved : goal.change_clauses-loop-i-preserved
change_clauses-loop-i-preserved g t c = (
  c.in_ok-change_clause.ensures.ready,
  changed_more g.W.WriteParts.at (in_clause parts_in_statement) c.args.w.now c.loop-i.w c.change_clause.new.w c.args.clauses.now c.loop-i.clauses c.loop-i.i c.get_mut.result.now c.change_clause.new.clause (search rules) c.loop-i.invariant.3 c.get_mut.ensures.value c.loop-i.invariant.4 c.loop-i.invariant.1 c.in_ok-change_clause.ensures.changed,
  map_stays (around_clause g.W.WriteParts.rest (around_parts_in_statement g.W.WriteParts.rest)) c.loop-i.clauses c.loop-i.i c.get_mut.result.now c.change_clause.new.clause (search rules) c.get_mut.ensures.value (c.in_ok-change_clause.ensures.rest) ∙ c.loop-i.invariant.2,
  length-set c.loop-i.clauses c.loop-i.i c.change_clause.new.clause ∙ c.loop-i.invariant.3,
  later_same c.args.clauses.now c.loop-i.clauses c.loop-i.i c.change_clause.new.clause c.loop-i.invariant.4,
)

pub change_clauses-returns-in_err-change_clause-clause-changed : goal.change_clauses-returns-in_err-change_clause-clause-changed
change_clauses-returns-in_err-change_clause-clause-changed g t c =
    let same : c.from_residual.result ≡ Err c.in_err-change_clause.field-0.0 = search rules in
    rw same (changed_refusal_at g.W.WriteParts.at (in_clause parts_in_statement) c.args.w.now c.loop-i.w c.change_clause.new.w c.in_err-change_clause.field-0.0 c.args.clauses.now c.loop-i.clauses c.loop-i.i c.get_mut.result.now c.change_clause.new.clause (search rules) c.loop-i.invariant.3 c.get_mut.ensures.value c.loop-i.invariant.4 c.loop-i.invariant.1 c.in_err-change_clause.ensures.changed)

pub change_clauses-returns-in_err-change_clause-clause-rest : goal.change_clauses-returns-in_err-change_clause-clause-rest
change_clauses-returns-in_err-change_clause-clause-rest g t c = map_stays (around_clause g.W.WriteParts.rest (around_parts_in_statement g.W.WriteParts.rest)) c.loop-i.clauses c.loop-i.i c.get_mut.result.now c.change_clause.new.clause (search rules) c.get_mut.ensures.value (c.in_err-change_clause.ensures.rest) ∙ c.loop-i.invariant.2

pub change_clause-returns-in_err-change_selectors-clause-changed : goal.change_clause-returns-in_err-change_selectors-clause-changed
change_clause-returns-in_err-change_selectors-clause-changed g t c =
    let same : c.from_residual.result ≡ Err c.in_err-change_selectors.field-0.0 = search rules in
    rw same (changed_refusal_first g.W.WriteParts.at _ c.in_err-change_selectors.ensures.changed)

pub change_clause-returns-clause-changed : goal.change_clause-returns-clause-changed
change_clause-returns-clause-changed g t c = changed_both g.W.WriteParts.at c.in_ok-change_selectors.ensures.changed c.change_block.ensures.changed

pub change_loop-returns-in_err-change_attributes-clause-changed : goal.change_loop-returns-in_err-change_attributes-clause-changed
change_loop-returns-in_err-change_attributes-clause-changed g t c =
    let same : c.from_residual.result ≡ Err c.in_err-change_attributes.field-0.0 = search rules in
    rw same (changed_refusal_first g.W.WriteParts.at _ c.in_err-change_attributes.ensures.changed)

pub change_loop-returns-in_err-change_block-clause-changed : goal.change_loop-returns-in_err-change_block-clause-changed
change_loop-returns-in_err-change_block-clause-changed g t c =
    let same : c.from_residual-in_err-change_block.result ≡ Err c.in_err-change_block.field-0.0 = search rules in
    rw same (changed_both g.W.WriteParts.at c.in_ok-change_attributes.ensures.changed (changed_refusal_first g.W.WriteParts.at _ c.in_err-change_block.ensures.changed))

pub change_loop-returns-clause-changed : goal.change_loop-returns-clause-changed
change_loop-returns-clause-changed g t c = changed_both g.W.WriteParts.at c.in_ok-change_attributes.ensures.changed (changed_both g.W.WriteParts.at c.in_ok-change_block.ensures.changed c.change_optional_continuing.ensures.changed)

pub change_optional_continuing-returns-in-None-clause-changed : goal.change_optional_continuing-returns-in-None-clause-changed
change_optional_continuing-returns-in-None-clause-changed g t c = rw c.in-None.is changed_none

pub change_continuing-returns-in_err-change_attributes-clause-changed : goal.change_continuing-returns-in_err-change_attributes-clause-changed
change_continuing-returns-in_err-change_attributes-clause-changed g t c =
    let same : c.from_residual.result ≡ Err c.in_err-change_attributes.field-0.0 = search rules in
    rw same (changed_refusal_first g.W.WriteParts.at _ c.in_err-change_attributes.ensures.changed)

pub change_continuing-returns-in_err-change_block-clause-changed : goal.change_continuing-returns-in_err-change_block-clause-changed
change_continuing-returns-in_err-change_block-clause-changed g t c =
    let same : c.from_residual-in_err-change_block.result ≡ Err c.in_err-change_block.field-0.0 = search rules in
    rw same (changed_both g.W.WriteParts.at c.in_ok-change_attributes.ensures.changed (changed_refusal_first g.W.WriteParts.at _ c.in_err-change_block.ensures.changed))

pub change_continuing-returns-clause-changed : goal.change_continuing-returns-clause-changed
change_continuing-returns-clause-changed g t c = changed_both g.W.WriteParts.at c.in_ok-change_attributes.ensures.changed (changed_both g.W.WriteParts.at c.in_ok-change_block.ensures.changed c.change_break_if.ensures.changed)

pub change_for-returns-in_err-change_attributes-clause-changed : goal.change_for-returns-in_err-change_attributes-clause-changed
change_for-returns-in_err-change_attributes-clause-changed g t c =
    let same : c.from_residual.result ≡ Err c.in_err-change_attributes.field-0.0 = search rules in
    rw same (changed_refusal_first g.W.WriteParts.at _ c.in_err-change_attributes.ensures.changed)

pub change_for-returns-in_err-change_part-clause-changed : goal.change_for-returns-in_err-change_part-clause-changed
change_for-returns-in_err-change_part-clause-changed g t c =
    let same : c.from_residual-in_err-change_part.result ≡ Err c.in_err-change_part.field-0.0 = search rules in
    rw same (changed_both g.W.WriteParts.at c.in_ok-change_attributes.ensures.changed (changed_refusal_first g.W.WriteParts.at _ c.in_err-change_part.ensures.changed))

pub change_for-returns-in_err-change_option-clause-changed : goal.change_for-returns-in_err-change_option-clause-changed
change_for-returns-in_err-change_option-clause-changed g t c =
    let same : c.from_residual-in_err-change_option.result ≡ Err c.in_err-change_option.field-0.0 = search rules in
    rw same (changed_both g.W.WriteParts.at c.in_ok-change_attributes.ensures.changed (changed_both g.W.WriteParts.at c.in_ok-change_part.ensures.changed (changed_refusal_first g.W.WriteParts.at _ c.in_err-change_option.ensures.changed)))

pub change_for-returns-in_err-change_part-2-clause-changed : goal.change_for-returns-in_err-change_part-2-clause-changed
change_for-returns-in_err-change_part-2-clause-changed g t c =
    let same : c.from_residual-in_err-change_part-2.result ≡ Err c.in_err-change_part-2.field-0.0 = search rules in
    rw same (changed_both g.W.WriteParts.at c.in_ok-change_attributes.ensures.changed (changed_both g.W.WriteParts.at c.in_ok-change_part.ensures.changed (changed_both g.W.WriteParts.at c.in_ok-change_option.ensures.changed (changed_refusal_first g.W.WriteParts.at _ c.in_err-change_part-2.ensures.changed))))

pub change_for-returns-clause-changed : goal.change_for-returns-clause-changed
change_for-returns-clause-changed g t c = changed_both g.W.WriteParts.at c.in_ok-change_attributes.ensures.changed (changed_both g.W.WriteParts.at c.in_ok-change_part.ensures.changed (changed_both g.W.WriteParts.at c.in_ok-change_option.ensures.changed (changed_both g.W.WriteParts.at c.in_ok-change_part-2.ensures.changed c.change_block.ensures.changed)))

pub change_part-returns-in-None-clause-changed : goal.change_part-returns-in-None-clause-changed
change_part-returns-in-None-clause-changed g t c = rw c.in-None.is changed_none

pub change_while-returns-in_err-change_marked-clause-changed : goal.change_while-returns-in_err-change_marked-clause-changed
change_while-returns-in_err-change_marked-clause-changed g t c =
    let same : c.from_residual.result ≡ Err c.in_err-change_marked.field-0.0 = search rules in
    rw same (changed_refusal_first g.W.WriteParts.at _ c.in_err-change_marked.ensures.changed)

pub change_while-returns-clause-changed : goal.change_while-returns-clause-changed
change_while-returns-clause-changed g t c = changed_both g.W.WriteParts.at c.in_ok-change_marked.ensures.changed c.change_block.ensures.changed
