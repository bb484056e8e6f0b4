use Rattle.std.proofs.Common.{rules, of_calls, refl, ◌≡◌, ◌∙◌, ◌∷◌, [], Err, length-set}
use Rattle.std.specs.Fn.{CalledAtMut}
use Rattle.wesl_visit_children.specs.Turns.{remade_none, remade_refusal_inside}
use Rattle.wesl_visit.specs.Statements.{in_else_if, in_clause, around_node, around_else_if, around_clause, inside_by, around_by}
use Rattle.wesl_visit.proofs.Cases.{inner}
use Rattle.wesl_visit_children.proofs.Lists.{singles, map_stays, later_same}
use Rattle.wesl_visit_children.proofs.Deep.{changed_both, changed_refusal_first, changed_node}
use Rattle.wesl_visit.proofs.Turns.{nothing_inside}
use Rattle.wesl_visit_children.proofs.DeepLoops.{changed_more, changed_refusal_at, changed_all}
use Rattle.wesl_visit.proofs.change.+change.Goals as goal

pub change_else-returns-in-None-clause-changed : goal.change_else-returns-in-None-clause-changed
change_else-returns-in-None-clause-changed g t c = rw c.in-None.is remade_none

pub change_continuing-returns-in-None-clause-changed : goal.change_continuing-returns-in-None-clause-changed
change_continuing-returns-in-None-clause-changed g t c = rw c.in-None.is remade_none

pub change_part-returns-in-None-clause-changed : goal.change_part-returns-in-None-clause-changed
change_part-returns-in-None-clause-changed g t c = rw c.in-None.is remade_none

pub change_statement-returns-in-Void-clause-changed : goal.change_statement-returns-in-Void-clause-changed
change_statement-returns-in-Void-clause-changed g t c = search (rules, inner, remade_none)

pub change_statement-returns-in-Assignment-clause-changed : goal.change_statement-returns-in-Assignment-clause-changed
change_statement-returns-in-Assignment-clause-changed g t c = search (rules, inner, remade_none)

pub change_statement-returns-in-Increment-clause-changed : goal.change_statement-returns-in-Increment-clause-changed
change_statement-returns-in-Increment-clause-changed g t c = search (rules, inner, remade_none)

pub change_statement-returns-in-Decrement-clause-changed : goal.change_statement-returns-in-Decrement-clause-changed
change_statement-returns-in-Decrement-clause-changed g t c = search (rules, inner, remade_none)

pub change_statement-returns-in-Break-clause-changed : goal.change_statement-returns-in-Break-clause-changed
change_statement-returns-in-Break-clause-changed g t c = search (rules, inner, remade_none)

pub change_statement-returns-in-Continue-clause-changed : goal.change_statement-returns-in-Continue-clause-changed
change_statement-returns-in-Continue-clause-changed g t c = search (rules, inner, remade_none)

pub change_statement-returns-in-Return-clause-changed : goal.change_statement-returns-in-Return-clause-changed
change_statement-returns-in-Return-clause-changed g t c = search (rules, inner, remade_none)

pub change_statement-returns-in-Discard-clause-changed : goal.change_statement-returns-in-Discard-clause-changed
change_statement-returns-in-Discard-clause-changed g t c = search (rules, inner, remade_none)

pub change_statement-returns-in-FunctionCall-clause-changed : goal.change_statement-returns-in-FunctionCall-clause-changed
change_statement-returns-in-FunctionCall-clause-changed g t c = search (rules, inner, remade_none)

pub change_statement-returns-in-ConstAssert-clause-changed : goal.change_statement-returns-in-ConstAssert-clause-changed
change_statement-returns-in-ConstAssert-clause-changed g t c = search (rules, inner, remade_none)

pub change_statement-returns-in-Declaration-clause-changed : goal.change_statement-returns-in-Declaration-clause-changed
change_statement-returns-in-Declaration-clause-changed g t c = search (rules, inner, remade_none)

pub change_nodes-loop-i-init : goal.change_nodes-loop-i-init
change_nodes-loop-i-init g t c = (search rules, remade_none, refl, refl, λ k d le. refl)

pub change_nodes-loop-i-preserved : goal.change_nodes-loop-i-preserved
change_nodes-loop-i-preserved g t c = (
  c.in_ok-change_node.ensures.callable,
  changed_more (inside_by c.args.deep) (around_by c.args.deep) (CalledAtMut g.F.FnMut) (λ n. n ∷ []) c.args.f.now c.loop-i.f c.change_node.new.f c.args.nodes.now c.loop-i.nodes c.loop-i.i c.get_mut.result.now c.change_node.new.node (search rules) c.loop-i.invariant.3 c.get_mut.ensures.value c.loop-i.invariant.4 c.loop-i.invariant.1 c.in_ok-change_node.ensures.changed,
  map_stays around_node c.loop-i.nodes c.loop-i.i c.get_mut.result.now c.change_node.new.node (search rules) c.get_mut.ensures.value refl ∙ c.loop-i.invariant.2,
  length-set c.loop-i.nodes c.loop-i.i c.change_node.new.node ∙ c.loop-i.invariant.3,
  later_same c.args.nodes.now c.loop-i.nodes c.loop-i.i c.change_node.new.node c.loop-i.invariant.4,
)

pub change_nodes-returns-in_err-change_node-clause-changed : goal.change_nodes-returns-in_err-change_node-clause-changed
change_nodes-returns-in_err-change_node-clause-changed g t c =
    let same : c.from_residual.result ≡ Err c.in_err-change_node.field-0.0 = search rules in
    rw same (simp singles at (changed_refusal_at (inside_by c.args.deep) (around_by c.args.deep) (CalledAtMut g.F.FnMut) (λ n. n ∷ []) c.args.f.now c.loop-i.f c.change_node.new.f c.in_err-change_node.field-0.0 c.args.nodes.now c.loop-i.nodes c.loop-i.i c.get_mut.result.now c.change_node.new.node (search rules) c.loop-i.invariant.3 c.get_mut.ensures.value c.loop-i.invariant.4 c.loop-i.invariant.1 c.in_err-change_node.ensures.changed))

pub change_nodes-returns-in_err-change_node-clause-rest : goal.change_nodes-returns-in_err-change_node-clause-rest
change_nodes-returns-in_err-change_node-clause-rest g t c = map_stays around_node c.loop-i.nodes c.loop-i.i c.get_mut.result.now c.change_node.new.node (search rules) c.get_mut.ensures.value refl ∙ c.loop-i.invariant.2

pub change_else_ifs-loop-i-init : goal.change_else_ifs-loop-i-init
change_else_ifs-loop-i-init g t c = (search rules, remade_none, refl, refl, λ k d le. refl)

pub change_else_ifs-loop-i-preserved : goal.change_else_ifs-loop-i-preserved
change_else_ifs-loop-i-preserved g t c = (
  c.in_ok-change_else_if.ensures.callable,
  changed_more (inside_by c.args.deep) (around_by c.args.deep) (CalledAtMut g.F.FnMut) in_else_if c.args.f.now c.loop-i.f c.change_else_if.new.f c.args.clauses.now c.loop-i.clauses c.loop-i.i c.get_mut.result.now c.change_else_if.new.clause (search rules) c.loop-i.invariant.3 c.get_mut.ensures.value c.loop-i.invariant.4 c.loop-i.invariant.1 c.in_ok-change_else_if.ensures.changed,
  map_stays around_else_if c.loop-i.clauses c.loop-i.i c.get_mut.result.now c.change_else_if.new.clause (search rules) c.get_mut.ensures.value c.in_ok-change_else_if.ensures.rest ∙ c.loop-i.invariant.2,
  length-set c.loop-i.clauses c.loop-i.i c.change_else_if.new.clause ∙ c.loop-i.invariant.3,
  later_same c.args.clauses.now c.loop-i.clauses c.loop-i.i c.change_else_if.new.clause c.loop-i.invariant.4,
)

pub change_else_ifs-returns-in_err-change_else_if-clause-changed : goal.change_else_ifs-returns-in_err-change_else_if-clause-changed
change_else_ifs-returns-in_err-change_else_if-clause-changed g t c =
    let same : c.from_residual.result ≡ Err c.in_err-change_else_if.field-0.0 = search rules in
    rw same (changed_refusal_at (inside_by c.args.deep) (around_by c.args.deep) (CalledAtMut g.F.FnMut) in_else_if c.args.f.now c.loop-i.f c.change_else_if.new.f c.in_err-change_else_if.field-0.0 c.args.clauses.now c.loop-i.clauses c.loop-i.i c.get_mut.result.now c.change_else_if.new.clause (search rules) c.loop-i.invariant.3 c.get_mut.ensures.value c.loop-i.invariant.4 c.loop-i.invariant.1 c.in_err-change_else_if.ensures.changed)

pub change_else_ifs-returns-in_err-change_else_if-clause-rest : goal.change_else_ifs-returns-in_err-change_else_if-clause-rest
change_else_ifs-returns-in_err-change_else_if-clause-rest g t c = map_stays around_else_if c.loop-i.clauses c.loop-i.i c.get_mut.result.now c.change_else_if.new.clause (search rules) c.get_mut.ensures.value c.in_err-change_else_if.ensures.rest ∙ c.loop-i.invariant.2

pub change_clauses-loop-i-init : goal.change_clauses-loop-i-init
change_clauses-loop-i-init g t c = (search rules, remade_none, refl, refl, λ k d le. refl)

pub change_clauses-loop-i-preserved : goal.change_clauses-loop-i-preserved
change_clauses-loop-i-preserved g t c = (
  c.in_ok-change_clause.ensures.callable,
  changed_more (inside_by c.args.deep) (around_by c.args.deep) (CalledAtMut g.F.FnMut) in_clause c.args.f.now c.loop-i.f c.change_clause.new.f c.args.clauses.now c.loop-i.clauses c.loop-i.i c.get_mut.result.now c.change_clause.new.clause (search rules) c.loop-i.invariant.3 c.get_mut.ensures.value c.loop-i.invariant.4 c.loop-i.invariant.1 c.in_ok-change_clause.ensures.changed,
  map_stays around_clause c.loop-i.clauses c.loop-i.i c.get_mut.result.now c.change_clause.new.clause (search rules) c.get_mut.ensures.value c.in_ok-change_clause.ensures.rest ∙ c.loop-i.invariant.2,
  length-set c.loop-i.clauses c.loop-i.i c.change_clause.new.clause ∙ c.loop-i.invariant.3,
  later_same c.args.clauses.now c.loop-i.clauses c.loop-i.i c.change_clause.new.clause c.loop-i.invariant.4,
)

pub change_clauses-returns-in_err-change_clause-clause-changed : goal.change_clauses-returns-in_err-change_clause-clause-changed
change_clauses-returns-in_err-change_clause-clause-changed g t c =
    let same : c.from_residual.result ≡ Err c.in_err-change_clause.field-0.0 = search rules in
    rw same (changed_refusal_at (inside_by c.args.deep) (around_by c.args.deep) (CalledAtMut g.F.FnMut) in_clause c.args.f.now c.loop-i.f c.change_clause.new.f c.in_err-change_clause.field-0.0 c.args.clauses.now c.loop-i.clauses c.loop-i.i c.get_mut.result.now c.change_clause.new.clause (search rules) c.loop-i.invariant.3 c.get_mut.ensures.value c.loop-i.invariant.4 c.loop-i.invariant.1 c.in_err-change_clause.ensures.changed)

pub change_clauses-returns-in_err-change_clause-clause-rest : goal.change_clauses-returns-in_err-change_clause-clause-rest
change_clauses-returns-in_err-change_clause-clause-rest g t c = map_stays around_clause c.loop-i.clauses c.loop-i.i c.get_mut.result.now c.change_clause.new.clause (search rules) c.get_mut.ensures.value c.in_err-change_clause.ensures.rest ∙ c.loop-i.invariant.2

pub change_nodes-returns-clause-changed : goal.change_nodes-returns-clause-changed
change_nodes-returns-clause-changed g t c = simp singles at (changed_all (inside_by c.args.deep) (around_by c.args.deep) (CalledAtMut g.F.FnMut) (λ n. n ∷ []) c.args.f.now c.loop-i.f c.args.nodes.now c.loop-i.nodes c.loop-i.i (search rules) c.loop-i.invariant.3 c.loop-i.invariant.1)

pub change_if-returns-in_err-change_block-clause-changed : goal.change_if-returns-in_err-change_block-clause-changed
change_if-returns-in_err-change_block-clause-changed g t c =
    let same : c.from_residual.result ≡ Err c.in_err-change_block.field-0.0 = search rules in
    rw same (changed_refusal_first (inside_by c.args.deep) (around_by c.args.deep) (CalledAtMut g.F.FnMut) _ c.in_err-change_block.ensures.changed)

pub change_if-returns-in_err-change_else_ifs-clause-changed : goal.change_if-returns-in_err-change_else_ifs-clause-changed
change_if-returns-in_err-change_else_ifs-clause-changed g t c =
    let same : c.from_residual-in_err-change_else_ifs.result ≡ Err c.in_err-change_else_ifs.field-0.0 = search rules in
    rw same (changed_both (inside_by c.args.deep) (around_by c.args.deep) (CalledAtMut g.F.FnMut) c.in_ok-change_block.ensures.changed (changed_refusal_first (inside_by c.args.deep) (around_by c.args.deep) (CalledAtMut g.F.FnMut) _ c.in_err-change_else_ifs.ensures.changed))

pub change_if-returns-clause-changed : goal.change_if-returns-clause-changed
change_if-returns-clause-changed g t c = changed_both (inside_by c.args.deep) (around_by c.args.deep) (CalledAtMut g.F.FnMut) c.in_ok-change_block.ensures.changed (changed_both (inside_by c.args.deep) (around_by c.args.deep) (CalledAtMut g.F.FnMut) c.in_ok-change_else_ifs.ensures.changed c.change_else.ensures.changed)

pub change_loop-returns-in_err-change_block-clause-changed : goal.change_loop-returns-in_err-change_block-clause-changed
change_loop-returns-in_err-change_block-clause-changed g t c =
    let same : c.from_residual.result ≡ Err c.in_err-change_block.field-0.0 = search rules in
    rw same (changed_refusal_first (inside_by c.args.deep) (around_by c.args.deep) (CalledAtMut g.F.FnMut) _ c.in_err-change_block.ensures.changed)

pub change_loop-returns-clause-changed : goal.change_loop-returns-clause-changed
change_loop-returns-clause-changed g t c = changed_both (inside_by c.args.deep) (around_by c.args.deep) (CalledAtMut g.F.FnMut) c.in_ok-change_block.ensures.changed c.change_continuing.ensures.changed

pub change_for-returns-in_err-change_part-clause-changed : goal.change_for-returns-in_err-change_part-clause-changed
change_for-returns-in_err-change_part-clause-changed g t c =
    let same : c.from_residual.result ≡ Err c.in_err-change_part.field-0.0 = search rules in
    rw same (changed_refusal_first (inside_by c.args.deep) (around_by c.args.deep) (CalledAtMut g.F.FnMut) _ c.in_err-change_part.ensures.changed)

pub change_for-returns-in_err-change_part-2-clause-changed : goal.change_for-returns-in_err-change_part-2-clause-changed
change_for-returns-in_err-change_part-2-clause-changed g t c =
    let same : c.from_residual-in_err-change_part-2.result ≡ Err c.in_err-change_part-2.field-0.0 = search rules in
    rw same (changed_both (inside_by c.args.deep) (around_by c.args.deep) (CalledAtMut g.F.FnMut) c.in_ok-change_part.ensures.changed (changed_refusal_first (inside_by c.args.deep) (around_by c.args.deep) (CalledAtMut g.F.FnMut) _ c.in_err-change_part-2.ensures.changed))

pub change_for-returns-clause-changed : goal.change_for-returns-clause-changed
change_for-returns-clause-changed g t c = changed_both (inside_by c.args.deep) (around_by c.args.deep) (CalledAtMut g.F.FnMut) c.in_ok-change_part.ensures.changed (changed_both (inside_by c.args.deep) (around_by c.args.deep) (CalledAtMut g.F.FnMut) c.in_ok-change_part-2.ensures.changed c.change_block.ensures.changed)

pub change_node-returns-in_err-change_inside-clause-changed : goal.change_node-returns-in_err-change_inside-clause-changed
change_node-returns-in_err-change_inside-clause-changed g t c =
    let same : c.from_residual.result ≡ Err c.in_err-change_inside.field-0.0 = search rules in
    rw same (remade_refusal_inside c.in_err-change_inside.ensures.changed c.in_err-change_inside.ensures.rest)

pub change_node-returns-clause-changed : goal.change_node-returns-clause-changed
change_node-returns-clause-changed g t c =
    let step : CalledAtMut g.F.FnMut c.change_inside.new.f c.change_inside.new.node c.f.result c.f.new.self c.f.new.arg2 = search (rules, of_calls) in
    changed_node (inside_by c.args.deep) (around_by c.args.deep) (CalledAtMut g.F.FnMut) c.args.f.now c.change_inside.new.f c.f.new.self c.args.node.now c.change_inside.new.node c.f.new.arg2
    c.f.result c.in_ok-change_inside.ensures.changed c.in_ok-change_inside.ensures.rest step

pub change_inside-returns-else-deep-clause-changed : goal.change_inside-returns-else-deep-clause-changed
change_inside-returns-else-deep-clause-changed g t c = nothing_inside c.args.deep (CalledAtMut g.F.FnMut) c.args.f.now c.args.node.now c.if-deep.false
