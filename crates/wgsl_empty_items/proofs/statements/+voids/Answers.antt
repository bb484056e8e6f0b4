use Rattle.std.proofs.Common.{rules, ap, ◌∙◌, slice_set}
use Rattle.std.proofs.lemmas.List.Edits.{map_over_more}
use Rattle.wgsl_empty_items.specs.Statements.{with_node, with_else_if, with_clause, without_voids}
use Rattle.wgsl_empty_items.proofs.statements.+voids.Goals as goal

pub remove_inside-loop-i-preserved : goal.remove_inside-loop-i-preserved
remove_inside-loop-i-preserved t c =
    ap (slice_set c.loop-i.nodes c.loop-i.i) c.remove_in_node.ensures
    ∙ map_over_more (with_node without_voids) c.args.nodes.now c.loop-i.nodes c.loop-i.i c.get_mut.result.now (search rules) c.loop-i.invariant c.get_mut.ensures.value

pub remove_in_else_ifs-loop-i-preserved : goal.remove_in_else_ifs-loop-i-preserved
remove_in_else_ifs-loop-i-preserved t c =
    ap (slice_set c.loop-i.clauses c.loop-i.i) c.remove_in_else_if.ensures
    ∙ map_over_more (with_else_if without_voids) c.args.clauses.now c.loop-i.clauses c.loop-i.i c.get_mut.result.now (search rules) c.loop-i.invariant c.get_mut.ensures.value

pub remove_in_clauses-loop-i-preserved : goal.remove_in_clauses-loop-i-preserved
remove_in_clauses-loop-i-preserved t c =
    ap (slice_set c.loop-i.clauses c.loop-i.i) c.remove_in_clause.ensures
    ∙ map_over_more (with_clause without_voids) c.args.clauses.now c.loop-i.clauses c.loop-i.i c.get_mut.result.now (search rules) c.loop-i.invariant c.get_mut.ensures.value
