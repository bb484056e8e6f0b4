use Rattle.std.proofs.Common.{refl, ap, ◌∙◌, ◌<◌, ◌≤◌, length, arith, length-set}
use Rattle.wgsl_expressions.specs.View.{node_tree}
use Rattle.wgsl_expressions.specs.AttributesView.{attributes_tree}
use Rattle.wgsl_statements.specs.View.{statement_tree, block_tree}
use Rattle.wesl_marks_mut.specs.WrittenStatements.{else_if_tree, else_if_written}
use Rattle.wesl_marks_mut.proofs.Each.{none_yet, wrote_more, wrote_all, later_same}
use Rattle.wesl_marks_mut.proofs.StatementLists.{maybe_written, tree_at, clause_written, clause_tree, statements_wrote, clauses_wrote, if_wrote}
use Rattle.wesl_marks_mut.proofs.statements.+statements.Goals as goal

pub write_statements-loop-i-init : goal.write_statements-loop-i-init
write_statements-loop-i-init t c = (refl, λ k d le. refl, none_yet)

pub write_statements-loop-i-preserved : goal.write_statements-loop-i-preserved
write_statements-loop-i-preserved t c =
    let same = c.loop-i.invariant.0 in
    let test = c.loop-i-test.true in
    let end = c.len-i-end.ensures in
    let within : c.loop-i.i < length c.loop-i.nodes = omega (arith, same, test, end) in (
      length-set c.loop-i.nodes c.loop-i.i _ ∙ same,
      later_same c.args.nodes.now c.loop-i.nodes c.loop-i.i _ c.loop-i.invariant.1,
      wrote_more maybe_written tree_at c.loop-i.i c.args.nodes.now c.loop-i.nodes c.args.script.now.rest.items c.loop-i.script.rest.items c.write_statement.new.script.rest.items c.get_mut.result.now _
          c.loop-i.invariant.2 within c.get_mut.ensures.value ((λ k. (c.write_statement.ensures.tree k, c.write_statement.ensures.rest k)) ∙ ap (λ v. maybe_written (statement_tree v) c.loop-i.script.rest.items) c.node_mut.ensures.value),
    )

pub write_statements-returns-clause-tree : goal.write_statements-returns-clause-tree
write_statements-returns-clause-tree t c =
    let test = c.loop-i-test.false in
    let end = c.len-i-end.ensures in
    let done : length c.args.nodes.now ≤ c.loop-i.i = omega (arith, test, end) in
    ap (λ r. r.0) (statements_wrote c.loop-i.invariant.2 done)

pub write_statements-returns-clause-rest : goal.write_statements-returns-clause-rest
write_statements-returns-clause-rest t c =
    let test = c.loop-i-test.false in
    let end = c.len-i-end.ensures in
    let done : length c.args.nodes.now ≤ c.loop-i.i = omega (arith, test, end) in
    ap (λ r. r.1) (statements_wrote c.loop-i.invariant.2 done)

pub write_else_ifs-loop-i-init : goal.write_else_ifs-loop-i-init
write_else_ifs-loop-i-init t c = (refl, λ k d le. refl, none_yet)

pub write_else_ifs-loop-i-preserved : goal.write_else_ifs-loop-i-preserved
write_else_ifs-loop-i-preserved t c =
    let same = c.loop-i.invariant.0 in
    let test = c.loop-i-test.true in
    let end = c.len-i-end.ensures in
    let within : c.loop-i.i < length c.loop-i.clauses = omega (arith, same, test, end) in (
      length-set c.loop-i.clauses c.loop-i.i _ ∙ same,
      later_same c.args.clauses.now c.loop-i.clauses c.loop-i.i _ c.loop-i.invariant.1,
      wrote_more else_if_written else_if_tree c.loop-i.i c.args.clauses.now c.loop-i.clauses c.args.script.now.rest.items c.loop-i.script.rest.items c.write_else_if.new.script.rest.items c.get_mut.result.now _
          c.loop-i.invariant.2 within c.get_mut.ensures.value (λ k. ((c.write_else_if.ensures.expression k, c.write_else_if.ensures.body k), c.write_else_if.ensures.rest k)),
    )

pub write_else_ifs-returns-clause-tree : goal.write_else_ifs-returns-clause-tree
write_else_ifs-returns-clause-tree t c =
    let test = c.loop-i-test.false in
    let end = c.len-i-end.ensures in
    let done : length c.args.clauses.now ≤ c.loop-i.i = omega (arith, test, end) in
    ap (λ r. r.0) (wrote_all else_if_written else_if_tree c.loop-i.invariant.2 done)

pub write_else_ifs-returns-clause-rest : goal.write_else_ifs-returns-clause-rest
write_else_ifs-returns-clause-rest t c =
    let test = c.loop-i-test.false in
    let end = c.len-i-end.ensures in
    let done : length c.args.clauses.now ≤ c.loop-i.i = omega (arith, test, end) in
    ap (λ r. r.1) (wrote_all else_if_written else_if_tree c.loop-i.invariant.2 done)

pub write_clauses-loop-i-init : goal.write_clauses-loop-i-init
write_clauses-loop-i-init t c = (refl, λ k d le. refl, none_yet)

pub write_clauses-loop-i-preserved : goal.write_clauses-loop-i-preserved
write_clauses-loop-i-preserved t c =
    let same = c.loop-i.invariant.0 in
    let test = c.loop-i-test.true in
    let end = c.len-i-end.ensures in
    let within : c.loop-i.i < length c.loop-i.clauses = omega (arith, same, test, end) in (
      length-set c.loop-i.clauses c.loop-i.i _ ∙ same,
      later_same c.args.clauses.now c.loop-i.clauses c.loop-i.i _ c.loop-i.invariant.1,
      wrote_more clause_written clause_tree c.loop-i.i c.args.clauses.now c.loop-i.clauses c.args.script.now.rest.items c.loop-i.script.rest.items c.write_clause.new.script.rest.items c.get_mut.result.now _
          c.loop-i.invariant.2 within c.get_mut.ensures.value (λ k. ((c.write_clause.ensures.selectors k, c.write_clause.ensures.body k), c.write_clause.ensures.rest k)),
    )

pub write_clauses-returns-clause-tree : goal.write_clauses-returns-clause-tree
write_clauses-returns-clause-tree t c =
    let test = c.loop-i-test.false in
    let end = c.len-i-end.ensures in
    let done : length c.args.clauses.now ≤ c.loop-i.i = omega (arith, test, end) in
    ap (λ r. r.0) (clauses_wrote c.loop-i.invariant.2 done)

pub write_clauses-returns-clause-rest : goal.write_clauses-returns-clause-rest
write_clauses-returns-clause-rest t c =
    let test = c.loop-i-test.false in
    let end = c.len-i-end.ensures in
    let done : length c.args.clauses.now ≤ c.loop-i.i = omega (arith, test, end) in
    ap (λ r. r.1) (clauses_wrote c.loop-i.invariant.2 done)

pub write_if-returns-clause-tree : goal.write_if-returns-clause-tree
write_if-returns-clause-tree t c =
    let x = c.args.x.now in
    ap (λ r. r.0) (if_wrote (attributes_tree x.attributes) (attributes_tree c.write_marked.new.attributes) (node_tree x.if_clause.expression) (node_tree c.write_marked.new.expression)
    (block_tree x.if_clause.body) (block_tree c.write_block.new.x) x.else_if_clauses c.write_else_ifs.new.clauses x.else_clause c.write_else.new.last
    c.args.script.now.rest.items c.write_marked.new.script.rest.items c.write_block.new.script.rest.items c.write_else_ifs.new.script.rest.items c.write_else.new.script.rest.items
    c.write_marked.ensures.attributes c.write_marked.ensures.tree c.write_marked.ensures.rest c.write_block.ensures.tree c.write_block.ensures.rest
    c.write_else_ifs.ensures.tree c.write_else_ifs.ensures.rest c.write_else.ensures.tree c.write_else.ensures.rest)

pub write_if-returns-clause-rest : goal.write_if-returns-clause-rest
write_if-returns-clause-rest t c =
    let x = c.args.x.now in
    ap (λ r. r.1) (if_wrote (attributes_tree x.attributes) (attributes_tree c.write_marked.new.attributes) (node_tree x.if_clause.expression) (node_tree c.write_marked.new.expression)
    (block_tree x.if_clause.body) (block_tree c.write_block.new.x) x.else_if_clauses c.write_else_ifs.new.clauses x.else_clause c.write_else.new.last
    c.args.script.now.rest.items c.write_marked.new.script.rest.items c.write_block.new.script.rest.items c.write_else_ifs.new.script.rest.items c.write_else.new.script.rest.items
    c.write_marked.ensures.attributes c.write_marked.ensures.tree c.write_marked.ensures.rest c.write_block.ensures.tree c.write_block.ensures.rest
    c.write_else_ifs.ensures.tree c.write_else_ifs.ensures.rest c.write_else.ensures.tree c.write_else.ensures.rest)
