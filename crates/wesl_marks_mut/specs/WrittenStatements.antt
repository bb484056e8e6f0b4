-- Statements whose names, those of locals too, take what a script holds for them.
use Rattle.wgsl_expressions.specs.Tree.{Exp}
use Rattle.wgsl_expressions.specs.View.{node_tree}
use Rattle.wgsl_declarations.specs.SimpleStatementsTree.{Simple, assignment, increment, decrement, breaking, continuing, returning, discarding, calling, asserting, declaring, BreakIf, Selector, default_selector, selected}
use Rattle.wgsl_statements.specs.Tree.{Stm, simple, compound_statement, if_statement, switch_statement, loop_statement, for_statement, while_statement, Stms, nil, cons, Block, block, Elses, no_else, else_clause, else_if_clause, Clauses, no_clauses, switch_clause, Continuing, no_continuing, continuing_statement, Part, absent, present}
use Rattle.wgsl_statements.specs.View.{block_tree}
use Rattle.wgsl_statements.specs.declared.statement.Statement.{Statement}
use Rattle.wgsl_statements.specs.declared.statement.ElseIfClauseOf.{ElseIfClauseOf}
use Rattle.wesl_marks_mut.specs.Lasts.{init, last}
use Rattle.wesl_marks_mut.specs.Putting.{put_name}
use Rattle.wesl_marks_mut.specs.Walks.{each, if_there}
use Rattle.wesl_marks_mut.specs.Written.{Left, written, all_written, type_written}
use Rattle.wesl_marks_mut.specs.WrittenAttributes.{attributes_written}

abbrev pub simple_written : Simple → Left → Simple × Left
simple_written (assignment attributes o x y) s =
    let a = attributes_written attributes s in let b = written x a.1 in let c = written y b.1 in (assignment a.0 o b.0 c.0, c.1)
simple_written (increment attributes x) s = let a = attributes_written attributes s in let b = written x a.1 in (increment a.0 b.0, b.1)
simple_written (decrement attributes x) s = let a = attributes_written attributes s in let b = written x a.1 in (decrement a.0 b.0, b.1)
simple_written (breaking attributes) s = let a = attributes_written attributes s in (breaking a.0, a.1)
simple_written (continuing attributes) s = let a = attributes_written attributes s in (continuing a.0, a.1)
simple_written (returning attributes value) s = let a = attributes_written attributes s in let b = if_there written value a.1 in (returning a.0 b.0, b.1)
simple_written (discarding attributes) s = let a = attributes_written attributes s in (discarding a.0, a.1)
simple_written (calling attributes type xs) s =
    let a = attributes_written attributes s in let b = type_written type a.1 in let c = all_written xs b.1 in (calling a.0 b.0 c.0, c.1)
simple_written (asserting attributes x) s = let a = attributes_written attributes s in let b = written x a.1 in (asserting a.0 b.0, b.1)
simple_written (declaring attributes kind x type value) s =
    let a = attributes_written attributes s in let b = if_there type_written type a.1 in let c = if_there written value b.1 in
    (declaring a.0 kind (put_name x (last c.1)) b.0 c.0, init c.1)

abbrev pub break_if_written : BreakIf → Left → BreakIf × Left
break_if_written x s =
    let a = attributes_written x.attributes s in let b = written x.condition a.1 in (record { attributes = a.0; condition = b.0 }, b.1)

abbrev pub selector_written : Selector → Left → Selector × Left
selector_written default_selector s = (default_selector, s)
selector_written (selected x) s = let r = written x s in (selected r.0, r.1)

abbrev mutual
  pub statement_written : Stm → Left → Stm × Left
  statement_written (simple x) s = let r = simple_written x s in (simple r.0, r.1)
  statement_written (compound_statement x) s = let r = block_written x s in (compound_statement r.0, r.1)
  statement_written (if_statement attributes x body elses) s =
      let a = attributes_written attributes s in let b = written x a.1 in let c = block_written body b.1 in let d = elses_written elses c.1 in
      (if_statement a.0 b.0 c.0 d.0, d.1)
  statement_written (switch_statement attributes x body_attributes clauses) s =
      let a = attributes_written attributes s in let b = written x a.1 in let c = attributes_written body_attributes b.1 in
      let d = clauses_written clauses c.1 in (switch_statement a.0 b.0 c.0 d.0, d.1)
  statement_written (loop_statement attributes body ending) s =
      let a = attributes_written attributes s in let b = block_written body a.1 in let c = continuing_written ending b.1 in
      (loop_statement a.0 b.0 c.0, c.1)
  statement_written (for_statement attributes initializer condition update body) s =
      let a = attributes_written attributes s in let b = part_written initializer a.1 in let c = if_there written condition b.1 in
      let d = part_written update c.1 in let e = block_written body d.1 in (for_statement a.0 b.0 c.0 d.0 e.0, e.1)
  statement_written (while_statement attributes x body) s =
      let a = attributes_written attributes s in let b = written x a.1 in let c = block_written body b.1 in (while_statement a.0 b.0 c.0, c.1)

  pub statements_written : Stms → Left → Stms × Left
  statements_written nil s = (nil, s)
  statements_written (cons x xs) s = let a = statement_written x s in let b = statements_written xs a.1 in (cons a.0 b.0, b.1)

  pub block_written : Block → Left → Block × Left
  block_written (block attributes statements) s =
      let a = attributes_written attributes s in let b = statements_written statements a.1 in (block a.0 b.0, b.1)

  pub elses_written : Elses → Left → Elses × Left
  elses_written no_else s = (no_else, s)
  elses_written (else_clause body) s = let a = block_written body s in (else_clause a.0, a.1)
  elses_written (else_if_clause x body more) s =
      let a = written x s in let b = block_written body a.1 in let c = elses_written more b.1 in (else_if_clause a.0 b.0 c.0, c.1)

  pub clauses_written : Clauses → Left → Clauses × Left
  clauses_written no_clauses s = (no_clauses, s)
  clauses_written (switch_clause selectors body more) s =
      let a = each selector_written selectors s in let b = block_written body a.1 in let c = clauses_written more b.1 in
      (switch_clause a.0 b.0 c.0, c.1)

  pub continuing_written : Continuing → Left → Continuing × Left
  continuing_written no_continuing s = (no_continuing, s)
  continuing_written (continuing_statement attributes body break_if) s =
      let a = attributes_written attributes s in let b = block_written body a.1 in let c = if_there break_if_written break_if b.1 in
      (continuing_statement a.0 b.0 c.0, c.1)

  pub part_written : Part → Left → Part × Left
  part_written absent s = (absent, s)
  part_written (present x) s = let a = statement_written x s in (present a.0, a.1)

-- a clause `else if`
abbrev pub else_if_tree : ElseIfClauseOf Statement → Exp × Block
else_if_tree c = (node_tree c.expression, block_tree c.body)

abbrev pub else_if_written : Exp × Block → Left → (Exp × Block) × Left
else_if_written c s = let a = written c.0 s in let b = block_written c.1 a.1 in ((a.0, b.0), b.1)
