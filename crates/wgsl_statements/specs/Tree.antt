-- Statements without places: what a text says, whatever its layout. A `;` alone is none of them.
use Rattle.std.specs.Prelude.{List, Option}
use Rattle.wgsl_simple_statements.specs.ExpressionsTree.{Exp}
use Rattle.wgsl_simple_statements.specs.AttributesTree.{Attr}
use Rattle.wgsl_simple_statements.specs.Tree.{Simple, BreakIf, Selector}

mutual
  -- a statement (WGSL, "Statements"), its attributes first
  pub data Stm : Type 0 where
    simple : Simple → Stm
    compound_statement : Block → Stm
    if_statement : List Attr → Exp → Block → Elses → Stm
    switch_statement : List Attr → Exp → List Attr → Clauses → Stm
    loop_statement : List Attr → Block → Continuing → Stm
    for_statement : List Attr → Part → Option Exp → Part → Block → Stm
    while_statement : List Attr → Exp → Block → Stm

  -- a list of statements
  pub data Stms : Type 0 where
    nil : Stms
    cons : Stm → Stms → Stms

  -- statements in braces, with the attributes before the first brace
  pub data Block : Type 0 where
    block : List Attr → Stms → Block

  -- what stands behind the first clause of `if` (WGSL, "If Statement")
  pub data Elses : Type 0 where
    no_else : Elses
    else_clause : Block → Elses
    else_if_clause : Exp → Block → Elses → Elses

  -- the clauses of `switch` (WGSL, "Switch Statement")
  pub data Clauses : Type 0 where
    no_clauses : Clauses
    switch_clause : List Selector → Block → Clauses → Clauses

  -- what ends the body of `loop` (WGSL, "Continuing Statement")
  pub data Continuing : Type 0 where
    no_continuing : Continuing
    continuing_statement : List Attr → Block → Option BreakIf → Continuing

  -- a part of the header of `for` that may be absent (WGSL, "For Statement")
  pub data Part : Type 0 where
    absent : Part
    present : Stm → Part
