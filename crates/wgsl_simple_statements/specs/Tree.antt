-- Statements that hold no other statement, without places.
use Rattle.std.specs.Prelude.{ℕ, List, Option}
use Rattle.wgsl_expressions.specs.AssignmentOperator.{AssignmentOperator}
use Rattle.wgsl_expressions.specs.Tree.{Exp, Exps, Typ}
use Rattle.wgsl_expressions.specs.AttributesTree.{Attr}
use Rattle.wgsl_simple_statements.specs.declared.declaration.DeclarationKind.{DeclarationKind}

-- a statement that ends with `;` (WGSL, "Statements"), its attributes first
pub data Simple : Type 0 where
  assignment : List Attr → AssignmentOperator → Exp → Exp → Simple
  increment : List Attr → Exp → Simple
  decrement : List Attr → Exp → Simple
  breaking : List Attr → Simple
  continuing : List Attr → Simple
  returning : List Attr → Option Exp → Simple
  discarding : List Attr → Simple
  calling : List Attr → Typ → Exps → Simple
  asserting : List Attr → Exp → Simple
  declaring : List Attr → DeclarationKind → List ℕ → Option Typ → Option Exp → Simple

-- `break if` and its condition
pub record BreakIf : Type 0 where
  pub attributes : List Attr
  pub condition : Exp

-- a selector of a clause of `switch`
pub data Selector : Type 0 where
  default_selector : Selector
  selected : Exp → Selector
