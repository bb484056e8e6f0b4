-- What is left of a tree for whoever only asks about names and scopes (WGSL, "Declaration and Scope"). Everything else of a node is
-- its label.
use Rattle.std.specs.Prelude.{ℕ, List, Option}
use Rattle.wgsl_words.specs.declared.operators.UnaryOperator.{UnaryOperator}
use Rattle.wgsl_words.specs.declared.operators.BinaryOperator.{BinaryOperator}
use Rattle.wgsl_words.specs.declared.enumerations.builtin.BuiltinValue.{BuiltinValue}
use Rattle.wgsl_words.specs.declared.enumerations.words.AssignmentOperator.{AssignmentOperator}
use Rattle.wgsl_words.specs.declared.enumerations.words.DiagnosticSeverity.{DiagnosticSeverity}
use Rattle.wgsl_words.specs.declared.enumerations.words.InterpolationType.{InterpolationType}
use Rattle.wgsl_words.specs.declared.enumerations.words.InterpolationSampling.{InterpolationSampling}
use Rattle.wgsl_path.specs.declared.path.ModulePath.{ModulePath}
use Rattle.wgsl_expressions.specs.declared.expression.LiteralExpression.{LiteralExpression}
use Rattle.wgsl_expressions.specs.Tree.{Exp}
use Rattle.wgsl_declarations.specs.DeclarationKind.{DeclarationKind}

abbrev pub Name : Type 0
Name = List ℕ

-- what a node is, with all of it that is neither a name that may denote something nor a part
pub data Label : Type 0 where
  -- parts one after another: a list, or what may be absent
  parts : Label
  -- expressions
  literal : LiteralExpression → Label
  underscore : Label
  parenthesized : Label
  component : Name → Label
  indexed : Label
  unary : UnaryOperator → Label
  binary : BinaryOperator → Label
  call : Label
  -- attributes
  align : Label
  binding : Label
  blend_src : Label
  builtin : BuiltinValue → Label
  constant : Label
  diagnostic : DiagnosticSeverity → List ℕ → Label
  group : Label
  id_number : Label
  interpolate : InterpolationType → Option InterpolationSampling → Label
  invariant : Label
  location : Label
  must_use : Label
  byte_size : Label
  workgroup_size : Label
  vertex : Label
  fragment : Label
  compute : Label
  publish : Label
  -- a condition has flags, which are no names of declarations
  if_true : Exp → Label
  else_if : Exp → Label
  otherwise : Label
  custom : Name → Label
  -- statements
  assignment : AssignmentOperator → Label
  increment : Label
  decrement : Label
  breaking : Label
  continuing : Label
  returning : Label
  discarding : Label
  calling : Label
  asserting : Label
  declaring : DeclarationKind → Label
  compound : Label
  if_statement : Label
  no_else : Label
  else_clause : Label
  else_if_clause : Label
  switch_statement : Label
  switch_clause : Label
  default_selector : Label
  loop_statement : Label
  no_continuing : Label
  continuing_statement : Label
  break_if : Label
  for_statement : Label
  while_statement : Label
  -- declarations
  variable : DeclarationKind → Name → Label
  alias : Name → Label
  structure : Name → Label
  member : Name → Label
  function : Name → Label
  parameter : Label
  assertion : Label

mutual
  pub data Node : Type 0 where
    -- an occurrence: a name, maybe behind the path of a module, with what stands in its template list
    occurrence : Option ModulePath → Name → Nodes → Node
    -- from here on, up to the end of the list in which it stands, the name is a local's
    local : Name → Node
    -- what is declared inside is in scope there alone
    scope : Nodes → Node
    node : Label → Nodes → Node

  pub data Nodes : Type 0 where
    nil : Nodes
    cons : Node → Nodes → Nodes
