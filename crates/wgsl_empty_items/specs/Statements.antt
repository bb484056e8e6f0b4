-- Statements without their empty items, at every depth. An empty item is a `;` alone.
use Rattle.std.specs.Prelude.{List, map, Option, Some, None, Bool, true, false, cond, not}
use Rattle.std.specs.List.{filter}
use Rattle.std.specs.Option.{option_map}
use Rattle.wgsl_path.specs.declared.span.Spanned.{Spanned}
use Rattle.wgsl_statements.specs.declared.statement.Statement.{Statement, out-Statement, fold-Statement}
use Rattle.wgsl_statements.specs.declared.statement.Statement.TheOpen.{Statement-F}
use Rattle.wgsl_statements.specs.declared.statement.Statement.TheVariants as code
use Rattle.wgsl_statements.specs.declared.statement.CompoundStatementOf.{CompoundStatementOf}
use Rattle.wgsl_statements.specs.declared.statement.IfStatementOf.{IfStatementOf}
use Rattle.wgsl_statements.specs.declared.statement.IfClauseOf.{IfClauseOf}
use Rattle.wgsl_statements.specs.declared.statement.ElseIfClauseOf.{ElseIfClauseOf}
use Rattle.wgsl_statements.specs.declared.statement.ElseClauseOf.{ElseClauseOf}
use Rattle.wgsl_statements.specs.declared.statement.SwitchStatementOf.{SwitchStatementOf}
use Rattle.wgsl_statements.specs.declared.statement.SwitchClauseOf.{SwitchClauseOf}
use Rattle.wgsl_statements.specs.declared.statement.LoopStatementOf.{LoopStatementOf}
use Rattle.wgsl_statements.specs.declared.statement.ContinuingStatementOf.{ContinuingStatementOf}
use Rattle.wgsl_statements.specs.declared.statement.ForStatementOf.{ForStatementOf}
use Rattle.wgsl_statements.specs.declared.statement.WhileStatementOf.{WhileStatementOf}

abbrev pub is_void_layer : {A : Type 0} → Statement-F A → Bool
is_void_layer Statement-F.Void = true
is_void_layer _ = false

-- whether it is a `;` alone
abbrev pub is_void : Statement → Bool
is_void s = is_void_layer (out-Statement s)

-- the statements of a list that are no `;` alone
abbrev pub kept : List (Spanned Statement) → List (Spanned Statement)
kept nodes = filter (λ n. not (is_void n.node)) nodes

-- a part of the header of `for`, absent where it is a `;` alone
abbrev pub kept_part : Option (Spanned Statement) → Option (Spanned Statement)
kept_part None = None
kept_part (Some n) = cond (is_void n.node) None (Some n)

-- a node, from what becomes of its parts
module _ {A : Type 0} (f : A → Statement) where
  abbrev pub with_node : Spanned A → Spanned Statement
  with_node n = record { node = f n.node; span = n.span }

  abbrev pub with_nodes : List (Spanned A) → List (Spanned Statement)
  with_nodes nodes = kept (map with_node nodes)

  abbrev pub with_block : CompoundStatementOf A → CompoundStatementOf Statement
  with_block x = record { attributes = x.attributes; statements = with_nodes x.statements }

  abbrev pub with_if_clause : IfClauseOf A → IfClauseOf Statement
  with_if_clause x = record { expression = x.expression; body = with_block x.body }

  abbrev pub with_else_if : ElseIfClauseOf A → ElseIfClauseOf Statement
  with_else_if x = record { expression = x.expression; body = with_block x.body }

  abbrev pub with_else : ElseClauseOf A → ElseClauseOf Statement
  with_else x = record { body = with_block x.body }

  abbrev pub with_if : IfStatementOf A → IfStatementOf Statement
  with_if x = record {
    attributes = x.attributes;
    if_clause = with_if_clause x.if_clause;
    else_if_clauses = map with_else_if x.else_if_clauses;
    else_clause = option_map with_else x.else_clause;
  }

  abbrev pub with_clause : SwitchClauseOf A → SwitchClauseOf Statement
  with_clause x = record { case_selectors = x.case_selectors; body = with_block x.body }

  abbrev pub with_switch : SwitchStatementOf A → SwitchStatementOf Statement
  with_switch x = record {
    attributes = x.attributes;
    expression = x.expression;
    body_attributes = x.body_attributes;
    clauses = map with_clause x.clauses;
  }

  abbrev pub with_continuing : ContinuingStatementOf A → ContinuingStatementOf Statement
  with_continuing x = record { attributes = x.attributes; body = with_block x.body; break_if = x.break_if }

  abbrev pub with_loop : LoopStatementOf A → LoopStatementOf Statement
  with_loop x = record { attributes = x.attributes; body = with_block x.body; continuing = option_map with_continuing x.continuing }

  abbrev pub with_part : Option (Spanned A) → Option (Spanned Statement)
  with_part part = kept_part (option_map with_node part)

  abbrev pub with_for : ForStatementOf A → ForStatementOf Statement
  with_for x = record {
    attributes = x.attributes;
    initializer = with_part x.initializer;
    condition = x.condition;
    update = with_part x.update;
    body = with_block x.body;
  }

  abbrev pub with_while : WhileStatementOf A → WhileStatementOf Statement
  with_while x = record { attributes = x.attributes; condition = x.condition; body = with_block x.body }

  abbrev pub layer : Statement-F A → Statement
  layer Statement-F.Void = code.Void
  layer (Statement-F.Compound x) = code.Compound (with_block x)
  layer (Statement-F.Assignment x) = code.Assignment x
  layer (Statement-F.Increment x) = code.Increment x
  layer (Statement-F.Decrement x) = code.Decrement x
  layer (Statement-F.If x) = code.If (with_if x)
  layer (Statement-F.Switch x) = code.Switch (with_switch x)
  layer (Statement-F.Loop x) = code.Loop (with_loop x)
  layer (Statement-F.For x) = code.For (with_for x)
  layer (Statement-F.While x) = code.While (with_while x)
  layer (Statement-F.Break x) = code.Break x
  layer (Statement-F.Continue x) = code.Continue x
  layer (Statement-F.Return x) = code.Return x
  layer (Statement-F.Discard x) = code.Discard x
  layer (Statement-F.FunctionCall x) = code.FunctionCall x
  layer (Statement-F.ConstAssert x) = code.ConstAssert x
  layer (Statement-F.Declaration x) = code.Declaration x

-- a statement without the empty items inside it; a `;` alone stays one
abbrev pub without_voids : Statement → Statement
without_voids = fold-Statement Statement (layer (λ x. x))
