-- The outermost statements with their places inside a part of a module, in the order in which they are printed; and all of the part
-- but these.
use Rattle.std.specs.Prelude.{Bool, true, false, List, [], ◌∷◌, ◌++◌, map, Option, Some, None}
use Rattle.std.specs.List.{flat_map}
use Rattle.std.specs.Option.{option_map}
use Rattle.wgsl_path.specs.declared.span.Spanned.{Spanned}
use Rattle.wgsl_statements.specs.declared.statement.Statement.{Statement, out-Statement}
use Rattle.wgsl_statements.specs.declared.statement.Statement.TheOpen.{Statement-F}
use Rattle.wgsl_statements.specs.declared.statement.Statement.TheVariants as code
use Rattle.wgsl_statements.specs.declared.statement.CompoundStatementOf.{CompoundStatementOf}
use Rattle.wgsl_statements.specs.declared.statement.IfStatementOf.{IfStatementOf}
use Rattle.wgsl_statements.specs.declared.statement.IfClauseOf.{IfClauseOf}
use Rattle.wgsl_statements.specs.declared.statement.ElseIfClauseOf.{ElseIfClauseOf}
use Rattle.wgsl_statements.specs.declared.statement.ElseClauseOf.{ElseClauseOf}
use Rattle.wgsl_statements.specs.declared.statement.SwitchStatementOf.{SwitchStatementOf}
use Rattle.wgsl_statements.specs.declared.statement.SwitchClauseOf.{SwitchClauseOf}
use Rattle.wgsl_statements.specs.declared.statement.LoopStatementOf.{LoopStatementOf}
use Rattle.wgsl_statements.specs.declared.statement.ContinuingStatementOf.{ContinuingStatementOf}
use Rattle.wgsl_statements.specs.declared.statement.ForStatementOf.{ForStatementOf}
use Rattle.wgsl_statements.specs.declared.statement.WhileStatementOf.{WhileStatementOf}
use Rattle.wgsl_declarations.specs.declared.declaration.Function.{Function}
use Rattle.wgsl_declarations.specs.declared.declaration.GlobalDeclaration.{GlobalDeclaration}
use Rattle.wgsl_declarations.specs.declared.declaration.GlobalDeclaration.TheVariants as declared
use Rattle.wgsl_declarations.specs.declared.unit.TranslationUnit.{TranslationUnit}

-- ---- the statements

module _ {A : Type 0} where
  abbrev pub in_block : CompoundStatementOf A → List (Spanned A)
  in_block x = x.statements

  abbrev pub in_else_if : ElseIfClauseOf A → List (Spanned A)
  in_else_if c = in_block c.body

  abbrev pub in_else : Option (ElseClauseOf A) → List (Spanned A)
  in_else None = []
  in_else (Some c) = in_block c.body

  abbrev pub in_if : IfStatementOf A → List (Spanned A)
  in_if x = in_block x.if_clause.body ++ (flat_map in_else_if x.else_if_clauses ++ in_else x.else_clause)

  abbrev pub in_clause : SwitchClauseOf A → List (Spanned A)
  in_clause c = in_block c.body

  abbrev pub in_switch : SwitchStatementOf A → List (Spanned A)
  in_switch x = flat_map in_clause x.clauses

  abbrev pub in_continuing : Option (ContinuingStatementOf A) → List (Spanned A)
  in_continuing None = []
  in_continuing (Some x) = in_block x.body

  abbrev pub in_loop : LoopStatementOf A → List (Spanned A)
  in_loop x = in_block x.body ++ in_continuing x.continuing

  -- a part of the header of `for`
  abbrev pub in_part : Option (Spanned A) → List (Spanned A)
  in_part None = []
  in_part (Some n) = n ∷ []

  abbrev pub in_for : ForStatementOf A → List (Spanned A)
  in_for x = in_part x.initializer ++ (in_part x.update ++ in_block x.body)

  abbrev pub in_while : WhileStatementOf A → List (Spanned A)
  in_while x = in_block x.body

  abbrev pub in_layer : Statement-F A → List (Spanned A)
  in_layer (Statement-F.Compound x) = in_block x
  in_layer (Statement-F.If x) = in_if x
  in_layer (Statement-F.Switch x) = in_switch x
  in_layer (Statement-F.Loop x) = in_loop x
  in_layer (Statement-F.For x) = in_for x
  in_layer (Statement-F.While x) = in_while x
  in_layer Statement-F.Void = []
  in_layer (Statement-F.Assignment x) = []
  in_layer (Statement-F.Increment x) = []
  in_layer (Statement-F.Decrement x) = []
  in_layer (Statement-F.Break x) = []
  in_layer (Statement-F.Continue x) = []
  in_layer (Statement-F.Return x) = []
  in_layer (Statement-F.Discard x) = []
  in_layer (Statement-F.FunctionCall x) = []
  in_layer (Statement-F.ConstAssert x) = []
  in_layer (Statement-F.Declaration x) = []

-- in a statement
abbrev pub statements_in : Statement → List (Spanned Statement)
statements_in s = in_layer (out-Statement s)

-- inside a statement with its place
abbrev pub statements_inside : Spanned Statement → List (Spanned Statement)
statements_inside n = statements_in n.node

-- in a declaration
abbrev pub statements_in_declaration : GlobalDeclaration → List (Spanned Statement)
statements_in_declaration (declared.Function x) = in_block x.body
statements_in_declaration declared.Void = []
statements_in_declaration (declared.Declaration x) = []
statements_in_declaration (declared.TypeAlias x) = []
statements_in_declaration (declared.Struct x) = []
statements_in_declaration (declared.ConstAssert x) = []

abbrev pub in_declaration_node : Spanned GlobalDeclaration → List (Spanned Statement)
in_declaration_node n = statements_in_declaration n.node

-- in a module
abbrev pub statements_in_unit : TranslationUnit → List (Spanned Statement)
statements_in_unit u = flat_map in_declaration_node u.global_declarations

-- ---- all but the statements: in the place of each stands a `;` at no place

abbrev pub blank : Spanned Statement
blank = record { node = code.Void; span = record { start = 0; end = 0 } }

module _ {A : Type 0} where
  abbrev pub around_node : Spanned A → Spanned Statement
  around_node n = blank

  abbrev pub around_block : CompoundStatementOf A → CompoundStatementOf Statement
  around_block x = record { attributes = x.attributes; statements = map around_node x.statements }

  abbrev pub around_if_clause : IfClauseOf A → IfClauseOf Statement
  around_if_clause c = record { expression = c.expression; body = around_block c.body }

  abbrev pub around_else_if : ElseIfClauseOf A → ElseIfClauseOf Statement
  around_else_if c = record { expression = c.expression; body = around_block c.body }

  abbrev pub around_else : ElseClauseOf A → ElseClauseOf Statement
  around_else c = record { body = around_block c.body }

  abbrev pub around_if : IfStatementOf A → IfStatementOf Statement
  around_if x = record {
    attributes = x.attributes;
    if_clause = around_if_clause x.if_clause;
    else_if_clauses = map around_else_if x.else_if_clauses;
    else_clause = option_map around_else x.else_clause;
  }

  abbrev pub around_clause : SwitchClauseOf A → SwitchClauseOf Statement
  around_clause c = record { case_selectors = c.case_selectors; body = around_block c.body }

  abbrev pub around_switch : SwitchStatementOf A → SwitchStatementOf Statement
  around_switch x = record {
    attributes = x.attributes;
    expression = x.expression;
    body_attributes = x.body_attributes;
    clauses = map around_clause x.clauses;
  }

  abbrev pub around_continuing : ContinuingStatementOf A → ContinuingStatementOf Statement
  around_continuing x = record { attributes = x.attributes; body = around_block x.body; break_if = x.break_if }

  abbrev pub around_loop : LoopStatementOf A → LoopStatementOf Statement
  around_loop x = record { attributes = x.attributes; body = around_block x.body; continuing = option_map around_continuing x.continuing }

  abbrev pub around_part : Option (Spanned A) → Option (Spanned Statement)
  around_part part = option_map around_node part

  abbrev pub around_for : ForStatementOf A → ForStatementOf Statement
  around_for x = record {
    attributes = x.attributes;
    initializer = around_part x.initializer;
    condition = x.condition;
    update = around_part x.update;
    body = around_block x.body;
  }

  abbrev pub around_while : WhileStatementOf A → WhileStatementOf Statement
  around_while x = record { attributes = x.attributes; condition = x.condition; body = around_block x.body }

  abbrev pub around_layer : Statement-F A → Statement
  around_layer Statement-F.Void = code.Void
  around_layer (Statement-F.Compound x) = code.Compound (around_block x)
  around_layer (Statement-F.Assignment x) = code.Assignment x
  around_layer (Statement-F.Increment x) = code.Increment x
  around_layer (Statement-F.Decrement x) = code.Decrement x
  around_layer (Statement-F.If x) = code.If (around_if x)
  around_layer (Statement-F.Switch x) = code.Switch (around_switch x)
  around_layer (Statement-F.Loop x) = code.Loop (around_loop x)
  around_layer (Statement-F.For x) = code.For (around_for x)
  around_layer (Statement-F.While x) = code.While (around_while x)
  around_layer (Statement-F.Break x) = code.Break x
  around_layer (Statement-F.Continue x) = code.Continue x
  around_layer (Statement-F.Return x) = code.Return x
  around_layer (Statement-F.Discard x) = code.Discard x
  around_layer (Statement-F.FunctionCall x) = code.FunctionCall x
  around_layer (Statement-F.ConstAssert x) = code.ConstAssert x
  around_layer (Statement-F.Declaration x) = code.Declaration x

-- in a statement
abbrev pub around_statements : Statement → Statement
around_statements s = around_layer (out-Statement s)

-- in a statement with its place
abbrev pub around_inside : Spanned Statement → Spanned Statement
around_inside n = record { node = around_statements n.node; span = n.span }

-- what a visit meets inside a statement before it: all, or nothing where it is not deep
abbrev pub inside_by : Bool → Spanned Statement → List (Spanned Statement)
inside_by true n = statements_inside n
inside_by false n = []

-- and what stays until it meets the statement itself
abbrev pub around_by : Bool → Spanned Statement → Spanned Statement
around_by true n = around_inside n
around_by false n = n

abbrev pub around_function : Function → Function
around_function x = record x { body = around_block x.body }

-- in a declaration
abbrev pub around_statements_in_declaration : GlobalDeclaration → GlobalDeclaration
around_statements_in_declaration (declared.Function x) = declared.Function (around_function x)
around_statements_in_declaration declared.Void = declared.Void
around_statements_in_declaration (declared.Declaration x) = declared.Declaration x
around_statements_in_declaration (declared.TypeAlias x) = declared.TypeAlias x
around_statements_in_declaration (declared.Struct x) = declared.Struct x
around_statements_in_declaration (declared.ConstAssert x) = declared.ConstAssert x

abbrev pub around_declaration_node : Spanned GlobalDeclaration → Spanned GlobalDeclaration
around_declaration_node n = record { node = around_statements_in_declaration n.node; span = n.span }

-- in a module
abbrev pub around_statements_in_unit : TranslationUnit → TranslationUnit
around_statements_in_unit u = record u { global_declarations = map around_declaration_node u.global_declarations }
