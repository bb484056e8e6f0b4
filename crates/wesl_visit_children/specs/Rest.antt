-- All of a statement, a declaration or a module but its parts, and of each part what is to stay of it.
use Rattle.std.specs.Prelude.{List, map, Option, Some, None}
use Rattle.std.specs.Option.{option_map}
use Rattle.wgsl_path.specs.declared.span.Spanned.{Spanned}
use Rattle.wgsl_expressions.specs.declared.expression.Expression.{Expression}
use Rattle.wgsl_expressions.specs.declared.attributes.attribute.Attribute.{Attribute}
use Rattle.wgsl_simple_statements.specs.declared.statement.AssignmentStatement.{AssignmentStatement}
use Rattle.wgsl_expressions.specs.declared.expression.FunctionCallOf.{FunctionCallOf}
use Rattle.wgsl_simple_statements.specs.declared.statement.IncrementStatement.{IncrementStatement}
use Rattle.wgsl_simple_statements.specs.declared.statement.DecrementStatement.{DecrementStatement}
use Rattle.wgsl_simple_statements.specs.declared.statement.BreakStatement.{BreakStatement}
use Rattle.wgsl_simple_statements.specs.declared.statement.ContinueStatement.{ContinueStatement}
use Rattle.wgsl_simple_statements.specs.declared.statement.ReturnStatement.{ReturnStatement}
use Rattle.wgsl_simple_statements.specs.declared.statement.DiscardStatement.{DiscardStatement}
use Rattle.wgsl_simple_statements.specs.declared.statement.FunctionCallStatement.{FunctionCallStatement}
use Rattle.wgsl_simple_statements.specs.declared.declaration.ConstAssert.{ConstAssert}
use Rattle.wgsl_simple_statements.specs.declared.declaration.Declaration.{Declaration}
use Rattle.wgsl_simple_statements.specs.declared.statement.BreakIfStatement.{BreakIfStatement}
use Rattle.wgsl_simple_statements.specs.declared.statement.CaseSelector.{CaseSelector}
use Rattle.wgsl_simple_statements.specs.declared.statement.CaseSelector.TheVariants as selector
use Rattle.wgsl_statements.specs.declared.statement.Statement.{Statement, fold-Statement}
use Rattle.wgsl_statements.specs.declared.statement.Statement.TheOpen.{Statement-F}
use Rattle.wgsl_statements.specs.declared.statement.Statement.TheVariants as code
use Rattle.wgsl_statements.specs.declared.statement.CompoundStatementOf.{CompoundStatementOf}
use Rattle.wgsl_statements.specs.declared.statement.IfStatementOf.{IfStatementOf}
use Rattle.wgsl_statements.specs.declared.statement.IfClauseOf.{IfClauseOf}
use Rattle.wgsl_statements.specs.declared.statement.ElseIfClauseOf.{ElseIfClauseOf}
use Rattle.wgsl_statements.specs.declared.statement.ElseClauseOf.{ElseClauseOf}
use Rattle.wgsl_statements.specs.declared.statement.SwitchStatementOf.{SwitchStatementOf}
use Rattle.wgsl_statements.specs.declared.statement.SwitchClauseOf.{SwitchClauseOf}
use Rattle.wgsl_statements.specs.declared.statement.LoopStatementOf.{LoopStatementOf}
use Rattle.wgsl_statements.specs.declared.statement.ContinuingStatementOf.{ContinuingStatementOf}
use Rattle.wgsl_statements.specs.declared.statement.ForStatementOf.{ForStatementOf}
use Rattle.wgsl_statements.specs.declared.statement.WhileStatementOf.{WhileStatementOf}
use Rattle.wgsl_expressions.specs.declared.expression.TypeExpressionOf.{TypeExpressionOf}
use Rattle.wgsl_declarations.specs.declared.imports.import.ImportStatement.{ImportStatement}
use Rattle.wgsl_declarations.specs.declared.imports.directive.GlobalDirective.{GlobalDirective}
use Rattle.wgsl_declarations.specs.declared.imports.directive.GlobalDirective.TheVariants as directive
use Rattle.wgsl_declarations.specs.declared.imports.directive.DiagnosticDirective.{DiagnosticDirective}
use Rattle.wgsl_declarations.specs.declared.imports.directive.EnableDirective.{EnableDirective}
use Rattle.wgsl_declarations.specs.declared.imports.directive.RequiresDirective.{RequiresDirective}
use Rattle.wgsl_declarations.specs.declared.declaration.TypeAlias.{TypeAlias}
use Rattle.wgsl_declarations.specs.declared.declaration.StructMember.{StructMember}
use Rattle.wgsl_declarations.specs.declared.declaration.Struct.{Struct}
use Rattle.wgsl_declarations.specs.declared.declaration.FormalParameter.{FormalParameter}
use Rattle.wgsl_declarations.specs.declared.declaration.Function.{Function}
use Rattle.wgsl_declarations.specs.declared.declaration.GlobalDeclaration.{GlobalDeclaration}
use Rattle.wgsl_declarations.specs.declared.declaration.GlobalDeclaration.TheVariants as declared
use Rattle.wgsl_declarations.specs.declared.unit.TranslationUnit.{TranslationUnit}

-- what is to stay of each part
pub record Rest : Type 0 where
  pub attribute : Spanned Attribute → Spanned Attribute
  pub expression : Spanned Expression → Spanned Expression
  pub ty : TypeExpressionOf Expression → TypeExpressionOf Expression

module _ (k : Rest) where
  abbrev pub around_attributes : List (Spanned Attribute) → List (Spanned Attribute)
  around_attributes attributes = map k.attribute attributes

  abbrev pub around_arguments : List (Spanned Expression) → List (Spanned Expression)
  around_arguments arguments = map k.expression arguments

  abbrev pub around_call : FunctionCallOf Expression → FunctionCallOf Expression
  around_call x = record { ty = k.ty x.ty; arguments = around_arguments x.arguments }

  abbrev pub around_assignment : AssignmentStatement → AssignmentStatement
  around_assignment x = record { attributes = around_attributes x.attributes; operator = x.operator; lhs = k.expression x.lhs; rhs = k.expression x.rhs }

  abbrev pub around_increment : IncrementStatement → IncrementStatement
  around_increment x = record { attributes = around_attributes x.attributes; expression = k.expression x.expression }

  abbrev pub around_decrement : DecrementStatement → DecrementStatement
  around_decrement x = record { attributes = around_attributes x.attributes; expression = k.expression x.expression }

  abbrev pub around_break : BreakStatement → BreakStatement
  around_break x = record { attributes = around_attributes x.attributes }

  abbrev pub around_continue : ContinueStatement → ContinueStatement
  around_continue x = record { attributes = around_attributes x.attributes }

  abbrev pub around_return : ReturnStatement → ReturnStatement
  around_return x = record { attributes = around_attributes x.attributes; expression = option_map k.expression x.expression }

  abbrev pub around_discard : DiscardStatement → DiscardStatement
  around_discard x = record { attributes = around_attributes x.attributes }

  abbrev pub around_call_statement : FunctionCallStatement → FunctionCallStatement
  around_call_statement x = record { attributes = around_attributes x.attributes; call = around_call x.call }

  abbrev pub around_const_assert : ConstAssert → ConstAssert
  around_const_assert x = record { attributes = around_attributes x.attributes; expression = k.expression x.expression }

  abbrev pub around_declared : Declaration → Declaration
  around_declared x = record {
    attributes = around_attributes x.attributes;
    kind = x.kind;
    ident = x.ident;
    ty = option_map k.ty x.ty;
    initializer = option_map k.expression x.initializer;
  }

  abbrev pub around_break_if : BreakIfStatement → BreakIfStatement
  around_break_if x = record { attributes = around_attributes x.attributes; expression = k.expression x.expression }

  abbrev pub around_selector : CaseSelector → CaseSelector
  around_selector selector.Default = selector.Default
  around_selector (selector.Expression x) = selector.Expression (k.expression x)

  -- a node, from what stays of its parts
  module _ {A : Type 0} (f : A → Statement) where
    abbrev pub around_statement_node : Spanned A → Spanned Statement
    around_statement_node n = record { node = f n.node; span = n.span }

    abbrev pub around_block : CompoundStatementOf A → CompoundStatementOf Statement
    around_block x = record { attributes = around_attributes x.attributes; statements = map around_statement_node x.statements }

    abbrev pub around_if_clause : IfClauseOf A → IfClauseOf Statement
    around_if_clause c = record { expression = k.expression c.expression; body = around_block c.body }

    abbrev pub around_else_if : ElseIfClauseOf A → ElseIfClauseOf Statement
    around_else_if c = record { expression = k.expression c.expression; body = around_block c.body }

    abbrev pub around_else : ElseClauseOf A → ElseClauseOf Statement
    around_else c = record { body = around_block c.body }

    abbrev pub around_if : IfStatementOf A → IfStatementOf Statement
    around_if x = record {
      attributes = around_attributes x.attributes;
      if_clause = around_if_clause x.if_clause;
      else_if_clauses = map around_else_if x.else_if_clauses;
      else_clause = option_map around_else x.else_clause;
    }

    abbrev pub around_clause : SwitchClauseOf A → SwitchClauseOf Statement
    around_clause c = record { case_selectors = map around_selector c.case_selectors; body = around_block c.body }

    abbrev pub around_switch : SwitchStatementOf A → SwitchStatementOf Statement
    around_switch x = record {
      attributes = around_attributes x.attributes;
      expression = k.expression x.expression;
      body_attributes = around_attributes x.body_attributes;
      clauses = map around_clause x.clauses;
    }

    abbrev pub around_continuing : ContinuingStatementOf A → ContinuingStatementOf Statement
    around_continuing x = record {
      attributes = around_attributes x.attributes;
      body = around_block x.body;
      break_if = option_map around_break_if x.break_if;
    }

    abbrev pub around_loop : LoopStatementOf A → LoopStatementOf Statement
    around_loop x = record {
      attributes = around_attributes x.attributes;
      body = around_block x.body;
      continuing = option_map around_continuing x.continuing;
    }

    abbrev pub around_for : ForStatementOf A → ForStatementOf Statement
    around_for x = record {
      attributes = around_attributes x.attributes;
      initializer = option_map around_statement_node x.initializer;
      condition = option_map k.expression x.condition;
      update = option_map around_statement_node x.update;
      body = around_block x.body;
    }

    abbrev pub around_while : WhileStatementOf A → WhileStatementOf Statement
    around_while x = record { attributes = around_attributes x.attributes; condition = k.expression x.condition; body = around_block x.body }

    abbrev pub around_layer : Statement-F A → Statement
    around_layer Statement-F.Void = code.Void
    around_layer (Statement-F.Compound x) = code.Compound (around_block x)
    around_layer (Statement-F.Assignment x) = code.Assignment (around_assignment x)
    around_layer (Statement-F.Increment x) = code.Increment (around_increment x)
    around_layer (Statement-F.Decrement x) = code.Decrement (around_decrement x)
    around_layer (Statement-F.If x) = code.If (around_if x)
    around_layer (Statement-F.Switch x) = code.Switch (around_switch x)
    around_layer (Statement-F.Loop x) = code.Loop (around_loop x)
    around_layer (Statement-F.For x) = code.For (around_for x)
    around_layer (Statement-F.While x) = code.While (around_while x)
    around_layer (Statement-F.Break x) = code.Break (around_break x)
    around_layer (Statement-F.Continue x) = code.Continue (around_continue x)
    around_layer (Statement-F.Return x) = code.Return (around_return x)
    around_layer (Statement-F.Discard x) = code.Discard (around_discard x)
    around_layer (Statement-F.FunctionCall x) = code.FunctionCall (around_call_statement x)
    around_layer (Statement-F.ConstAssert x) = code.ConstAssert (around_const_assert x)
    around_layer (Statement-F.Declaration x) = code.Declaration (around_declared x)

  -- in a statement
  abbrev pub around_parts_in_statement : Statement → Statement
  around_parts_in_statement = fold-Statement Statement (around_layer (λ x. x))

  abbrev pub around_alias : TypeAlias → TypeAlias
  around_alias x = record { attributes = around_attributes x.attributes; ident = x.ident; ty = k.ty x.ty }

  abbrev pub around_member : StructMember → StructMember
  around_member x = record { attributes = around_attributes x.attributes; ident = x.ident; ty = k.ty x.ty }

  abbrev pub around_member_node : Spanned StructMember → Spanned StructMember
  around_member_node n = record { node = around_member n.node; span = n.span }

  abbrev pub around_struct : Struct → Struct
  around_struct x = record { attributes = around_attributes x.attributes; ident = x.ident; members = map around_member_node x.members }

  abbrev pub around_parameter : FormalParameter → FormalParameter
  around_parameter x = record { attributes = around_attributes x.attributes; ident = x.ident; ty = k.ty x.ty }

  abbrev pub around_function : Function → Function
  around_function x = record {
    attributes = around_attributes x.attributes;
    ident = x.ident;
    parameters = map around_parameter x.parameters;
    return_attributes = around_attributes x.return_attributes;
    return_type = option_map k.ty x.return_type;
    body = around_block around_parts_in_statement x.body;
  }

  -- in a declaration
  abbrev pub around_parts_in_declaration : GlobalDeclaration → GlobalDeclaration
  around_parts_in_declaration declared.Void = declared.Void
  around_parts_in_declaration (declared.Declaration x) = declared.Declaration (around_declared x)
  around_parts_in_declaration (declared.TypeAlias x) = declared.TypeAlias (around_alias x)
  around_parts_in_declaration (declared.Struct x) = declared.Struct (around_struct x)
  around_parts_in_declaration (declared.Function x) = declared.Function (around_function x)
  around_parts_in_declaration (declared.ConstAssert x) = declared.ConstAssert (around_const_assert x)

  abbrev pub around_declaration_node : Spanned GlobalDeclaration → Spanned GlobalDeclaration
  around_declaration_node n = record { node = around_parts_in_declaration n.node; span = n.span }

  abbrev pub around_import : ImportStatement → ImportStatement
  around_import x = record { attributes = around_attributes x.attributes; path = x.path; content = x.content }

  abbrev pub around_diagnostic : DiagnosticDirective → DiagnosticDirective
  around_diagnostic x = record { attributes = around_attributes x.attributes; severity = x.severity; rule_name = x.rule_name }

  abbrev pub around_enable : EnableDirective → EnableDirective
  around_enable x = record { attributes = around_attributes x.attributes; extensions = x.extensions }

  abbrev pub around_requires : RequiresDirective → RequiresDirective
  around_requires x = record { attributes = around_attributes x.attributes; extensions = x.extensions }

  abbrev pub around_directive : GlobalDirective → GlobalDirective
  around_directive (directive.Diagnostic x) = directive.Diagnostic (around_diagnostic x)
  around_directive (directive.Enable x) = directive.Enable (around_enable x)
  around_directive (directive.Requires x) = directive.Requires (around_requires x)

  -- in a module
  abbrev pub around_parts_in_unit : TranslationUnit → TranslationUnit
  around_parts_in_unit u = record {
    imports = map around_import u.imports;
    global_directives = map around_directive u.global_directives;
    global_declarations = map around_declaration_node u.global_declarations;
  }
