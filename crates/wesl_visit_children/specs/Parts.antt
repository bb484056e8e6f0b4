-- The parts of which statements, declarations and modules are made: attributes, expressions and types, the outermost ones, in the order in
-- which they are printed.
use Rattle.std.specs.Prelude.{List, [], ◌∷◌, ◌++◌, map, Option, Some, None}
use Rattle.std.specs.List.{flat_map}
use Rattle.wgsl_path.specs.declared.span.Spanned.{Spanned}
use Rattle.wgsl_expressions.specs.declared.expression.Expression.{Expression}
use Rattle.wgsl_expressions.specs.declared.attributes.attribute.Attribute.{Attribute}
use Rattle.wgsl_simple_statements.specs.declared.statement.AssignmentStatement.{AssignmentStatement}
use Rattle.wgsl_expressions.specs.declared.expression.FunctionCallOf.{FunctionCallOf}
use Rattle.wgsl_simple_statements.specs.declared.statement.IncrementStatement.{IncrementStatement}
use Rattle.wgsl_simple_statements.specs.declared.statement.DecrementStatement.{DecrementStatement}
use Rattle.wgsl_simple_statements.specs.declared.statement.BreakStatement.{BreakStatement}
use Rattle.wgsl_simple_statements.specs.declared.statement.ContinueStatement.{ContinueStatement}
use Rattle.wgsl_simple_statements.specs.declared.statement.ReturnStatement.{ReturnStatement}
use Rattle.wgsl_simple_statements.specs.declared.statement.DiscardStatement.{DiscardStatement}
use Rattle.wgsl_simple_statements.specs.declared.statement.FunctionCallStatement.{FunctionCallStatement}
use Rattle.wgsl_simple_statements.specs.declared.declaration.ConstAssert.{ConstAssert}
use Rattle.wgsl_simple_statements.specs.declared.declaration.Declaration.{Declaration}
use Rattle.wgsl_simple_statements.specs.declared.statement.BreakIfStatement.{BreakIfStatement}
use Rattle.wgsl_simple_statements.specs.declared.statement.CaseSelector.{CaseSelector}
use Rattle.wgsl_simple_statements.specs.declared.statement.CaseSelector.TheVariants as selector
use Rattle.wgsl_statements.specs.declared.statement.Statement.{Statement, fold-Statement}
use Rattle.wgsl_statements.specs.declared.statement.Statement.TheOpen.{Statement-F}
use Rattle.wgsl_statements.specs.declared.statement.Statement.TheVariants as code
use Rattle.wgsl_statements.specs.declared.statement.CompoundStatementOf.{CompoundStatementOf}
use Rattle.wgsl_statements.specs.declared.statement.IfStatementOf.{IfStatementOf}
use Rattle.wgsl_statements.specs.declared.statement.IfClauseOf.{IfClauseOf}
use Rattle.wgsl_statements.specs.declared.statement.ElseIfClauseOf.{ElseIfClauseOf}
use Rattle.wgsl_statements.specs.declared.statement.ElseClauseOf.{ElseClauseOf}
use Rattle.wgsl_statements.specs.declared.statement.SwitchStatementOf.{SwitchStatementOf}
use Rattle.wgsl_statements.specs.declared.statement.SwitchClauseOf.{SwitchClauseOf}
use Rattle.wgsl_statements.specs.declared.statement.LoopStatementOf.{LoopStatementOf}
use Rattle.wgsl_statements.specs.declared.statement.ContinuingStatementOf.{ContinuingStatementOf}
use Rattle.wgsl_statements.specs.declared.statement.ForStatementOf.{ForStatementOf}
use Rattle.wgsl_statements.specs.declared.statement.WhileStatementOf.{WhileStatementOf}
use Rattle.wgsl_expressions.specs.declared.expression.TypeExpressionOf.{TypeExpressionOf}
use Rattle.wgsl_declarations.specs.declared.imports.import.ImportStatement.{ImportStatement}
use Rattle.wgsl_declarations.specs.declared.imports.directive.GlobalDirective.{GlobalDirective}
use Rattle.wgsl_declarations.specs.declared.imports.directive.GlobalDirective.TheVariants as directive
use Rattle.wgsl_declarations.specs.declared.imports.directive.DiagnosticDirective.{DiagnosticDirective}
use Rattle.wgsl_declarations.specs.declared.imports.directive.EnableDirective.{EnableDirective}
use Rattle.wgsl_declarations.specs.declared.imports.directive.RequiresDirective.{RequiresDirective}
use Rattle.wgsl_declarations.specs.declared.declaration.TypeAlias.{TypeAlias}
use Rattle.wgsl_declarations.specs.declared.declaration.StructMember.{StructMember}
use Rattle.wgsl_declarations.specs.declared.declaration.Struct.{Struct}
use Rattle.wgsl_declarations.specs.declared.declaration.FormalParameter.{FormalParameter}
use Rattle.wgsl_declarations.specs.declared.declaration.Function.{Function}
use Rattle.wgsl_declarations.specs.declared.declaration.GlobalDeclaration.{GlobalDeclaration}
use Rattle.wgsl_declarations.specs.declared.declaration.GlobalDeclaration.TheVariants as declared
use Rattle.wgsl_declarations.specs.declared.unit.TranslationUnit.{TranslationUnit}

-- a part
pub data Part : Type 0 where
  an_attribute : Spanned Attribute → Part
  an_expression : Spanned Expression → Part
  a_type : TypeExpressionOf Expression → Part

abbrev pub in_attribute : Spanned Attribute → List Part
in_attribute a = an_attribute a ∷ []

abbrev pub in_attributes : List (Spanned Attribute) → List Part
in_attributes attributes = flat_map in_attribute attributes

abbrev pub in_expression : Spanned Expression → List Part
in_expression e = an_expression e ∷ []

-- where there may be an expression
abbrev pub in_option : Option (Spanned Expression) → List Part
in_option None = []
in_option (Some e) = an_expression e ∷ []

abbrev pub in_ty : TypeExpressionOf Expression → List Part
in_ty t = a_type t ∷ []

-- where there may be a type
abbrev pub in_optional_type : Option (TypeExpressionOf Expression) → List Part
in_optional_type None = []
in_optional_type (Some t) = a_type t ∷ []

-- the arguments of a call
abbrev pub in_arguments : List (Spanned Expression) → List Part
in_arguments arguments = flat_map in_expression arguments

abbrev pub in_call : FunctionCallOf Expression → List Part
in_call x = a_type x.ty ∷ in_arguments x.arguments

-- attributes and an expression behind them
abbrev pub in_marked : List (Spanned Attribute) → Spanned Expression → List Part
in_marked attributes e = in_attributes attributes ++ an_expression e ∷ []

abbrev pub in_assignment : AssignmentStatement → List Part
in_assignment x = in_attributes x.attributes ++ an_expression x.lhs ∷ an_expression x.rhs ∷ []

abbrev pub in_increment : IncrementStatement → List Part
in_increment x = in_marked x.attributes x.expression

abbrev pub in_decrement : DecrementStatement → List Part
in_decrement x = in_marked x.attributes x.expression

abbrev pub in_break : BreakStatement → List Part
in_break x = in_attributes x.attributes

abbrev pub in_continue : ContinueStatement → List Part
in_continue x = in_attributes x.attributes

abbrev pub in_return : ReturnStatement → List Part
in_return x = in_attributes x.attributes ++ in_option x.expression

abbrev pub in_discard : DiscardStatement → List Part
in_discard x = in_attributes x.attributes

abbrev pub in_call_statement : FunctionCallStatement → List Part
in_call_statement x = in_attributes x.attributes ++ in_call x.call

abbrev pub in_const_assert : ConstAssert → List Part
in_const_assert x = in_marked x.attributes x.expression

abbrev pub in_declared : Declaration → List Part
in_declared x = in_attributes x.attributes ++ (in_optional_type x.ty ++ in_option x.initializer)

abbrev pub in_break_if : Option BreakIfStatement → List Part
in_break_if None = []
in_break_if (Some x) = in_marked x.attributes x.expression

abbrev pub in_selector : CaseSelector → List Part
in_selector selector.Default = []
in_selector (selector.Expression x) = an_expression x ∷ []

-- in a node, from what is in its parts
module _ {A : Type 0} (f : A → List Part) where
  abbrev pub in_node : Spanned A → List Part
  in_node n = f n.node

  abbrev pub in_block : CompoundStatementOf A → List Part
  in_block x = in_attributes x.attributes ++ flat_map in_node x.statements

  abbrev pub in_else_if : ElseIfClauseOf A → List Part
  in_else_if c = an_expression c.expression ∷ in_block c.body

  abbrev pub in_else : Option (ElseClauseOf A) → List Part
  in_else None = []
  in_else (Some c) = in_block c.body

  abbrev pub in_if : IfStatementOf A → List Part
  in_if x =
      in_marked x.attributes x.if_clause.expression
      ++ (in_block x.if_clause.body ++ (flat_map in_else_if x.else_if_clauses ++ in_else x.else_clause))

  abbrev pub in_clause : SwitchClauseOf A → List Part
  in_clause c = flat_map in_selector c.case_selectors ++ in_block c.body

  abbrev pub in_switch : SwitchStatementOf A → List Part
  in_switch x = in_marked x.attributes x.expression ++ (in_attributes x.body_attributes ++ flat_map in_clause x.clauses)

  abbrev pub in_continuing : ContinuingStatementOf A → List Part
  in_continuing x = in_attributes x.attributes ++ (in_block x.body ++ in_break_if x.break_if)

  abbrev pub in_optional_continuing : Option (ContinuingStatementOf A) → List Part
  in_optional_continuing None = []
  in_optional_continuing (Some x) = in_continuing x

  abbrev pub in_loop : LoopStatementOf A → List Part
  in_loop x = in_attributes x.attributes ++ (in_block x.body ++ in_optional_continuing x.continuing)

  -- a part of the header of `for`
  abbrev pub in_part : Option (Spanned A) → List Part
  in_part None = []
  in_part (Some n) = in_node n

  abbrev pub in_for : ForStatementOf A → List Part
  in_for x =
      in_attributes x.attributes ++ (in_part x.initializer ++ (in_option x.condition ++ (in_part x.update ++ in_block x.body)))

  abbrev pub in_while : WhileStatementOf A → List Part
  in_while x = in_marked x.attributes x.condition ++ in_block x.body

  abbrev pub in_layer : Statement-F A → List Part
  in_layer Statement-F.Void = []
  in_layer (Statement-F.Compound x) = in_block x
  in_layer (Statement-F.Assignment x) = in_assignment x
  in_layer (Statement-F.Increment x) = in_increment x
  in_layer (Statement-F.Decrement x) = in_decrement x
  in_layer (Statement-F.If x) = in_if x
  in_layer (Statement-F.Switch x) = in_switch x
  in_layer (Statement-F.Loop x) = in_loop x
  in_layer (Statement-F.For x) = in_for x
  in_layer (Statement-F.While x) = in_while x
  in_layer (Statement-F.Break x) = in_break x
  in_layer (Statement-F.Continue x) = in_continue x
  in_layer (Statement-F.Return x) = in_return x
  in_layer (Statement-F.Discard x) = in_discard x
  in_layer (Statement-F.FunctionCall x) = in_call_statement x
  in_layer (Statement-F.ConstAssert x) = in_const_assert x
  in_layer (Statement-F.Declaration x) = in_declared x

-- in a statement
abbrev pub parts_in_statement : Statement → List Part
parts_in_statement = fold-Statement (List Part) (in_layer (λ x. x))

-- attributes and a type behind them
abbrev pub in_typed : List (Spanned Attribute) → TypeExpressionOf Expression → List Part
in_typed attributes ty = in_attributes attributes ++ a_type ty ∷ []

abbrev pub in_alias : TypeAlias → List Part
in_alias x = in_typed x.attributes x.ty

abbrev pub in_member : StructMember → List Part
in_member x = in_typed x.attributes x.ty

abbrev pub in_member_node : Spanned StructMember → List Part
in_member_node n = in_member n.node

abbrev pub in_struct : Struct → List Part
in_struct x = in_attributes x.attributes ++ flat_map in_member_node x.members

abbrev pub in_parameter : FormalParameter → List Part
in_parameter x = in_typed x.attributes x.ty

abbrev pub in_function : Function → List Part
in_function x =
    in_attributes x.attributes
    ++ (flat_map in_parameter x.parameters
    ++ (in_attributes x.return_attributes ++ (in_optional_type x.return_type ++ in_block parts_in_statement x.body)))

-- in a declaration
abbrev pub parts_in_declaration : GlobalDeclaration → List Part
parts_in_declaration declared.Void = []
parts_in_declaration (declared.Declaration x) = in_declared x
parts_in_declaration (declared.TypeAlias x) = in_alias x
parts_in_declaration (declared.Struct x) = in_struct x
parts_in_declaration (declared.Function x) = in_function x
parts_in_declaration (declared.ConstAssert x) = in_const_assert x

abbrev pub in_declaration_node : Spanned GlobalDeclaration → List Part
in_declaration_node n = parts_in_declaration n.node

abbrev pub in_import : ImportStatement → List Part
in_import x = in_attributes x.attributes

abbrev pub in_diagnostic : DiagnosticDirective → List Part
in_diagnostic x = in_attributes x.attributes

abbrev pub in_enable : EnableDirective → List Part
in_enable x = in_attributes x.attributes

abbrev pub in_requires : RequiresDirective → List Part
in_requires x = in_attributes x.attributes

abbrev pub in_directive : GlobalDirective → List Part
in_directive (directive.Diagnostic x) = in_diagnostic x
in_directive (directive.Enable x) = in_enable x
in_directive (directive.Requires x) = in_requires x

-- in a module
abbrev pub parts_in_unit : TranslationUnit → List Part
parts_in_unit u =
    flat_map in_import u.imports ++ (flat_map in_directive u.global_directives ++ flat_map in_declaration_node u.global_declarations)
