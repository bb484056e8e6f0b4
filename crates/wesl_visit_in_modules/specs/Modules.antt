-- The outermost expressions inside a statement, a declaration or a module, in the order in which they are printed; and all of it but these.
use Rattle.std.specs.Prelude.{List, [], ◌∷◌}
use Rattle.std.specs.List.{flat_map}
use Rattle.wgsl_path.specs.declared.span.Spanned.{Spanned}
use Rattle.wgsl_expressions.specs.declared.expression.Expression.{Expression}
use Rattle.wgsl_statements.specs.declared.statement.Statement.{Statement}
use Rattle.wgsl_declarations.specs.declared.declaration.GlobalDeclaration.{GlobalDeclaration}
use Rattle.wgsl_declarations.specs.declared.unit.TranslationUnit.{TranslationUnit}
use Rattle.wesl_visit_children.specs.Parts.{Part, an_attribute, an_expression, a_type, parts_in_statement, parts_in_declaration, parts_in_unit}
use Rattle.wesl_visit_children.specs.Rest.{Rest, around_parts_in_statement, around_parts_in_declaration, around_parts_in_unit}
use Rattle.wesl_visit_expressions.specs.Expressions.{in_type, blank, around_type}
use Rattle.wesl_visit_expressions.specs.Attributes.{expressions_in_attribute, around_attribute_node}

-- in a part
abbrev pub in_part : Part → List (Spanned Expression)
in_part (an_attribute a) = expressions_in_attribute a.node
in_part (an_expression e) = e ∷ []
in_part (a_type t) = in_type t

-- in a statement
abbrev pub expressions_in_statement : Statement → List (Spanned Expression)
expressions_in_statement s = flat_map in_part (parts_in_statement s)

-- in a declaration
abbrev pub expressions_in_declaration : GlobalDeclaration → List (Spanned Expression)
expressions_in_declaration d = flat_map in_part (parts_in_declaration d)

-- in a module
abbrev pub expressions_in_unit : TranslationUnit → List (Spanned Expression)
expressions_in_unit u = flat_map in_part (parts_in_unit u)

-- ---- all but the expressions: in the place of each stands `false` at no place

abbrev pub but_expressions : Rest
but_expressions = record { attribute = around_attribute_node; expression = λ e. blank; ty = around_type }

abbrev pub around_expressions_in_statement : Statement → Statement
around_expressions_in_statement = around_parts_in_statement but_expressions

abbrev pub around_expressions_in_declaration : GlobalDeclaration → GlobalDeclaration
around_expressions_in_declaration = around_parts_in_declaration but_expressions

abbrev pub around_expressions_in_unit : TranslationUnit → TranslationUnit
around_expressions_in_unit = around_parts_in_unit but_expressions
