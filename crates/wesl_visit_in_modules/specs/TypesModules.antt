-- The outermost types inside a statement, a declaration or a module, in the order in which they are printed; and all of it but these.
use Rattle.std.specs.Prelude.{List, [], ◌∷◌}
use Rattle.std.specs.List.{flat_map}
use Rattle.wgsl_expressions.specs.declared.expression.Expression.{Expression}
use Rattle.wgsl_expressions.specs.declared.expression.TypeExpressionOf.{TypeExpressionOf}
use Rattle.wgsl_statements.specs.declared.statement.Statement.{Statement}
use Rattle.wgsl_declarations.specs.declared.declaration.GlobalDeclaration.{GlobalDeclaration}
use Rattle.wgsl_declarations.specs.declared.unit.TranslationUnit.{TranslationUnit}
use Rattle.wesl_visit_children.specs.Parts.{Part, an_attribute, an_expression, a_type, parts_in_statement, parts_in_declaration, parts_in_unit}
use Rattle.wesl_visit_children.specs.Rest.{Rest, around_parts_in_statement, around_parts_in_declaration, around_parts_in_unit}
use Rattle.wesl_visit_expressions.specs.Types.{types_in, blank, around_node}
use Rattle.wesl_visit_expressions.specs.TypesAttributes.{types_in_attribute, around_attribute_node}

-- in a part
abbrev pub in_part : Part → List (TypeExpressionOf Expression)
in_part (an_attribute a) = types_in_attribute a.node
in_part (an_expression e) = types_in e.node
in_part (a_type t) = t ∷ []

-- in a statement
abbrev pub types_in_statement : Statement → List (TypeExpressionOf Expression)
types_in_statement s = flat_map in_part (parts_in_statement s)

-- in a declaration
abbrev pub types_in_declaration : GlobalDeclaration → List (TypeExpressionOf Expression)
types_in_declaration d = flat_map in_part (parts_in_declaration d)

-- in a module
abbrev pub types_in_unit : TranslationUnit → List (TypeExpressionOf Expression)
types_in_unit u = flat_map in_part (parts_in_unit u)

-- ---- all but the types: in the place of each stands one without a name

abbrev pub but_types : Rest
but_types = record { attribute = around_attribute_node; expression = around_node; ty = λ t. blank }

abbrev pub around_types_in_statement : Statement → Statement
around_types_in_statement = around_parts_in_statement but_types

abbrev pub around_types_in_declaration : GlobalDeclaration → GlobalDeclaration
around_types_in_declaration = around_parts_in_declaration but_types

abbrev pub around_types_in_unit : TranslationUnit → TranslationUnit
around_types_in_unit = around_parts_in_unit but_types
