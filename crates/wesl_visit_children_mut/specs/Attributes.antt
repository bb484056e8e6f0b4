-- The attributes inside a statement, a declaration or a module, in the order in which they are printed; and all of it but these.
use Rattle.std.specs.Prelude.{List, [], ◌∷◌}
use Rattle.std.specs.List.{flat_map}
use Rattle.wgsl_path.specs.declared.span.Spanned.{Spanned}
use Rattle.wgsl_expressions.specs.declared.attributes.attribute.Attribute.{Attribute}
use Rattle.wgsl_expressions.specs.declared.attributes.attribute.Attribute.TheVariants as code
use Rattle.wgsl_statements.specs.declared.statement.Statement.{Statement}
use Rattle.wgsl_declarations.specs.declared.declaration.GlobalDeclaration.{GlobalDeclaration}
use Rattle.wgsl_declarations.specs.declared.unit.TranslationUnit.{TranslationUnit}
use Rattle.wesl_visit_children.specs.Parts.{Part, an_attribute, an_expression, a_type, parts_in_statement, parts_in_declaration, parts_in_unit}
use Rattle.wesl_visit_children.specs.Rest.{Rest, around_parts_in_statement, around_parts_in_declaration, around_parts_in_unit}

-- in a part
abbrev pub in_part : Part → List (Spanned Attribute)
in_part (an_attribute a) = a ∷ []
in_part (an_expression e) = []
in_part (a_type t) = []

-- in a statement
abbrev pub attributes_in_statement : Statement → List (Spanned Attribute)
attributes_in_statement s = flat_map in_part (parts_in_statement s)

-- in a declaration
abbrev pub attributes_in_declaration : GlobalDeclaration → List (Spanned Attribute)
attributes_in_declaration d = flat_map in_part (parts_in_declaration d)

-- in a module
abbrev pub attributes_in_unit : TranslationUnit → List (Spanned Attribute)
attributes_in_unit u = flat_map in_part (parts_in_unit u)

-- ---- all but the attributes: in the place of each stands a `@const` at no place

abbrev pub blank : Spanned Attribute → Spanned Attribute
blank a = record { node = code.Const; span = record { start = 0; end = 0 } }

abbrev pub but_attributes : Rest
but_attributes = record { attribute = blank; expression = λ e. e; ty = λ t. t }

abbrev pub around_attributes_in_statement : Statement → Statement
around_attributes_in_statement = around_parts_in_statement but_attributes

abbrev pub around_attributes_in_declaration : GlobalDeclaration → GlobalDeclaration
around_attributes_in_declaration = around_parts_in_declaration but_attributes

abbrev pub around_attributes_in_unit : TranslationUnit → TranslationUnit
around_attributes_in_unit = around_parts_in_unit but_attributes
