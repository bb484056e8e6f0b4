-- The attributes of directives.
use Rattle.std.specs.Prelude.{List}
use Rattle.wgsl_path.specs.declared.span.Spanned.{Spanned}
use Rattle.wgsl_expressions.specs.declared.attributes.attribute.Attribute.{Attribute}
use Rattle.wgsl_declarations.specs.declared.imports.directive.GlobalDirective.{GlobalDirective}
use Rattle.wgsl_declarations.specs.declared.imports.directive.GlobalDirective.TheVariants as code

abbrev pub directive_attributes : GlobalDirective → List (Spanned Attribute)
directive_attributes (code.Diagnostic x) = x.attributes
directive_attributes (code.Enable x) = x.attributes
directive_attributes (code.Requires x) = x.attributes

abbrev pub directive_with : GlobalDirective → List (Spanned Attribute) → GlobalDirective
directive_with (code.Diagnostic x) attributes = code.Diagnostic (record x { attributes = attributes })
directive_with (code.Enable x) attributes = code.Enable (record x { attributes = attributes })
directive_with (code.Requires x) attributes = code.Requires (record x { attributes = attributes })
