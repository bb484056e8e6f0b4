-- What each production makes of its parts. Where parts do not fit, it is nothing.
use Rattle.std.specs.Prelude.{List}
use Rattle.wgsl_path.specs.declared.span.Span.{Span}
use Rattle.wgsl_semantic_values.specs.declared.part.Part.{Part}
use Rattle.wgsl_semantic_values.specs.declared.label.Label.{Label}
use Rattle.wgsl_semantic_values.specs.declared.label.Label.TheVariants as label
use Rattle.wgsl_semantic_values.specs.Lists.{pass, make_first, make_more}
use Rattle.wgsl_semantic_values.specs.Making.{make_name, make_expression}
use Rattle.wgsl_reduce_actions.specs.Attributes.{make_attribute}
use Rattle.wgsl_semantic_values.specs.Values.{make_value, make_plain}
use Rattle.wgsl_reduce_actions.specs.Statements.{make_statement, make_clause}
use Rattle.wgsl_reduce_actions.specs.Imports.{make_import, make_directive}
use Rattle.wgsl_reduce_actions.specs.Declarations.{make_declaration}

-- what the production of this label makes of its parts, where the phrase has this extent
abbrev pub make : Label → Span → List Part → Part
make label.Pass s parts = pass parts
make label.First s parts = make_first parts
make label.More s parts = make_more parts
make (label.Name l) s parts = make_name l parts
make (label.Expression l) s parts = make_expression l s parts
make (label.Attribute l) s parts = make_attribute l s parts
make (label.Value l) s parts = make_value l parts
make (label.Plain l) s parts = make_plain l parts
make (label.Statement l) s parts = make_statement l s parts
make (label.Clause l) s parts = make_clause l parts
make (label.Import l) s parts = make_import l parts
make (label.Directive l) s parts = make_directive l parts
make (label.Declaration l) s parts = make_declaration l s parts
