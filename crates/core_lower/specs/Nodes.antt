-- Lowered functions, of the nodes that code holds.
use Rattle.std.specs.Prelude.{List, map}
use Rattle.std.specs.Option.{option_map}
use Rattle.wgsl_path.specs.declared.span.Spanned.{Spanned}
use Rattle.core_syntax.specs.Tree.{Decl}
use Rattle.core_syntax.specs.View.{type_tree, attributes_tree, block_tree, parameter_tree}
use Rattle.core_syntax.specs.declared.declaration.Attribute.{Attribute}
use Rattle.core_syntax.specs.declared.declaration.FormalParameter.{FormalParameter}
use Rattle.core_syntax.specs.declared.declaration.Function.{Function}
use Rattle.core_meaning.specs.Values.{Checked}
use Rattle.core_meaning.specs.Meaning.{Types}
use Rattle.core_meaning.specs.ConstStage.{Scope}
use Rattle.core_lower_expressions.specs.Computed.{lowered_rest}

-- a function with these attributes and parameters, and what is left of it lowered
abbrev pub lowered_with : Scope → List (Spanned Attribute) → List FormalParameter → Types → Function → Checked Decl
lowered_with s attributes parameters types f =
    lowered_rest s (attributes_tree attributes) f.ident.name (map parameter_tree parameters) types (attributes_tree f.return_attributes)
    (option_map type_tree f.return_type) (block_tree f.body)
