use Rattle.std.proofs.Common.{sym, ap, ◌∙◌, List, map, []}
use Rattle.wgsl_path.specs.declared.span.Spanned.{Spanned}
use Rattle.core_syntax.specs.declared.declaration.Attribute.{Attribute}
use Rattle.core_syntax.specs.View.{attribute_tree}
use Rattle.core_link_spec.specs.Linked.{renamed_attribute}
use Rattle.core_rename.proofs.Renames.{attributes_renamed}
use Rattle.core_rename.proofs.rename.renamed_attributes.Goals as goal

pub returns : goal.returns
returns g c =
    c.in_ok-renamed.ensures
    ∙ ap (λ (xs : List (Spanned Attribute)). map (λ n. renamed_attribute (g.N.Naming.gives c.args.naming.now) [] (attribute_tree n.node)) xs) c.as_slice.ensures
    ∙ sym (attributes_renamed (g.N.Naming.gives c.args.naming.now) c.args.attributes.now)
