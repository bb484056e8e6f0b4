-- The text of attributes, from their code trees.
use Rattle.std.proofs.Common.{◌≡◌, List, ◌++◌, codes}
use Rattle.std.specs.List.{flat_map}
use Rattle.std.proofs.lemmas.List.Folds.{flat_map-map}
use Rattle.wgsl_expressions.specs.Spanned.{Spanned}
use Rattle.wgsl_expressions.specs.declared.attributes.attribute.Attribute.{Attribute}
use Rattle.wgsl_expressions.specs.AttributesView.{attribute_tree, attributes_tree}
use Rattle.wgsl_expressions.specs.AttributesPrint.{attr_text, attrs_text}

pub attrs_text_flat : (ns : List (Spanned Attribute)) → attrs_text (attributes_tree ns) ≡ flat_map (λ n. attr_text (attribute_tree n.node) ++ codes " ") ns
attrs_text_flat ns = flat_map-map (λ a. attr_text a ++ codes " ") (λ n. attribute_tree n.node) ns
