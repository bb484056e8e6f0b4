-- Lists of attributes with their places.
use Rattle.std.specs.Prelude.{◌≡◌, List, [], Bool, Option, Some, None}
use Rattle.std.specs.Borrow.{RattleType}
use Rattle.wgsl_base.specs.contracts.items.items.Items as items
use Rattle.wgsl_path.specs.declared.span.Spanned.{Spanned}
use Rattle.wgsl_path.specs.contracts.span.Spanned as spanned
use Rattle.wgsl_expressions.specs.declared.attributes.attribute.Attribute.{Attribute}
use Rattle.wgsl_expressions.specs.contracts.attributes.attribute.Attribute as attribute

-- the type of such lists, as code holds it
abbrev pub attributes_row : RattleType
attributes_row = items.the_row (spanned.the_row attribute.the_row)

-- no attributes where there can be none
abbrev pub listed : Option (List (Spanned Attribute)) → List (Spanned Attribute)
listed None = []
listed (Some attributes) = attributes

-- a step at the value of a node, whose place stays
abbrev pub InPlace : {S X : Type 0} → (S → X → Bool → S → X → Type 0) → S → Spanned X → Bool → S → Spanned X → Type 0
InPlace step s x answer t y = step s x.node answer t y.node × (y.span ≡ x.span)
