-- What parts say that may be absent.
use Rattle.std.specs.Prelude.{◌≡◌, List, [], ◌∷◌, Option, Some, None}
use Rattle.wgsl_path.specs.declared.span.Spanned.{Spanned}
use Rattle.wgsl_expressions.specs.declared.expression.Expression.{Expression}
use Rattle.wgsl_declarations.specs.Attribute.{Attribute}
use Rattle.wgsl_semantic_values.specs.declared.part.Part.{Part}
use Rattle.wgsl_semantic_values.specs.declared.part.Part.TheVariants as part

abbrev pub expression_in : Part → Option (Spanned Expression)
expression_in (part.Expression x) = Some x
expression_in _ = None

abbrev pub expressions_of : Part → List (Spanned Expression)
expressions_of (part.Expressions xs) = xs
expressions_of _ = []

abbrev pub attributes_of : Part → List (Spanned Attribute)
attributes_of (part.Attributes xs) = xs
attributes_of _ = []

-- The first part is taken, and read so.
abbrev pub TakesAs : {A : Type 0} → (Part → A) → List Part → A → List Part → Type 0
TakesAs says before x after = (part : Part) × (before ≡ part ∷ after) × (x ≡ says part)
