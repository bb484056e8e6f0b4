-- Conversions of what has a type: a type itself here, a value above.
use Rattle.std.specs.Prelude.{◌≡◌, List, [], ◌∷◌, Option, Some, None, option_and_then, if◌then◌else◌}
use Rattle.wgsl_shader_type.specs.declared.tree.ShaderType.{ShaderType, out-ShaderType}
use Rattle.wgsl_shader_type.specs.declared.tree.ShaderType.TheVariants as type
use Rattle.wgsl_shader_type.specs.declared.tree.ShaderType.TheOpen.{ShaderType-F}
use Rattle.wgsl_shader_type.specs.declared.literal.LiteralInstance.{LiteralInstance}
use Rattle.wgsl_shader_type.specs.declared.literal.LiteralInstance.TheVariants as literal
use Rattle.wgsl_shader_type.specs.Rank.{converts}
use Rattle.wgsl_shader_type.specs.Conversion.{IsCommonType, HasNoCommonType}

infixl 10 ◌>>=◌
abbrev pub ◌>>=◌ : {A B : Type 0} → Option A → (A → Option B) → Option B
o >>= f = option_and_then f o

-- ---- a type

-- The type of the components of a vector, of the elements of an array, and of what a pointer or a reference leads to; any other type is its own.
abbrev pub inner_layer : ShaderType → ShaderType-F ShaderType → ShaderType
inner_layer t (ShaderType-F.Array element n) = element
inner_layer t (ShaderType-F.Vec n component) = component
inner_layer t (ShaderType-F.Ptr space stored access) = stored
inner_layer t (ShaderType-F.Ref space stored access) = stored
inner_layer t x = t

abbrev pub inner_type : ShaderType → ShaderType
inner_type t = inner_layer t (out-ShaderType t)

abbrev pub converted_type : ShaderType → ShaderType → Option ShaderType
converted_type from to = if converts from to then Some to else None

-- A vector or an array with its inner type converted; a type that is its own inner type converts itself. Behind pointers and references nothing converts.
abbrev pub inner_converted_layer : ShaderType → ShaderType → ShaderType-F ShaderType → Option ShaderType
inner_converted_layer t to (ShaderType-F.Array element n) = if converts element to then Some (type.Array to n) else None
inner_converted_layer t to (ShaderType-F.Vec n component) = if converts component to then Some (type.Vec n to) else None
inner_converted_layer t to (ShaderType-F.Ptr space stored access) = None
inner_converted_layer t to (ShaderType-F.Ref space stored access) = None
inner_converted_layer t to x = converted_type t to

abbrev pub inner_converted_type : ShaderType → ShaderType → Option ShaderType
inner_converted_type t to = inner_converted_layer t to (out-ShaderType t)

-- ---- a literal

-- The type of a literal, which is its inner type too.
abbrev pub literal_type : LiteralInstance → ShaderType
literal_type (literal.Bool value) = type.Bool
literal_type (literal.AbstractInt value) = type.AbstractInt
literal_type (literal.I32 value) = type.I32
literal_type (literal.U32 value) = type.U32

-- ---- what is converted: `convert` gives a thing of another type, or nothing

-- two things at the common type of theirs
abbrev pub both_converted : {A B : Type 0} → (A → ShaderType → Option A) → (B → ShaderType → Option B) → A → B → Option ShaderType → Option (A × B)
both_converted f g a b common = do
  t ← common
  x ← f a t
  y ← g b t
  Some (x, y)

-- each thing of a list
abbrev pub all_converted : {A : Type 0} → (A → ShaderType → Option A) → List A → ShaderType → Option (List A)
all_converted f [] t = Some []
all_converted f (a ∷ others) t = do
  x ← f a t
  xs ← all_converted f others t
  Some (x ∷ xs)

-- each thing of a list at the common type of theirs, or nothing where they have none
pub record AllAtCommonType {A : Type 0} (f : A → ShaderType → Option A) (types : List ShaderType) (things : List A) (found : Option (List A)) : Type 0 where
  pub some : (common : ShaderType) → IsCommonType types common → found ≡ all_converted f things common
  pub none : HasNoCommonType types → found ≡ None
