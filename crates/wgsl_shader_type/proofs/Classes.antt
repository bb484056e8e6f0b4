-- The concrete and the loaded type, variant by variant.
use Rattle.std.proofs.Common.{◌≡◌, refl, sym, ap, ◌∙◌, ℕ, List, [], ◌∷◌, map, Option}
use Rattle.wgsl_words.specs.declared.enumerations.address.AddressSpace.{AddressSpace}
use Rattle.wgsl_words.specs.declared.enumerations.address.AccessMode.{AccessMode}
use Rattle.wgsl_shader_type.specs.declared.tree.StructTypeOf.{StructTypeOf}
use Rattle.wgsl_shader_type.specs.declared.tree.StructMemberTypeOf.{StructMemberTypeOf}
use Rattle.wgsl_shader_type.specs.declared.tree.ShaderType.{ShaderType, roll-ShaderType, map-ShaderType, para-roll-ShaderType}
use Rattle.wgsl_shader_type.specs.declared.tree.ShaderType.TheVariants as v
use Rattle.wgsl_shader_type.specs.declared.tree.ShaderType.TheOpen.{ShaderType-F}
use Rattle.wgsl_shader_type.specs.Trees.{member_at}
use Rattle.wgsl_shader_type.specs.Class.{as_it_stood, concrete_type, concrete_layer, loaded_type, loaded_layer}

module _ (f : ShaderType → ShaderType) where
  abbrev beside : ShaderType → ShaderType × ShaderType
  beside t = (t, f t)

  abbrev left : ShaderType × ShaderType → ShaderType
  left pair = pair.0

  members_stand : (ms : List (StructMemberTypeOf ShaderType)) → map (member_at left) (map (member_at beside) ms) ≡ ms
  members_stand [] = refl
  members_stand (m ∷ ms) = ap (λ t. m ∷ t) (members_stand ms)

  stands : (x : ShaderType-F ShaderType) → as_it_stood (map-ShaderType ShaderType (ShaderType × ShaderType) beside x) ≡ roll-ShaderType x
  stands (ShaderType-F.Struct s) = ap (λ ms. roll-ShaderType (ShaderType-F.Struct (record { name = s.name; members = ms }))) (members_stand s.members)
  stands x = refl

pub concrete_of_bool : concrete_type (v.Bool) ≡ v.Bool
concrete_of_bool = ap concrete_type (sym (v.rolls-Bool)) ∙ para-roll-ShaderType ShaderType concrete_layer ShaderType-F.Bool ∙ stands concrete_type ShaderType-F.Bool ∙ v.rolls-Bool

pub concrete_of_abstract_int : concrete_type (v.AbstractInt) ≡ v.I32
concrete_of_abstract_int = ap concrete_type (sym (v.rolls-AbstractInt)) ∙ para-roll-ShaderType ShaderType concrete_layer ShaderType-F.AbstractInt

pub concrete_of_abstract_float : concrete_type (v.AbstractFloat) ≡ v.F32
concrete_of_abstract_float = ap concrete_type (sym (v.rolls-AbstractFloat)) ∙ para-roll-ShaderType ShaderType concrete_layer ShaderType-F.AbstractFloat

pub concrete_of_i32 : concrete_type (v.I32) ≡ v.I32
concrete_of_i32 = ap concrete_type (sym (v.rolls-I32)) ∙ para-roll-ShaderType ShaderType concrete_layer ShaderType-F.I32 ∙ stands concrete_type ShaderType-F.I32 ∙ v.rolls-I32

pub concrete_of_u32 : concrete_type (v.U32) ≡ v.U32
concrete_of_u32 = ap concrete_type (sym (v.rolls-U32)) ∙ para-roll-ShaderType ShaderType concrete_layer ShaderType-F.U32 ∙ stands concrete_type ShaderType-F.U32 ∙ v.rolls-U32

pub concrete_of_f32 : concrete_type (v.F32) ≡ v.F32
concrete_of_f32 = ap concrete_type (sym (v.rolls-F32)) ∙ para-roll-ShaderType ShaderType concrete_layer ShaderType-F.F32 ∙ stands concrete_type ShaderType-F.F32 ∙ v.rolls-F32

pub concrete_of_f16 : concrete_type (v.F16) ≡ v.F16
concrete_of_f16 = ap concrete_type (sym (v.rolls-F16)) ∙ para-roll-ShaderType ShaderType concrete_layer ShaderType-F.F16 ∙ stands concrete_type ShaderType-F.F16 ∙ v.rolls-F16

pub concrete_of_struct : (s : StructTypeOf ShaderType) → concrete_type (v.Struct s) ≡ v.Struct s
concrete_of_struct s = ap concrete_type (sym (v.rolls-Struct s)) ∙ para-roll-ShaderType ShaderType concrete_layer (ShaderType-F.Struct s) ∙ stands concrete_type (ShaderType-F.Struct s) ∙ v.rolls-Struct s

pub concrete_of_array : (t : ShaderType) (n : Option ℕ) → concrete_type (v.Array t n) ≡ v.Array (concrete_type t) n
concrete_of_array t n = ap concrete_type (sym (v.rolls-Array t n)) ∙ para-roll-ShaderType ShaderType concrete_layer (ShaderType-F.Array t n)

pub concrete_of_vector : (n : ℕ) (t : ShaderType) → concrete_type (v.Vec n t) ≡ v.Vec n (concrete_type t)
concrete_of_vector n t = ap concrete_type (sym (v.rolls-Vec n t)) ∙ para-roll-ShaderType ShaderType concrete_layer (ShaderType-F.Vec n t)

pub concrete_of_pointer : (s : AddressSpace) (t : ShaderType) (a : AccessMode) → concrete_type (v.Ptr s t a) ≡ v.Ptr s t a
concrete_of_pointer s t a = ap concrete_type (sym (v.rolls-Ptr s t a)) ∙ para-roll-ShaderType ShaderType concrete_layer (ShaderType-F.Ptr s t a) ∙ stands concrete_type (ShaderType-F.Ptr s t a) ∙ v.rolls-Ptr s t a

pub concrete_of_reference : (s : AddressSpace) (t : ShaderType) (a : AccessMode) → concrete_type (v.Ref s t a) ≡ v.Ref s t a
concrete_of_reference s t a = ap concrete_type (sym (v.rolls-Ref s t a)) ∙ para-roll-ShaderType ShaderType concrete_layer (ShaderType-F.Ref s t a) ∙ stands concrete_type (ShaderType-F.Ref s t a) ∙ v.rolls-Ref s t a

pub ruleset concrete_types = (concrete_of_bool, concrete_of_abstract_int, concrete_of_abstract_float, concrete_of_i32, concrete_of_u32, concrete_of_f32, concrete_of_f16, concrete_of_struct, concrete_of_array, concrete_of_vector, concrete_of_pointer, concrete_of_reference)

pub loaded_of_bool : loaded_type (v.Bool) ≡ v.Bool
loaded_of_bool = ap loaded_type (sym (v.rolls-Bool)) ∙ para-roll-ShaderType ShaderType loaded_layer ShaderType-F.Bool ∙ stands loaded_type ShaderType-F.Bool ∙ v.rolls-Bool

pub loaded_of_abstract_int : loaded_type (v.AbstractInt) ≡ v.AbstractInt
loaded_of_abstract_int = ap loaded_type (sym (v.rolls-AbstractInt)) ∙ para-roll-ShaderType ShaderType loaded_layer ShaderType-F.AbstractInt ∙ stands loaded_type ShaderType-F.AbstractInt ∙ v.rolls-AbstractInt

pub loaded_of_abstract_float : loaded_type (v.AbstractFloat) ≡ v.AbstractFloat
loaded_of_abstract_float = ap loaded_type (sym (v.rolls-AbstractFloat)) ∙ para-roll-ShaderType ShaderType loaded_layer ShaderType-F.AbstractFloat ∙ stands loaded_type ShaderType-F.AbstractFloat ∙ v.rolls-AbstractFloat

pub loaded_of_i32 : loaded_type (v.I32) ≡ v.I32
loaded_of_i32 = ap loaded_type (sym (v.rolls-I32)) ∙ para-roll-ShaderType ShaderType loaded_layer ShaderType-F.I32 ∙ stands loaded_type ShaderType-F.I32 ∙ v.rolls-I32

pub loaded_of_u32 : loaded_type (v.U32) ≡ v.U32
loaded_of_u32 = ap loaded_type (sym (v.rolls-U32)) ∙ para-roll-ShaderType ShaderType loaded_layer ShaderType-F.U32 ∙ stands loaded_type ShaderType-F.U32 ∙ v.rolls-U32

pub loaded_of_f32 : loaded_type (v.F32) ≡ v.F32
loaded_of_f32 = ap loaded_type (sym (v.rolls-F32)) ∙ para-roll-ShaderType ShaderType loaded_layer ShaderType-F.F32 ∙ stands loaded_type ShaderType-F.F32 ∙ v.rolls-F32

pub loaded_of_f16 : loaded_type (v.F16) ≡ v.F16
loaded_of_f16 = ap loaded_type (sym (v.rolls-F16)) ∙ para-roll-ShaderType ShaderType loaded_layer ShaderType-F.F16 ∙ stands loaded_type ShaderType-F.F16 ∙ v.rolls-F16

pub loaded_of_struct : (s : StructTypeOf ShaderType) → loaded_type (v.Struct s) ≡ v.Struct s
loaded_of_struct s = ap loaded_type (sym (v.rolls-Struct s)) ∙ para-roll-ShaderType ShaderType loaded_layer (ShaderType-F.Struct s) ∙ stands loaded_type (ShaderType-F.Struct s) ∙ v.rolls-Struct s

pub loaded_of_array : (t : ShaderType) (n : Option ℕ) → loaded_type (v.Array t n) ≡ v.Array t n
loaded_of_array t n = ap loaded_type (sym (v.rolls-Array t n)) ∙ para-roll-ShaderType ShaderType loaded_layer (ShaderType-F.Array t n) ∙ stands loaded_type (ShaderType-F.Array t n) ∙ v.rolls-Array t n

pub loaded_of_vector : (n : ℕ) (t : ShaderType) → loaded_type (v.Vec n t) ≡ v.Vec n t
loaded_of_vector n t = ap loaded_type (sym (v.rolls-Vec n t)) ∙ para-roll-ShaderType ShaderType loaded_layer (ShaderType-F.Vec n t) ∙ stands loaded_type (ShaderType-F.Vec n t) ∙ v.rolls-Vec n t

pub loaded_of_pointer : (s : AddressSpace) (t : ShaderType) (a : AccessMode) → loaded_type (v.Ptr s t a) ≡ v.Ptr s t a
loaded_of_pointer s t a = ap loaded_type (sym (v.rolls-Ptr s t a)) ∙ para-roll-ShaderType ShaderType loaded_layer (ShaderType-F.Ptr s t a) ∙ stands loaded_type (ShaderType-F.Ptr s t a) ∙ v.rolls-Ptr s t a

pub loaded_of_reference : (s : AddressSpace) (t : ShaderType) (a : AccessMode) → loaded_type (v.Ref s t a) ≡ loaded_type t
loaded_of_reference s t a = ap loaded_type (sym (v.rolls-Ref s t a)) ∙ para-roll-ShaderType ShaderType loaded_layer (ShaderType-F.Ref s t a)

pub ruleset loaded_types = (loaded_of_bool, loaded_of_abstract_int, loaded_of_abstract_float, loaded_of_i32, loaded_of_u32, loaded_of_f32, loaded_of_f16, loaded_of_struct, loaded_of_array, loaded_of_vector, loaded_of_pointer, loaded_of_reference)
