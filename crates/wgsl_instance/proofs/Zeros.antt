-- The zero value, variant by variant.
use Rattle.std.proofs.Common.{◌≡◌, refl, sym, ap, ◌∙◌, ℕ, List, [], ◌∷◌, map, Option, Result, Ok, Err}
use Rattle.wgsl_words.specs.declared.enumerations.address.AddressSpace.{AddressSpace}
use Rattle.wgsl_words.specs.declared.enumerations.address.AccessMode.{AccessMode}
use Rattle.wgsl_shader_type.specs.declared.error.Error.{Error}
use Rattle.wgsl_shader_type.specs.declared.error.Error.TheVariants.{NotConstructible}
use Rattle.wgsl_shader_type.specs.declared.tree.StructTypeOf.{StructTypeOf}
use Rattle.wgsl_shader_type.specs.declared.tree.StructMemberTypeOf.{StructMemberTypeOf}
use Rattle.wgsl_shader_type.specs.declared.tree.ShaderType.{ShaderType, roll-ShaderType, para-roll-ShaderType}
use Rattle.wgsl_shader_type.specs.declared.tree.ShaderType.TheVariants as type
use Rattle.wgsl_shader_type.specs.declared.tree.ShaderType.TheOpen.{ShaderType-F}
use Rattle.wgsl_shader_type.specs.Trees.{member_at}
use Rattle.wgsl_instance.specs.Answer.{then_with, collected}
use Rattle.wgsl_instance.specs.Zero.{Made, zero_value, zero_layer, zero_scalar, zero_vector, zero_array, struct_of, zero_member}

abbrev beside : ShaderType → ShaderType × Made
beside t = (t, zero_value t)

abbrev left : ShaderType × Made → ShaderType
left pair = pair.0

members_stand : (ms : List (StructMemberTypeOf ShaderType)) → map (member_at left) (map (member_at beside) ms) ≡ ms
members_stand [] = refl
members_stand (m ∷ ms) = ap (λ t. m ∷ t) (members_stand ms)

members_zero : (ms : List (StructMemberTypeOf ShaderType)) → collected (λ (m : StructMemberTypeOf (ShaderType × Made)). m.ty.1) (map (member_at beside) ms) ≡ collected zero_member ms
members_zero [] = refl
members_zero (m ∷ ms) = ap (λ r. then_with (zero_value m.ty) (λ y. then_with r (λ ys. Ok (y ∷ ys)))) (members_zero ms)

rolled : (x : ShaderType-F ShaderType) (t : ShaderType) → roll-ShaderType x ≡ t → zero_value t ≡ zero_value (roll-ShaderType x)
rolled x t e = ap zero_value (sym e)

pub zero_of_struct : (s : StructTypeOf ShaderType) → zero_value (type.Struct s) ≡ then_with (collected zero_member s.members) (struct_of s)
zero_of_struct s =
    rolled (ShaderType-F.Struct s) (type.Struct s) (type.rolls-Struct s)
    ∙ para-roll-ShaderType Made zero_layer (ShaderType-F.Struct s)
    ∙ (λ k. then_with (members_zero s.members k) (struct_of (record { name = s.name; members = members_stand s.members k })))

pub zero_of_array : (t : ShaderType) (n : Option ℕ) → zero_value (type.Array t n) ≡ zero_array t n (zero_value t)
zero_of_array t n = rolled (ShaderType-F.Array t n) (type.Array t n) (type.rolls-Array t n) ∙ para-roll-ShaderType Made zero_layer (ShaderType-F.Array t n)

pub zero_of_vector : (n : ℕ) (t : ShaderType) → zero_value (type.Vec n t) ≡ zero_vector n t
zero_of_vector n t = rolled (ShaderType-F.Vec n t) (type.Vec n t) (type.rolls-Vec n t) ∙ para-roll-ShaderType Made zero_layer (ShaderType-F.Vec n t)

pub zero_of_pointer : (s : AddressSpace) (t : ShaderType) (a : AccessMode) → zero_value (type.Ptr s t a) ≡ Err (NotConstructible (type.Ptr s t a))
zero_of_pointer s t a = rolled (ShaderType-F.Ptr s t a) (type.Ptr s t a) (type.rolls-Ptr s t a) ∙ para-roll-ShaderType Made zero_layer (ShaderType-F.Ptr s t a)

pub zero_of_reference : (s : AddressSpace) (t : ShaderType) (a : AccessMode) → zero_value (type.Ref s t a) ≡ Err (NotConstructible (type.Ref s t a))
zero_of_reference s t a = rolled (ShaderType-F.Ref s t a) (type.Ref s t a) (type.rolls-Ref s t a) ∙ para-roll-ShaderType Made zero_layer (ShaderType-F.Ref s t a)

pub zero_of_bool : zero_value type.Bool ≡ zero_scalar type.Bool
zero_of_bool = rolled ShaderType-F.Bool type.Bool type.rolls-Bool ∙ para-roll-ShaderType Made zero_layer ShaderType-F.Bool ∙ ap zero_scalar type.rolls-Bool

pub zero_of_abstract_int : zero_value type.AbstractInt ≡ zero_scalar type.AbstractInt
zero_of_abstract_int = rolled ShaderType-F.AbstractInt type.AbstractInt type.rolls-AbstractInt ∙ para-roll-ShaderType Made zero_layer ShaderType-F.AbstractInt ∙ ap zero_scalar type.rolls-AbstractInt

pub zero_of_abstract_float : zero_value type.AbstractFloat ≡ zero_scalar type.AbstractFloat
zero_of_abstract_float = rolled ShaderType-F.AbstractFloat type.AbstractFloat type.rolls-AbstractFloat ∙ para-roll-ShaderType Made zero_layer ShaderType-F.AbstractFloat ∙ ap zero_scalar type.rolls-AbstractFloat

pub zero_of_i32 : zero_value type.I32 ≡ zero_scalar type.I32
zero_of_i32 = rolled ShaderType-F.I32 type.I32 type.rolls-I32 ∙ para-roll-ShaderType Made zero_layer ShaderType-F.I32 ∙ ap zero_scalar type.rolls-I32

pub zero_of_u32 : zero_value type.U32 ≡ zero_scalar type.U32
zero_of_u32 = rolled ShaderType-F.U32 type.U32 type.rolls-U32 ∙ para-roll-ShaderType Made zero_layer ShaderType-F.U32 ∙ ap zero_scalar type.rolls-U32

pub zero_of_f32 : zero_value type.F32 ≡ zero_scalar type.F32
zero_of_f32 = rolled ShaderType-F.F32 type.F32 type.rolls-F32 ∙ para-roll-ShaderType Made zero_layer ShaderType-F.F32 ∙ ap zero_scalar type.rolls-F32

pub zero_of_f16 : zero_value type.F16 ≡ zero_scalar type.F16
zero_of_f16 = rolled ShaderType-F.F16 type.F16 type.rolls-F16 ∙ para-roll-ShaderType Made zero_layer ShaderType-F.F16 ∙ ap zero_scalar type.rolls-F16

pub ruleset zero_values = (zero_of_struct, zero_of_array, zero_of_vector, zero_of_pointer, zero_of_reference, zero_of_bool, zero_of_abstract_int, zero_of_abstract_float, zero_of_i32, zero_of_u32, zero_of_f32, zero_of_f16)
