-- Induction over types, and what a fold gives at each variant, once for all functions of types.
use Rattle.std.proofs.Common.{sym, subst, ℕ, List, [], ◌∷◌, map, Option}
use Rattle.wgsl_words.specs.declared.enumerations.address.AddressSpace.{AddressSpace}
use Rattle.wgsl_words.specs.declared.enumerations.address.AccessMode.{AccessMode}
use Rattle.wgsl_shader_type.specs.declared.tree.StructTypeOf.{StructTypeOf}
use Rattle.wgsl_shader_type.specs.declared.tree.StructMemberTypeOf.{StructMemberTypeOf}
use Rattle.wgsl_shader_type.specs.declared.tree.ShaderType.{ShaderType, roll-ShaderType, map-ShaderType, ind-ShaderType}
use Rattle.wgsl_shader_type.specs.declared.tree.ShaderType.TheVariants as v
use Rattle.wgsl_shader_type.specs.declared.tree.ShaderType.TheOpen.{ShaderType-F}

-- a member, and a struct, with something else in place of their types
abbrev pub member_at : {A B : Type 0} → (A → B) → StructMemberTypeOf A → StructMemberTypeOf B
member_at f m = record { name = m.name; ty = f m.ty; size = m.size; align = m.align }

abbrev pub struct_at : {A B : Type 0} → (A → B) → StructTypeOf A → StructTypeOf B
struct_at f s = record { name = s.name; members = map (member_at f) s.members }

-- P holds of each member's type
abbrev pub AllMembers : (ShaderType → Type 0) → List (StructMemberTypeOf ShaderType) → Type 0
AllMembers P [] = Unit {0}
AllMembers P (m ∷ ms) = P m.ty × AllMembers P ms

-- what an induction shows at each variant
pub record Cases (P : ShaderType → Type 0) : Type 0 where
  pub boolean : P v.Bool
  pub abstract_int : P v.AbstractInt
  pub abstract_float : P v.AbstractFloat
  pub i32 : P v.I32
  pub u32 : P v.U32
  pub f32 : P v.F32
  pub f16 : P v.F16
  pub struct : (s : StructTypeOf ShaderType) → AllMembers P s.members → P (v.Struct s)
  pub array : (t : ShaderType) (n : Option ℕ) → P t → P (v.Array t n)
  pub vector : (n : ℕ) (t : ShaderType) → P t → P (v.Vec n t)
  pub pointer : (s : AddressSpace) (t : ShaderType) (a : AccessMode) → P t → P (v.Ptr s t a)
  pub reference : (s : AddressSpace) (t : ShaderType) (a : AccessMode) → P t → P (v.Ref s t a)

module _ (P : ShaderType → Type 0) where
  abbrev pub Shown : Type 0
  Shown = (t : ShaderType) × P t

  abbrev pub first : Shown → ShaderType
  first c = c.0

  members_shown : (ms : List (StructMemberTypeOf Shown)) → AllMembers P (map (member_at first) ms)
  members_shown [] = tt
  members_shown (m ∷ ms) = (m.ty.1, members_shown ms)

  layer_shown : Cases P → (y : ShaderType-F Shown) → P (roll-ShaderType (map-ShaderType Shown ShaderType first y))
  layer_shown c ShaderType-F.Bool = subst P (sym v.rolls-Bool) c.boolean
  layer_shown c ShaderType-F.AbstractInt = subst P (sym v.rolls-AbstractInt) c.abstract_int
  layer_shown c ShaderType-F.AbstractFloat = subst P (sym v.rolls-AbstractFloat) c.abstract_float
  layer_shown c ShaderType-F.I32 = subst P (sym v.rolls-I32) c.i32
  layer_shown c ShaderType-F.U32 = subst P (sym v.rolls-U32) c.u32
  layer_shown c ShaderType-F.F32 = subst P (sym v.rolls-F32) c.f32
  layer_shown c ShaderType-F.F16 = subst P (sym v.rolls-F16) c.f16
  layer_shown c (ShaderType-F.Struct s) = subst P (sym (v.rolls-Struct (struct_at first s))) (c.struct (struct_at first s) (members_shown s.members))
  layer_shown c (ShaderType-F.Array t n) = subst P (sym (v.rolls-Array t.0 n)) (c.array t.0 n t.1)
  layer_shown c (ShaderType-F.Vec n t) = subst P (sym (v.rolls-Vec n t.0)) (c.vector n t.0 t.1)
  layer_shown c (ShaderType-F.Ptr s t a) = subst P (sym (v.rolls-Ptr s t.0 a)) (c.pointer s t.0 a t.1)
  layer_shown c (ShaderType-F.Ref s t a) = subst P (sym (v.rolls-Ref s t.0 a)) (c.reference s t.0 a t.1)

  pub induction : Cases P → (t : ShaderType) → P t
  induction c = ind-ShaderType P (λ x y is. subst (λ z. P (roll-ShaderType z)) is (layer_shown c y))
