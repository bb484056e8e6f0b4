-- The alignment and the size, variant by variant.
use Rattle.std.proofs.Common.{◌≡◌, refl, sym, ap, ◌∙◌, ℕ, max, List, [], ◌∷◌, map, Option, Some, None}
use Rattle.wgsl_words.specs.declared.enumerations.address.AddressSpace.{AddressSpace}
use Rattle.wgsl_words.specs.declared.enumerations.address.AccessMode.{AccessMode}
use Rattle.wgsl_shader_type.specs.declared.tree.StructTypeOf.{StructTypeOf}
use Rattle.wgsl_shader_type.specs.declared.tree.StructMemberTypeOf.{StructMemberTypeOf}
use Rattle.wgsl_shader_type.specs.declared.tree.ShaderType.{ShaderType, para-roll-ShaderType}
use Rattle.wgsl_shader_type.specs.declared.tree.ShaderType.TheVariants as v
use Rattle.wgsl_shader_type.specs.declared.tree.ShaderType.TheOpen.{ShaderType-F}
use Rattle.wgsl_shader_type.specs.Trees.{member_at}
use Rattle.wgsl_shader_type.specs.Layout.{count_or}
use Rattle.wgsl_shader_type.specs.LayoutOf.{◌>>=◌, scalar_size, nonzero, own_align, largest_after, vector_align, align_layer, align_of, vector_size, array_size, member_end, end_after, struct_size, size_layer, size_of}

abbrev struct_align : List (StructMemberTypeOf ShaderType) → Option ℕ
struct_align ms = do
  largest ← largest_after align_of 0 ms
  nonzero largest

module _ {A : Type 0} (f : ShaderType → A) where
  abbrev beside : ShaderType → ShaderType × A
  beside t = (t, f t)

largest-map : {B : Type 0} (g : ShaderType → B) (align : B → Option ℕ) (largest : ℕ) (ms : List (StructMemberTypeOf ShaderType))
    → largest_after align largest (map (member_at g) ms) ≡ largest_after (λ t. align (g t)) largest ms
largest-map g align largest [] = refl
largest-map g align largest (m ∷ ms) = λ i. own_align (λ t. align (g t)) m >>= λ own. largest-map g align (max largest own) ms i

end-map : {B : Type 0} (g : ShaderType → B) (align size : B → Option ℕ) (from : ℕ) (ms : List (StructMemberTypeOf ShaderType))
    → end_after align size from (map (member_at g) ms) ≡ end_after (λ t. align (g t)) (λ t. size (g t)) from ms
end-map g align size from [] = refl
end-map g align size from (m ∷ ms) = λ i. member_end (λ t. align (g t)) (λ t. size (g t)) from m >>= λ end. end-map g align size end ms i

members_beside : {A : Type 0} (f : ShaderType → A) (ms : List (StructMemberTypeOf ShaderType))
    → map (member_at (λ (pair : ShaderType × A). (pair.0, align_of pair.0))) (map (member_at (beside f)) ms) ≡ map (member_at (beside align_of)) ms
members_beside f [] = refl
members_beside f (m ∷ ms) = ap (λ t. member_at (beside align_of) m ∷ t) (members_beside f ms)

pub align_of_bool : align_of (v.Bool) ≡ Some 4
align_of_bool = ap align_of (sym (v.rolls-Bool)) ∙ para-roll-ShaderType (Option ℕ) align_layer ShaderType-F.Bool

pub align_of_abstract_int : align_of (v.AbstractInt) ≡ None
align_of_abstract_int = ap align_of (sym (v.rolls-AbstractInt)) ∙ para-roll-ShaderType (Option ℕ) align_layer ShaderType-F.AbstractInt

pub align_of_abstract_float : align_of (v.AbstractFloat) ≡ None
align_of_abstract_float = ap align_of (sym (v.rolls-AbstractFloat)) ∙ para-roll-ShaderType (Option ℕ) align_layer ShaderType-F.AbstractFloat

pub align_of_i32 : align_of (v.I32) ≡ Some 4
align_of_i32 = ap align_of (sym (v.rolls-I32)) ∙ para-roll-ShaderType (Option ℕ) align_layer ShaderType-F.I32

pub align_of_u32 : align_of (v.U32) ≡ Some 4
align_of_u32 = ap align_of (sym (v.rolls-U32)) ∙ para-roll-ShaderType (Option ℕ) align_layer ShaderType-F.U32

pub align_of_f32 : align_of (v.F32) ≡ Some 4
align_of_f32 = ap align_of (sym (v.rolls-F32)) ∙ para-roll-ShaderType (Option ℕ) align_layer ShaderType-F.F32

pub align_of_f16 : align_of (v.F16) ≡ Some 2
align_of_f16 = ap align_of (sym (v.rolls-F16)) ∙ para-roll-ShaderType (Option ℕ) align_layer ShaderType-F.F16

pub align_of_struct : (s : StructTypeOf ShaderType) → align_of (v.Struct s) ≡ struct_align s.members
align_of_struct s = ap align_of (sym (v.rolls-Struct s)) ∙ para-roll-ShaderType (Option ℕ) align_layer (ShaderType-F.Struct s) ∙ ap (λ largest. largest >>= nonzero) (largest-map (beside align_of) (λ pair. pair.1) 0 s.members)

pub align_of_array : (t : ShaderType) (n : Option ℕ) → align_of (v.Array t n) ≡ align_of t
align_of_array t n = ap align_of (sym (v.rolls-Array t n)) ∙ para-roll-ShaderType (Option ℕ) align_layer (ShaderType-F.Array t n)

pub align_of_vector : (n : ℕ) (t : ShaderType) → align_of (v.Vec n t) ≡ vector_align (scalar_size t) n
align_of_vector n t = ap align_of (sym (v.rolls-Vec n t)) ∙ para-roll-ShaderType (Option ℕ) align_layer (ShaderType-F.Vec n t)

pub align_of_pointer : (s : AddressSpace) (t : ShaderType) (a : AccessMode) → align_of (v.Ptr s t a) ≡ None
align_of_pointer s t a = ap align_of (sym (v.rolls-Ptr s t a)) ∙ para-roll-ShaderType (Option ℕ) align_layer (ShaderType-F.Ptr s t a)

pub align_of_reference : (s : AddressSpace) (t : ShaderType) (a : AccessMode) → align_of (v.Ref s t a) ≡ None
align_of_reference s t a = ap align_of (sym (v.rolls-Ref s t a)) ∙ para-roll-ShaderType (Option ℕ) align_layer (ShaderType-F.Ref s t a)

pub ruleset aligns = (align_of_bool, align_of_abstract_int, align_of_abstract_float, align_of_i32, align_of_u32, align_of_f32, align_of_f16, align_of_struct, align_of_array, align_of_vector, align_of_pointer, align_of_reference)

pub size_of_bool : (unsized : Option ℕ) → size_of unsized (v.Bool) ≡ Some 4
unfolding size_of
size_of_bool unsized = ap (size_of unsized) (sym (v.rolls-Bool)) ∙ para-roll-ShaderType (Option ℕ) (size_layer unsized) ShaderType-F.Bool

pub size_of_abstract_int : (unsized : Option ℕ) → size_of unsized (v.AbstractInt) ≡ None
unfolding size_of
size_of_abstract_int unsized = ap (size_of unsized) (sym (v.rolls-AbstractInt)) ∙ para-roll-ShaderType (Option ℕ) (size_layer unsized) ShaderType-F.AbstractInt

pub size_of_abstract_float : (unsized : Option ℕ) → size_of unsized (v.AbstractFloat) ≡ None
unfolding size_of
size_of_abstract_float unsized = ap (size_of unsized) (sym (v.rolls-AbstractFloat)) ∙ para-roll-ShaderType (Option ℕ) (size_layer unsized) ShaderType-F.AbstractFloat

pub size_of_i32 : (unsized : Option ℕ) → size_of unsized (v.I32) ≡ Some 4
unfolding size_of
size_of_i32 unsized = ap (size_of unsized) (sym (v.rolls-I32)) ∙ para-roll-ShaderType (Option ℕ) (size_layer unsized) ShaderType-F.I32

pub size_of_u32 : (unsized : Option ℕ) → size_of unsized (v.U32) ≡ Some 4
unfolding size_of
size_of_u32 unsized = ap (size_of unsized) (sym (v.rolls-U32)) ∙ para-roll-ShaderType (Option ℕ) (size_layer unsized) ShaderType-F.U32

pub size_of_f32 : (unsized : Option ℕ) → size_of unsized (v.F32) ≡ Some 4
unfolding size_of
size_of_f32 unsized = ap (size_of unsized) (sym (v.rolls-F32)) ∙ para-roll-ShaderType (Option ℕ) (size_layer unsized) ShaderType-F.F32

pub size_of_f16 : (unsized : Option ℕ) → size_of unsized (v.F16) ≡ Some 2
unfolding size_of
size_of_f16 unsized = ap (size_of unsized) (sym (v.rolls-F16)) ∙ para-roll-ShaderType (Option ℕ) (size_layer unsized) ShaderType-F.F16

pub size_of_struct : (unsized : Option ℕ) → (s : StructTypeOf ShaderType) → size_of unsized (v.Struct s) ≡ struct_size (align_of (v.Struct s)) (end_after align_of (size_of unsized) 0 s.members)
unfolding size_of
size_of_struct unsized s = ap (size_of unsized) (sym (v.rolls-Struct s)) ∙ para-roll-ShaderType (Option ℕ) (size_layer unsized) (ShaderType-F.Struct s)
    ∙ (λ i. struct_size
    (largest_after (λ pair. pair.1) 0 (members_beside (size_of unsized) s.members i) >>= nonzero)
    (end-map (beside (size_of unsized)) (λ pair. align_of pair.0) (λ pair. pair.1) 0 s.members i))
    ∙ ap (λ align. struct_size align (end_after align_of (size_of unsized) 0 s.members))
    (ap (λ largest. largest >>= nonzero) (largest-map (beside align_of) (λ pair. pair.1) 0 s.members) ∙ sym (align_of_struct s))

pub size_of_array : (unsized : Option ℕ) → (t : ShaderType) (n : Option ℕ) → size_of unsized (v.Array t n) ≡ array_size (align_of t) (size_of unsized t) (count_or n unsized)
unfolding size_of
size_of_array unsized t n = ap (size_of unsized) (sym (v.rolls-Array t n)) ∙ para-roll-ShaderType (Option ℕ) (size_layer unsized) (ShaderType-F.Array t n)

pub size_of_vector : (unsized : Option ℕ) → (n : ℕ) (t : ShaderType) → size_of unsized (v.Vec n t) ≡ vector_size (scalar_size t) n
unfolding size_of
size_of_vector unsized n t = ap (size_of unsized) (sym (v.rolls-Vec n t)) ∙ para-roll-ShaderType (Option ℕ) (size_layer unsized) (ShaderType-F.Vec n t)

pub size_of_pointer : (unsized : Option ℕ) → (s : AddressSpace) (t : ShaderType) (a : AccessMode) → size_of unsized (v.Ptr s t a) ≡ None
unfolding size_of
size_of_pointer unsized s t a = ap (size_of unsized) (sym (v.rolls-Ptr s t a)) ∙ para-roll-ShaderType (Option ℕ) (size_layer unsized) (ShaderType-F.Ptr s t a)

pub size_of_reference : (unsized : Option ℕ) → (s : AddressSpace) (t : ShaderType) (a : AccessMode) → size_of unsized (v.Ref s t a) ≡ None
unfolding size_of
size_of_reference unsized s t a = ap (size_of unsized) (sym (v.rolls-Ref s t a)) ∙ para-roll-ShaderType (Option ℕ) (size_layer unsized) (ShaderType-F.Ref s t a)

pub ruleset sizes = (size_of_bool, size_of_abstract_int, size_of_abstract_float, size_of_i32, size_of_u32, size_of_f32, size_of_f16, size_of_struct, size_of_array, size_of_vector, size_of_pointer, size_of_reference)
