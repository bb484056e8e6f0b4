-- What is asked of `Convert`, and why types meet it.
use Rattle.std.proofs.Common.{◌≡◌, refl, sym, ap, ◌∙◌, subst, ◌⊎◌, inl, inr, ℕ, Bool, true, false, Option, Some, None, is_some, if◌then◌else◌, true≢false}
use Rattle.wgsl_shader_type.specs.declared.tree.ShaderType.{ShaderType, out-ShaderType}
use Rattle.wgsl_shader_type.specs.declared.tree.ShaderType.TheVariants as v
use Rattle.wgsl_shader_type.specs.declared.tree.ShaderType.TheOpen.{ShaderType-F}
use Rattle.wgsl_shader_type.specs.Conversion.{Step, Path, Converts}
use Rattle.wgsl_shader_type.specs.Rank.{rank_of, converts}
use Rattle.wgsl_shader_type.proofs.Ranks.{path_if_rank, rank_if_path}
use Rattle.wgsl_types.specs.Convert.{inner_layer, inner_type, converted_type, inner_converted_layer, inner_converted_type}

-- a pointer or a reference, behind which nothing converts
abbrev pub indirect_layer : {A : Type 0} → ShaderType-F A → Bool
indirect_layer (ShaderType-F.Ptr space t access) = true
indirect_layer (ShaderType-F.Ref space t access) = true
indirect_layer x = false

abbrev pub IsIndirect : ShaderType → Type 0
IsIndirect t = indirect_layer (out-ShaderType t) ≡ true

-- ---- types

taken : {A : Type 0} (b : Bool) (x y : A) → (if b then Some x else None) ≡ Some y → (b ≡ true) × (x ≡ y)
taken true x y e = (refl, cc)
taken false x y e = absurd (cc)

not_taken : {A : Type 0} (b : Bool) (x : A) → (if b then Some x else None) ≡ None → b ≡ false
not_taken true x e = absurd (cc)
not_taken false x e = refl

path_of : (a b : ShaderType) (o : Option ℕ) → rank_of a b ≡ o → is_some o ≡ true → Converts a b
path_of a b (Some n) h e = (n, path_if_rank a b n h)
path_of a b None h e = absurd (cc)

pub converts_where : (a b : ShaderType) → converts a b ≡ true → Converts a b
converts_where a b = path_of a b (rank_of a b) refl

pub converts_if : (a b : ShaderType) → Converts a b → converts a b ≡ true
converts_if a b c = ap is_some (rank_if_path c.1)

never : (a b : ShaderType) → converts a b ≡ false → Converts a b → ⊥
never a b h c = true≢false (sym (converts_if a b c) ∙ h)

pub type_has : (s r t : ShaderType) → converted_type s t ≡ Some r → r ≡ t
type_has s r t h = let both = taken (converts s t) t r h in sym both.1

pub type_where : (s r t : ShaderType) → converted_type s t ≡ Some r → Converts s t
type_where s r t h = let both = taken (converts s t) t r h in converts_where s t both.0

pub type_unless : (s t : ShaderType) → converted_type s t ≡ None → Converts s t → ⊥
type_unless s t h = never s t (not_taken (converts s t) t h)

-- ---- their inner types

abbrev plain_layer : ShaderType-F ShaderType → Bool
plain_layer (ShaderType-F.Array t n) = false
plain_layer (ShaderType-F.Vec n t) = false
plain_layer (ShaderType-F.Ptr space t access) = false
plain_layer (ShaderType-F.Ref space t access) = false
plain_layer x = true

abbrev IsPlain : ShaderType → Type 0
IsPlain t = plain_layer (out-ShaderType t) ≡ true

no_vector : {G : Type 0} (n : ℕ) (t : ShaderType) → IsPlain (v.Vec n t) → G
no_vector n t p = absurd (true≢false (sym p ∙ ap plain_layer (v.outs-Vec n t)))

no_array : {G : Type 0} (t : ShaderType) (n : Option ℕ) → IsPlain (v.Array t n) → G
no_array t n p = absurd (true≢false (sym p ∙ ap plain_layer (v.outs-Array t n)))

-- a step from a plain type leads to one
plain_step : {a b : ShaderType} {w : ℕ} → Step a b w → IsPlain a → IsPlain b
plain_step Step.abstract_float_to_f32 p = ap plain_layer v.outs-F32
plain_step Step.abstract_float_to_f16 p = ap plain_layer v.outs-F16
plain_step Step.abstract_int_to_i32 p = ap plain_layer v.outs-I32
plain_step Step.abstract_int_to_u32 p = ap plain_layer v.outs-U32
plain_step Step.abstract_int_to_abstract_float p = ap plain_layer v.outs-AbstractFloat
plain_step (Step.in_vector {from = from} n step) p = no_vector n from p
plain_step (Step.in_array {from = from} n step) p = no_array from n p

plain_path : {a b : ShaderType} {n : ℕ} → Path a b n → IsPlain a → IsPlain b
plain_path Path.stay p = p
plain_path (Path.go step path) p = plain_path path (plain_step step p)

inner_of_plain : (t : ShaderType) (x : ShaderType-F ShaderType) → plain_layer x ≡ true → inner_layer t x ≡ t
inner_of_plain t (ShaderType-F.Array element n) p = absurd (cc)
inner_of_plain t (ShaderType-F.Vec n component) p = absurd (cc)
inner_of_plain t (ShaderType-F.Ptr space stored access) p = absurd (cc)
inner_of_plain t (ShaderType-F.Ref space stored access) p = absurd (cc)
inner_of_plain t ShaderType-F.Bool p = refl
inner_of_plain t ShaderType-F.AbstractInt p = refl
inner_of_plain t ShaderType-F.AbstractFloat p = refl
inner_of_plain t ShaderType-F.I32 p = refl
inner_of_plain t ShaderType-F.U32 p = refl
inner_of_plain t ShaderType-F.F32 p = refl
inner_of_plain t ShaderType-F.F16 p = refl
inner_of_plain t (ShaderType-F.Struct s) p = refl

-- what a layer says of the inner conversion
record Inner (s t r : ShaderType) (x : ShaderType-F ShaderType) : Type 0 where
  has : inner_type r ≡ t
  converts : Converts (inner_layer s x) t

plainly : (s t r : ShaderType) (x : ShaderType-F ShaderType) → plain_layer x ≡ true → IsPlain s → converted_type s t ≡ Some r → Inner s t r x
plainly s t r x q p h =
    let c = type_where s r t h in
    record {
      has = subst (λ u. inner_type u ≡ t) (sym (type_has s r t h)) (inner_of_plain t (out-ShaderType t) (plain_path c.1 p));
      converts = subst (λ u. Converts u t) (sym (inner_of_plain s x q)) c;
    }

inner_at : (s t r : ShaderType) (x : ShaderType-F ShaderType) → plain_layer (out-ShaderType s) ≡ plain_layer x → inner_converted_layer s t x ≡ Some r → Inner s t r x
inner_at s t r (ShaderType-F.Array element n) p h =
    let both = taken (converts element t) (v.Array t n) r h in
    record { has = subst (λ u. inner_type u ≡ t) both.1 (ap (inner_layer (v.Array t n)) (v.outs-Array t n)); converts = converts_where element t both.0 }
inner_at s t r (ShaderType-F.Vec n component) p h =
    let both = taken (converts component t) (v.Vec n t) r h in
    record { has = subst (λ u. inner_type u ≡ t) both.1 (ap (inner_layer (v.Vec n t)) (v.outs-Vec n t)); converts = converts_where component t both.0 }
inner_at s t r (ShaderType-F.Ptr space stored access) p h = absurd (cc)
inner_at s t r (ShaderType-F.Ref space stored access) p h = absurd (cc)
inner_at s t r ShaderType-F.Bool p h = plainly s t r ShaderType-F.Bool refl p h
inner_at s t r ShaderType-F.AbstractInt p h = plainly s t r ShaderType-F.AbstractInt refl p h
inner_at s t r ShaderType-F.AbstractFloat p h = plainly s t r ShaderType-F.AbstractFloat refl p h
inner_at s t r ShaderType-F.I32 p h = plainly s t r ShaderType-F.I32 refl p h
inner_at s t r ShaderType-F.U32 p h = plainly s t r ShaderType-F.U32 refl p h
inner_at s t r ShaderType-F.F32 p h = plainly s t r ShaderType-F.F32 refl p h
inner_at s t r ShaderType-F.F16 p h = plainly s t r ShaderType-F.F16 refl p h
inner_at s t r (ShaderType-F.Struct members) p h = plainly s t r (ShaderType-F.Struct members) refl p h

pub inner_has : (s r t : ShaderType) → inner_converted_type s t ≡ Some r → inner_type r ≡ t
inner_has s r t h = (inner_at s t r (out-ShaderType s) refl h).has

pub inner_where : (s r t : ShaderType) → inner_converted_type s t ≡ Some r → Converts (inner_type s) t
inner_where s r t h = (inner_at s t r (out-ShaderType s) refl h).converts

unless_at : (s t : ShaderType) (x : ShaderType-F ShaderType) → inner_converted_layer s t x ≡ None → Converts (inner_layer s x) t → ⊥ ⊎ (indirect_layer x ≡ true)
unless_at s t (ShaderType-F.Array element n) h c = absurd (never element t (not_taken (converts element t) (v.Array t n) h) c)
unless_at s t (ShaderType-F.Vec n component) h c = absurd (never component t (not_taken (converts component t) (v.Vec n t) h) c)
unless_at s t (ShaderType-F.Ptr space stored access) h c = inr refl
unless_at s t (ShaderType-F.Ref space stored access) h c = inr refl
unless_at s t ShaderType-F.Bool h c = absurd (type_unless s t h c)
unless_at s t ShaderType-F.AbstractInt h c = absurd (type_unless s t h c)
unless_at s t ShaderType-F.AbstractFloat h c = absurd (type_unless s t h c)
unless_at s t ShaderType-F.I32 h c = absurd (type_unless s t h c)
unless_at s t ShaderType-F.U32 h c = absurd (type_unless s t h c)
unless_at s t ShaderType-F.F32 h c = absurd (type_unless s t h c)
unless_at s t ShaderType-F.F16 h c = absurd (type_unless s t h c)
unless_at s t (ShaderType-F.Struct members) h c = absurd (type_unless s t h c)

pub inner_unless : (s t : ShaderType) → inner_converted_type s t ≡ None → Converts (inner_type s) t → ⊥ ⊎ IsIndirect s
inner_unless s t = unless_at s t (out-ShaderType s)
