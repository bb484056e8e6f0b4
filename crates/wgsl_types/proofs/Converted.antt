-- What `convert` gives, for whatever meets the laws of `Convert`.
use Rattle.std.proofs.Common.{◌≡◌, refl, sym, ap, ◌∙◌, subst, ◌⊎◌, inl, inr, ℕ, zero, suc, ◌<◌, Bool, true, false, Option, Some, None, List, [], ◌∷◌, length, if◌then◌else◌, true≢false, arith, slice_index_or}
use Rattle.std.specs.Prelude.{option_and_then}
use Rattle.std.proofs.lemmas.List.Elements.{All-contains}
use Rattle.wgsl_shader_type.specs.declared.tree.ShaderType.{ShaderType}
use Rattle.wgsl_shader_type.specs.Conversion.{Converts, IsCommonType}
use Rattle.wgsl_shader_type.specs.Rank.{converts, common_of}
use Rattle.wgsl_shader_type.proofs.Commons.{converts_back, common_first, common_second}
use Rattle.wgsl_types.specs.Convert.{both_converted}
use Rattle.wgsl_types.specs.ConvertLaws.{converts_where, converts_if}
use Rattle.wgsl_types.specs.Laws.{BothAtCommonType, BothUnlessUnfit}
use Rattle.wgsl_types.proofs.Lawful.{one_common}

common_at : (a b t : ShaderType) (p q : Bool) → converts a b ≡ p → converts b a ≡ q → (if p then Some b else (if q then Some a else None)) ≡ Some t → IsCommonType (a ∷ b ∷ []) t
common_at a b t true q h k e = let is : b ≡ t = cc in subst (IsCommonType (a ∷ b ∷ [])) is (common_second a b (converts_where a b h))
common_at a b t false true h k e = let is : a ≡ t = cc in subst (IsCommonType (a ∷ b ∷ [])) is (common_first a b (converts_where b a k))
common_at a b t false false h k e = absurd (cc)

common_if : (a b t : ShaderType) → common_of a b ≡ Some t → IsCommonType (a ∷ b ∷ []) t
common_if a b t = common_at a b t (converts a b) (converts b a) refl refl

first_of : {a b t : ShaderType} → IsCommonType (a ∷ b ∷ []) t → Converts a t
first_of {a} {b} {t} c = All-contains (λ m. Converts m t) (a ∷ b ∷ []) a c.all_convert (0, omega arith, refl)

second_of : {a b t : ShaderType} → IsCommonType (a ∷ b ∷ []) t → Converts b t
second_of {a} {b} {t} c = All-contains (λ m. Converts m t) (a ∷ b ∷ []) b c.all_convert (1, omega arith, refl)

never : {G : Type 0} (a b : ShaderType) → converts a b ≡ false → Converts a b → G
never a b h c = absurd (true≢false (sym (converts_if a b c) ∙ h))

-- where two types have a common type, it is found
found_at : (a b t : ShaderType) (p q : Bool) → converts a b ≡ p → converts b a ≡ q → IsCommonType (a ∷ b ∷ []) t → (if p then Some b else (if q then Some a else None)) ≡ Some t
found_at a b t true q h k c = ap Some (one_common (a ∷ b ∷ []) b t (common_second a b (converts_where a b h)) c)
found_at a b t false true h k c = ap Some (one_common (a ∷ b ∷ []) a t (common_first a b (converts_where b a k)) c)
found_at a b t false false h k c = at c.member.0 c.member.1 c.member.2
  where
    at : (i : ℕ) → i < length (a ∷ b ∷ []) → slice_index_or (a ∷ b ∷ []) i t ≡ t → None ≡ Some t
    at zero less e = never b a k (subst (Converts b) (sym e) (second_of c))
    at (suc zero) less e = never a b h (subst (Converts a) (sym e) (first_of c))
    at (suc (suc i)) less e = absurd (omega arith)

found : (a b t : ShaderType) → IsCommonType (a ∷ b ∷ []) t → common_of a b ≡ Some t
found a b t = found_at a b t (converts a b) (converts b a) refl refl

module _ {A : Type 0} (type_of : A → ShaderType) (f : A → ShaderType → Option A) where
  abbrev Both : Option A → Option A → Option (A × A)
  Both p q = option_and_then {U = A × A} (λ u. option_and_then {U = A × A} (λ w. Some (u, w)) q) p

  module _ (has : (s r : A) (t : ShaderType) → f s t ≡ Some r → type_of r ≡ t) where
    both_given : (a b x y : A) (t : ShaderType) (p q : Option A) → f a t ≡ p → f b t ≡ q → Both p q ≡ Some (x, y)
        → (type_of x ≡ t) × (type_of y ≡ t)
    both_given a b x y t None q h k e = absurd (cc)
    both_given a b x y t (Some u) None h k e = absurd (cc)
    both_given a b x y t (Some u) (Some w) h k e =
        let is : ◌≡◌ {A = A × A} (u, w) (x, y) = cc in
        (subst (λ z. type_of z ≡ t) (ap (λ z. z.0) is) (has a u t h), subst (λ z. type_of z ≡ t) (ap (λ z. z.1) is) (has b w t k))

    given_at : (a b x y : A) (o : Option ShaderType) → common_of (type_of a) (type_of b) ≡ o → both_converted f f a b o ≡ Some (x, y) → (t : ShaderType) × IsCommonType (type_of a ∷ type_of b ∷ []) t × (type_of x ≡ t) × (type_of y ≡ t)
    given_at a b x y None h e = absurd (cc)
    given_at a b x y (Some t) h e =
        let given = both_given a b x y t (f a t) (f b t) refl refl e in
        (t, common_if (type_of a) (type_of b) t h, given.0, given.1)

    pub both_at_common : BothAtCommonType type_of f
    both_at_common a b x y e = given_at a b x y (common_of (type_of a) (type_of b)) refl e

  module _ (unfit : A → ShaderType → Type 0) (unless : (s : A) (t : ShaderType) → f s t ≡ None → Converts (type_of s) t → unfit s t) where
    one_unfit : (a b : A) (t : ShaderType) (p q : Option A) → f a t ≡ p → f b t ≡ q → Both p q ≡ None
        → Converts (type_of a) t → Converts (type_of b) t → unfit a t ⊎ unfit b t
    one_unfit a b t None q h k e c d = inl (unless a t h c)
    one_unfit a b t (Some u) None h k e c d = inr (unless b t k d)
    one_unfit a b t (Some u) (Some w) h k e c d = absurd (cc)

    pub both_unless_unfit : BothUnlessUnfit type_of f unfit
    both_unless_unfit a b t e c =
        one_unfit a b t (f a t) (f b t) refl refl (ap (both_converted f f a b) (sym (found (type_of a) (type_of b) t c)) ∙ e) (first_of c) (second_of c)
