-- Conversion is a partial order, ranks add along it, and what a common type is.
use Rattle.std.proofs.Common.{◌≡◌, refl, sym, ap, ◌∙◌, subst, ℕ, ◌+◌, ◌<◌, ◌⊎◌, ⊎_elim, List, [], ◌∷◌, ◌++◌, length, get_or, take, Contains, arith}
use Rattle.std.proofs.lemmas.List.{take_more}
use Rattle.std.proofs.lemmas.List.Elements.{All-contains, All-from_recursion, Contains-push_cases, Contains-get_or}
use Rattle.wgsl_shader_type.specs.declared.tree.ShaderType.{ShaderType}
use Rattle.wgsl_shader_type.specs.Conversion.{Step, Path, Converts, IsRank, IsCommonType}
use Rattle.wgsl_shader_type.proofs.Ranks.{joined, rank_self, rank_if_path, rank_if_some, in_some}

-- each step weighs something
weighs : {a b : ShaderType} {w : ℕ} → Step a b w → 0 < w
weighs Step.abstract_float_to_f32 = omega arith
weighs Step.abstract_float_to_f16 = omega arith
weighs Step.abstract_int_to_i32 = omega arith
weighs Step.abstract_int_to_u32 = omega arith
weighs Step.abstract_int_to_abstract_float = omega arith
weighs (Step.in_vector n step) = weighs step
weighs (Step.in_array n step) = weighs step

-- so a path of sum 0 stays where it is
pub equal_if_zero : {a b : ShaderType} {n : ℕ} → Path a b n → n ≡ 0 → a ≡ b
equal_if_zero Path.stay h = refl
equal_if_zero (Path.go step path) h = let w = weighs step in absurd (omega arith)

pub converts_self : (a : ShaderType) → Converts a a
converts_self a = (0, Path.stay)

pub converts_on : (a b c : ShaderType) → Converts a b → Converts b c → Converts a c
converts_on a b c p q = (p.0 + q.0, joined p.1 q.1)

pub converts_back : (a b : ShaderType) → Converts a b → Converts b a → a ≡ b
converts_back a b p q =
    let round : 0 ≡ p.0 + q.0 = in_some 0 (p.0 + q.0) (sym (rank_self a) ∙ rank_if_path (joined p.1 q.1)) in
    equal_if_zero p.1 (omega arith)

pub ranks_add : (a b c : ShaderType) (m n : ℕ) → IsRank a b m → IsRank b c n → IsRank a c (m + n)
ranks_add a b c m n p q = rank_if_some a c (m + n) (rank_if_path (joined p.path q.path))

-- the common type of two types
pub common_second : (a b : ShaderType) → Converts a b → IsCommonType (a ∷ b ∷ []) b
common_second a b h = record {
  member = (1, omega arith, refl);
  all_convert = All-from_recursion (λ t. Converts t b) (a ∷ b ∷ []) (h, (converts_self b, tt));
}

pub common_first : (a b : ShaderType) → Converts b a → IsCommonType (a ∷ b ∷ []) a
common_first a b h = record {
  member = (0, omega arith, refl);
  all_convert = All-from_recursion (λ t. Converts t a) (a ∷ b ∷ []) (converts_self a, (h, tt));
}

-- the item of a loop is a member
pub item_within : (types : List ShaderType) (i : ℕ) (t : ShaderType) → i < length types → t ≡ get_or types i t → Contains types t
item_within types i t within at = subst (Contains types) (sym at) (Contains-get_or types i t within)

-- The common type, if there is one, is the last member reached: each member is passed where it converts to the one reached before, and else is reached itself.
module _ (types : List ShaderType) (i : ℕ) (t reached : ShaderType) (within : i < length types) (at : t ≡ get_or types i t) where
  abbrev Only : ℕ → ShaderType → Type 0
  Only n candidate = (common : ShaderType) → IsCommonType types common → Contains (take n types) common → candidate ≡ common

  last_or_before : (common : ShaderType) → Contains (take (i + 1) types) common → Contains (take i types) common ⊎ (t ≡ common)
  last_or_before common h = Contains-push_cases (take i types) t common (subst (λ l. Contains l common) (take_more types i t within ∙ ap (λ x. take i types ++ x ∷ []) (sym at)) h)

  abbrev here : Contains types t
  here = item_within types i t within at

  pub only_kept : Contains types reached → Converts t reached → Only i reached → Only (i + 1) reached
  only_kept member converts only common is h = ⊎_elim (only common is)
      (λ e. converts_back reached common (All-contains (λ m. Converts m common) types reached is.all_convert member) (subst (λ x. Converts x reached) e converts))
      (last_or_before common h)

  pub only_moved : (Converts t reached → ⊥) → Only i reached → Only (i + 1) t
  only_moved stays only common is h = ⊎_elim
      (λ before. absurd (stays (subst (Converts t) (sym (only common is before)) (All-contains (λ m. Converts m common) types t is.all_convert here))))
      (λ e. e) (last_or_before common h)
