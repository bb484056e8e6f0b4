-- Where a key stands among the entries of a map.
use Rattle.std.proofs.Common.{◌≡◌, refl, sym, ap, subst, ◌∙◌, ℕ, zero, suc, ◌+◌, ◌<◌, List, [], ◌∷◌, length, get_or, Bool, true, false, Some, None, arith}
use Rattle.std.specs.Prelude.{slice_get, if◌then◌else◌}
use Rattle.std.specs.List.{position, position_from}
use Rattle.std.specs.Option.{is_some}
use Rattle.std.specs.Map.{lookup, keys_of}
use Rattle.std.proofs.lemmas.List.Quantifiers.{position-Some}
use Rattle.std.proofs.lemmas.Iterator.Adapters.{position_from-zero}

module _ {K X : Type 0} where
  key_there : (es : List (K × X)) (i : ℕ) (d : K) (e : K × X) → slice_get es i ≡ Some e → get_or (keys_of es) i d ≡ e.0
  key_there [] i d e at = let wrong : None ≡ Some e = at in absurd (cc)
  key_there (x ∷ es) zero d e at = let same : x ≡ e = cc in ap (λ (p : K × X). p.0) same
  key_there (x ∷ es) (suc i) d e at = key_there es i d e at

  none_there : (es : List (K × X)) (i : ℕ) → slice_get es i ≡ None → i < length (keys_of es) → ⊥
  none_there [] i at within = omega arith
  none_there (x ∷ es) zero at within = let wrong : Some x ≡ None = at in absurd (cc)
  none_there (x ∷ es) (suc i) at within = none_there es i at (omega arith)

  module _ (test : K → Bool) where
    -- the key at the first place that passes does pass
    pub passes : (es : List (K × X)) (i : ℕ) (e : K × X) → position test (keys_of es) ≡ Some i → slice_get es i ≡ Some e → test e.0 ≡ true
    passes es i e first at = subst (λ (k : K). test k ≡ true) (key_there es i e.0 e at) (position-Some test (keys_of es) i e.0 first).1

    -- an entry stands there
    pub stands : (es : List (K × X)) (i : ℕ) → position test (keys_of es) ≡ Some i → slice_get es i ≡ None → ⊥
    stands [] i first at = let wrong : None ≡ Some i = first in absurd (cc)
    stands (x ∷ es) i first at = none_there (x ∷ es) i at (position-Some test (keys_of (x ∷ es)) i x.0 first).0

    -- and is found
    pub some_found : (es : List (K × X)) (i : ℕ) (e : K × X) → slice_get es i ≡ Some e → test e.0 ≡ true → is_some (lookup test es) ≡ true
    some_found [] i e at pass = let wrong : None ≡ Some e = at in absurd (cc)
    some_found (x ∷ es) zero e at pass =
        let same : x ≡ e = cc in
        let here : test x.0 ≡ true = subst (λ (p : K × X). test p.0 ≡ true) (sym same) pass in
        ap (λ (b : Bool). is_some (if b then Some x.1 else lookup test es)) here
    some_found (x ∷ es) (suc i) e at pass = by (some_found es i e at pass) (test x.0)
      where
        by : is_some (lookup test es) ≡ true → (b : Bool) → is_some (if b then Some x.1 else lookup test es) ≡ true
        by later true = refl
        by later false = later

    none_from : (es : List (K × X)) (n : ℕ) → position_from test n (keys_of es) ≡ None → lookup test es ≡ None
    none_from [] n none = refl
    none_from (x ∷ es) n none = by (none_from es (n + 1)) (test x.0) none
      where
        by : (position_from test (n + 1) (keys_of es) ≡ None → lookup test es ≡ None) → (b : Bool) → (if b then Some n else position_from test (n + 1) (keys_of es)) ≡ None
            → (if b then Some x.1 else lookup test es) ≡ None
        by later true is = let wrong : Some n ≡ None = is in absurd (cc)
        by later false is = later is

    -- where no key passes nothing is found
    pub absent : (es : List (K × X)) → position test (keys_of es) ≡ None → lookup test es ≡ None
    absent es none = none_from es 0 (sym (position_from-zero test (keys_of es)) ∙ none)
