-- Where a list of names has a name first.
use Rattle.std.proofs.Common.{◌≡◌, ◌⊎◌, inl, inr, ℕ, ◌+◌, suc, List, [], ◌∷◌, ◌++◌, length, Option, Some, None, Bool, true, false, cond, refl, sym, ap, ◌∙◌, subst, arith}
use Rattle.std.specs.Prelude.{position, ◌||◌, not, is_some, nat_lt}
use Rattle.std.specs.List.{position_or_len}
use Rattle.std.specs.Option.{option_map}
use Rattle.std.specs.Str.{bytes_eq}
use Rattle.std.proofs.lemmas.Bool.{or_parts, or_cases, lt-ltb, le-ltb}
use Rattle.std.proofs.lemmas.Slice.Eq.{bytes_eq-Decides}
use Rattle.std.proofs.lemmas.Bool.Decides.{same_from_decides}
use Rattle.wgsl_base.proofs.Members.{same_bytes}
use Rattle.core_validate.specs.Scopes.{Name, is_in}
use Rattle.core_validate.specs.Clearness.{is_before}

pub bytes_eq-comm : (x y : Name) → bytes_eq x y ≡ bytes_eq y x
bytes_eq-comm x y = same_from_decides (bytes_eq x y) (bytes_eq y x) (bytes_eq-Decides x y) ((λ e. sym (same_bytes y x e)), (λ e. (bytes_eq-Decides y x).1 (sym e)))

ltb-zero : (b : ℕ) → nat_lt 0 (suc b) ≡ true
ltb-zero b = lt-ltb 0 (suc b) (omega arith)

ltb-suc : (a b : ℕ) → nat_lt (1 + a) (suc b) ≡ nat_lt a b
ltb-suc a b = grind arith

-- a choice by a test, through a function
map_choice : (b : Bool) (n : ℕ) → cond b (Some (1 + n)) None ≡ option_map (λ n. 1 + n) (cond b (Some n) None)
map_choice true n = refl
map_choice false n = refl

pub position-cons : {X : Type 0} (p : X → Bool) (x : X) (xs : List X) → position p (x ∷ xs) ≡ cond (p x) (Some 0) (option_map (λ n. 1 + n) (position p xs))
position-cons p x xs = at (p x)
  where
    at : (b : Bool) →
        cond (nat_lt (cond (not b) (1 + position_or_len p xs) 0) (suc (length xs))) (Some (cond (not b) (1 + position_or_len p xs) 0)) None
        ≡ cond b (Some 0) (option_map (λ n. 1 + n) (position p xs))
    at true = ap (λ t. cond t (Some 0) None) (ltb-zero (length xs))
    at false = ap (λ t. cond t (Some (1 + position_or_len p xs)) None) (ltb-suc (position_or_len p xs) (length xs))
        ∙ map_choice (nat_lt (position_or_len p xs) (length xs)) (position_or_len p xs)

is_some-map : {X : Type 0} (f : X → X) (o : Option X) → is_some (option_map f o) ≡ is_some o
is_some-map f (Some x) = refl
is_some-map f None = refl

-- a name has a position exactly where it is among the names
pub is_some-position : (x : Name) (xs : List Name) → is_some (position (bytes_eq x) xs) ≡ is_in x xs
is_some-position x [] = refl
is_some-position x (y ∷ ys) =
    ap is_some (position-cons (bytes_eq x) y ys) ∙ at (is_some-position x ys) (bytes_eq x y)
  where
    at : is_some (position (bytes_eq x) ys) ≡ is_in x ys → (b : Bool)
        → is_some (cond b (Some 0) (option_map (λ n. 1 + n) (position (bytes_eq x) ys))) ≡ (b || is_in x ys)
    at h true = refl
    at h false = is_some-map (λ n. 1 + n) (position (bytes_eq x) ys) ∙ h

-- one more name, which was not there
pub position-push : (xs : List Name) (y x : Name) → is_in y xs ≡ false
    → position (bytes_eq x) (xs ++ y ∷ []) ≡ cond (bytes_eq y x) (Some (length xs)) (position (bytes_eq x) xs)
position-push [] y x new =
    position-cons (bytes_eq x) y [] ∙ ap (λ b. cond b (Some 0) None) (bytes_eq-comm x y)
position-push (z ∷ zs) y x new =
    position-cons (bytes_eq x) z (zs ++ y ∷ [])
    ∙ ap (λ o. cond (bytes_eq x z) (Some 0) (option_map (λ n. 1 + n) o)) (position-push zs y x (or_parts (bytes_eq y z) (is_in y zs) new).1)
    ∙ at (bytes_eq y x) refl
    ∙ sym (ap (λ o. cond (bytes_eq y x) (Some (suc (length zs))) o) (position-cons (bytes_eq x) z zs))
  where
    at : (b : Bool) → bytes_eq y x ≡ b →
        cond (bytes_eq x z) (Some 0) (option_map (λ n. 1 + n) (cond b (Some (length zs)) (position (bytes_eq x) zs)))
        ≡ cond b (Some (suc (length zs))) (cond (bytes_eq x z) (Some 0) (option_map (λ n. 1 + n) (position (bytes_eq x) zs)))
    at true e =
        ap (λ b. cond b (Some 0) (Some (1 + length zs))) (ap (λ t. bytes_eq t z) (sym (same_bytes y x e)) ∙ (or_parts (bytes_eq y z) (is_in y zs) new).0)
        ∙ ap Some (omega arith)
    at false e = refl

-- an element behind the list that doesn't pass
position-away : (p : Name → Bool) (xs : List Name) (y : Name) → p y ≡ false → position p (xs ++ y ∷ []) ≡ position p xs
position-away p [] y e = position-cons p y [] ∙ ap (λ b. cond b (Some 0) None) e
position-away p (z ∷ zs) y e =
    position-cons p z (zs ++ y ∷ []) ∙ ap (λ o. cond (p z) (Some 0) (option_map (λ n. 1 + n) o)) (position-away p zs y e) ∙ sym (position-cons p z zs)

-- one more name, which was there
pub position-again : (xs : List Name) (y x : Name) → is_in y xs ≡ true → position (bytes_eq x) (xs ++ y ∷ []) ≡ position (bytes_eq x) xs
position-again [] y x known = absurd (cc)
position-again (z ∷ zs) y x known =
    position-cons (bytes_eq x) z (zs ++ y ∷ [])
    ∙ at (or_cases (bytes_eq y z) (is_in y zs) known) (position-again zs y x) (bytes_eq x z) refl
    ∙ sym (position-cons (bytes_eq x) z zs)
  where
    at : (bytes_eq y z ≡ true) ⊎ (is_in y zs ≡ true) → (is_in y zs ≡ true → position (bytes_eq x) (zs ++ y ∷ []) ≡ position (bytes_eq x) zs)
        → (b : Bool) → bytes_eq x z ≡ b
        → cond b (Some 0) (option_map (λ n. 1 + n) (position (bytes_eq x) (zs ++ y ∷ []))) ≡ cond b (Some 0) (option_map (λ n. 1 + n) (position (bytes_eq x) zs))
    at known more true e = refl
    at (inl same) more false e =
        ap (option_map (λ n. 1 + n)) (position-away (bytes_eq x) zs y (subst (λ w. bytes_eq x w ≡ false) (sym (same_bytes y z same)) e))
    at (inr there) more false e = ap (option_map (λ n. 1 + n)) (more there)

-- a name stands before the end of the first names exactly where it is among them
pub is_before-position : (x : Name) (before rest : List Name) → is_before (length before) (position (bytes_eq x) (before ++ rest)) ≡ is_in x before
is_before-position x [] rest = none (position (bytes_eq x) rest)
  where
    none : (o : Option ℕ) → is_before 0 o ≡ false
    none None = refl
    none (Some n) = le-ltb n 0 (omega arith)
is_before-position x (y ∷ ys) rest =
    ap (is_before (suc (length ys))) (position-cons (bytes_eq x) y (ys ++ rest)) ∙ at (bytes_eq x y) (is_before-position x ys rest)
  where
    moved : (o : Option ℕ) → is_before (suc (length ys)) (option_map (λ n. 1 + n) o) ≡ is_before (length ys) o
    moved None = refl
    moved (Some n) = ltb-suc n (length ys)

    at : (b : Bool) → is_before (length ys) (position (bytes_eq x) (ys ++ rest)) ≡ is_in x ys
        → is_before (suc (length ys)) (cond b (Some 0) (option_map (λ n. 1 + n) (position (bytes_eq x) (ys ++ rest)))) ≡ (b || is_in x ys)
    at true h = ltb-zero (length ys)
    at false h = moved (position (bytes_eq x) (ys ++ rest)) ∙ h

-- what a look-up of an index says of the names that it holds
pub known_from : (look : Name → Option ℕ) (names : List Name) (x y : Name) (b : Bool) → x ≡ y
    → ((q : Name) → look q ≡ position (bytes_eq q) names) → is_some (look x) ≡ b → is_in y names ≡ b
known_from look names x y b same is found =
    sym (is_some-position y names) ∙ sym (ap is_some (is y)) ∙ ap (λ q. is_some (look q)) (sym same) ∙ found
