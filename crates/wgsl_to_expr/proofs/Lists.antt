-- Parts one after another, and what is written for each.
use Rattle.std.proofs.Common.{◌≡◌, refl, sym, ap, ◌∙◌, ℕ, List, [], ◌∷◌, ◌++◌, ◌+◌, ◌<◌, length, drop, get_or, map, Option, Some, None, option_map, append_assoc}
use Rattle.std.proofs.lemmas.List.{append-nil, at_drop_more}
use Rattle.wgsl_to_expr.specs.Written.{all_of}

-- what is written for all, where this much was written and these are left
abbrev pub left : {A B : Type 0} → (A → Option B) → List B → List A → Option (List B)
left f done xs = option_map (λ rest. done ++ rest) (all_of (map f xs))

pub left_none : {A B : Type 0} → (f : A → Option B) (xs : List A) → left f [] xs ≡ all_of (map f xs)
left_none {A} {B} f xs = by_option (all_of (map f xs))
  where
    by_option : (o : Option (List B)) → option_map (λ rest. [] ++ rest) o ≡ o
    by_option None = refl
    by_option (Some ys) = refl

pub left_all : {A B : Type 0} → (f : A → Option B) (done : List B) → left f done [] ≡ Some done
left_all f done = ap Some (append-nil done)

pub left_more : {A B : Type 0} → (f : A → Option B) (done : List B) (x : A) (xs : List A) (y : B) → f x ≡ Some y → left f done (x ∷ xs) ≡ left f (done ++ y ∷ []) xs
left_more {A} {B} f done x xs y is = rw is (by_option (all_of (map f xs)))
  where
    by_option : (o : Option (List B)) → option_map (λ rest. done ++ rest) (option_map (λ ys. y ∷ ys) o) ≡ option_map (λ rest. (done ++ y ∷ []) ++ rest) o
    by_option None = refl
    by_option (Some ys) = ap Some (sym (append_assoc done (y ∷ []) ys))

pub left_fault : {A B : Type 0} → (f : A → Option B) (done : List B) (x : A) (xs : List A) → f x ≡ None → left f done (x ∷ xs) ≡ None
left_fault f done x xs is = rw is refl

-- the same at a place of a list
pub item_taken : {A B : Type 0} → (f : A → Option B) (done : List B) (xs : List A) (i : ℕ) (x : A) (y : B) → i < length xs → x ≡ get_or xs i x → f x ≡ Some y
    → left f done (drop i xs) ≡ left f (done ++ y ∷ []) (drop (i + 1) xs)
item_taken f done xs i x y within item is =
    at_drop_more (left f done) xs i x within ∙ ap (λ w. left f done (w ∷ drop (i + 1) xs)) (sym item) ∙ left_more f done x (drop (i + 1) xs) y is

pub item_refused : {A B : Type 0} → (f : A → Option B) (done : List B) (xs : List A) (i : ℕ) (x : A) → i < length xs → x ≡ get_or xs i x → f x ≡ None
    → left f done (drop i xs) ≡ None
item_refused f done xs i x within item is =
    at_drop_more (left f done) xs i x within ∙ ap (λ w. left f done (w ∷ drop (i + 1) xs)) (sym item) ∙ left_fault f done x (drop (i + 1) xs) is
