-- Tests of lists and of values that may be absent, from those of what they hold.
use Rattle.std.proofs.Common.{◌≡◌, refl, sym, ap, subst, Bool, true, false, ◌&&◌, List, [], ◌∷◌, map, Option, Some, None, true≢false}
use Rattle.std.specs.Bool.{Decides}
use Rattle.std.specs.Option.{option_eq, option_map}
use Rattle.std.specs.Cmp.{first_so, second_so}
use Rattle.std.specs.Cmp.Lexicographic.{pointwise}
use Rattle.std.proofs.lemmas.Slice.Eq.{slice_eq-Decides}

-- ---- what a test of parts decides

module _ {A : Type 0} (E : A → A → Bool) (decides : (x y : A) → Decides (E x y) (x ≡ y)) where
  pub option_decides : (x y : Option A) → Decides (option_eq E x y) (x ≡ y)
  option_decides x y = (found x y, λ same. subst (λ z. option_eq E x z ≡ true) same (itself x))
    where
      found : (x y : Option A) → option_eq E x y ≡ true → x ≡ y
      found None None h = refl
      found None (Some y) h = absurd (true≢false (sym h))
      found (Some x) None h = absurd (true≢false (sym h))
      found (Some x) (Some y) h = ap Some ((decides x y).0 h)

      itself : (x : Option A) → option_eq E x x ≡ true
      itself None = refl
      itself (Some x) = (decides x x).1 refl

  pub list_decides : (xs ys : List A) → Decides (pointwise E xs ys) (xs ≡ ys)
  list_decides xs ys = slice_eq-Decides decides xs ys (pointwise E xs ys) refl

-- ---- tests that agree on what parts stand for

module _ {A B : Type 0} (E : A → A → Bool) (T : B → B → Bool) (f : A → B) (agree : (x y : A) → E x y ≡ T (f x) (f y)) where
  pub options_agree : (x y : Option A) → option_eq E x y ≡ option_eq T (option_map f x) (option_map f y)
  options_agree None None = refl
  options_agree None (Some y) = refl
  options_agree (Some x) None = refl
  options_agree (Some x) (Some y) = agree x y

  pub lists_agree : (xs ys : List A) → pointwise E xs ys ≡ pointwise T (map f xs) (map f ys)
  lists_agree [] [] = refl
  lists_agree [] (y ∷ ys) = refl
  lists_agree (x ∷ xs) [] = refl
  lists_agree (x ∷ xs) (y ∷ ys) = λ i. agree x y i && lists_agree xs ys i

-- ---- lists and values that may be absent stand for the same, where what they hold does

module _ {A B : Type 0} (E : A → A → Bool) (f : A → B) (one_true : (x y : A) → E x y ≡ true → f x ≡ f y) where
  pub options_true : (x y : Option A) → option_eq E x y ≡ true → option_map f x ≡ option_map f y
  options_true None None h = refl
  options_true None (Some y) h = absurd (true≢false (sym h))
  options_true (Some x) None h = absurd (true≢false (sym h))
  options_true (Some x) (Some y) h = ap Some (one_true x y h)

  pub lists_true : (xs ys : List A) → pointwise E xs ys ≡ true → map f xs ≡ map f ys
  lists_true [] [] h = refl
  lists_true [] (y ∷ ys) h = absurd (true≢false (sym h))
  lists_true (x ∷ xs) [] h = absurd (true≢false (sym h))
  lists_true (x ∷ xs) (y ∷ ys) h = λ i. one_true x y (first_so (E x y) (pointwise E xs ys) h) i ∷ lists_true xs ys (second_so (E x y) (pointwise E xs ys) h) i

abbrev is_empty : {A : Type 0} → List A → Bool
is_empty [] = true
is_empty (x ∷ xs) = false

abbrev first_or : {A : Type 0} → A → List A → A
first_or d [] = d
first_or d (x ∷ xs) = x

abbrev behind_first : {A : Type 0} → List A → List A
behind_first [] = []
behind_first (x ∷ xs) = xs

-- ---- lists are equal where they stand for the same, where what they hold is

module _ {A B : Type 0} (E : A → A → Bool) (f : A → B) (one_equal : (x y : A) → f x ≡ f y → E x y ≡ true) where
  pub lists_equal : (xs ys : List A) → map f xs ≡ map f ys → pointwise E xs ys ≡ true
  lists_equal [] [] same = refl
  lists_equal [] (y ∷ ys) same = absurd (true≢false (ap is_empty same))
  lists_equal (x ∷ xs) [] same = absurd (true≢false (sym (ap is_empty same)))
  lists_equal (x ∷ xs) (y ∷ ys) same = λ i. one_equal x y (ap (first_or (f x)) same) i && lists_equal xs ys (ap behind_first same) i
