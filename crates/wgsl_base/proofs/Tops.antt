-- The last element of a list is the uppermost of the stack.
use Rattle.std.proofs.Common.{◌≡◌, ◌∙◌, refl, sym, ap, subst, ℕ, ◌-◌, List, [], ◌∷◌, ◌++◌, length, length-append, reverse, arith}
use Rattle.std.proofs.Math.ListN.{set}
use Rattle.std.proofs.Math.Seq.{set-append_seam}
use Rattle.std.proofs.lemmas.List.{reverse-append, reverse-reverse, length-reverse}
use Rattle.std.proofs.lemmas.Grind.{reverse_onto}
use Rattle.std.proofs.Common.{Option, Some, None, get_or, ◌<◌, MutBor}
use Rattle.std.specs.Option.{option_copied_mut, IsSome, IfSome}
use Rattle.std.proofs.lemmas.List.{get_or-reverse}
use Rattle.wgsl_base.specs.Tops.{first, second, with_first}

set_last : {X : Type 0} (xs : List X) (x w : X) → reverse (set (xs ++ x ∷ []) (length xs) w) ≡ w ∷ reverse xs
set_last xs x w = ap reverse (set-append_seam xs x [] w) ∙ reverse-append xs (w ∷ [])

-- The last element stands at the end of the reversed list.
with_last : {X : Type 0} (xs : List X) (w : X) → reverse (set (reverse xs) (length (reverse xs) - 1) w) ≡ with_first xs w
with_last [] w = refl
with_last {X} (x ∷ xs) w =
    let P : List X → Type 0 = λ l. reverse (set l (length l - 1) w) ≡ w ∷ xs in
    let e : length (reverse xs ++ x ∷ []) - 1 ≡ length (reverse xs) = omega (arith, length-append (reverse xs) (x ∷ [])) in
    subst P (sym (reverse_onto xs x []))
    (ap (λ n. reverse (set (reverse xs ++ x ∷ []) n w)) e ∙ set_last (reverse xs) x w ∙ ap (λ l. w ∷ l) (reverse-reverse xs))

pub reverse_set_last : {X : Type 0} (xs : List X) (n : ℕ) (w : X) → n ≡ length xs → reverse (set xs (n - 1) w) ≡ with_first (reverse xs) w
reverse_set_last {X} xs n w is =
    let P : List X → Type 0 = λ l. reverse (set l (length l - 1) w) ≡ with_first (reverse xs) w in
    ap (λ k. reverse (set xs (k - 1) w)) is ∙ subst P (reverse-reverse xs) (with_last (reverse xs) w)

first_at : {X : Type 0} (xs : List X) (d : X) → 0 < length xs → first xs ≡ Some (get_or xs 0 d)
first_at [] d within = absurd (omega (arith, within))
first_at (x ∷ xs) d within = refl

first_last : {X : Type 0} (xs : List X) (n : ℕ) (d : X) → n ≡ length xs → 0 < n → first (reverse xs) ≡ Some (get_or xs (n - 1) d)
first_last xs n d is within =
    let some : 0 < length xs = omega (arith, is, within) in
    let all : 0 < length (reverse xs) = omega (arith, some, length-reverse xs) in
    let at : length xs - 1 - 0 ≡ n - 1 = omega (arith, is) in
    first_at (reverse xs) d all ∙ ap Some (get_or-reverse xs 0 d some ∙ ap (λ k. get_or xs k d) at)

pub copied_last : {X : Type 0} (r : Option (MutBor X)) (xs : List X) (n : ℕ) → n ≡ length xs → (IsSome r → 0 < n) → (0 < n → IsSome r)
    → IfSome r (λ x. x.now ≡ get_or xs (n - 1) x.now) → option_copied_mut r ≡ first (reverse xs)
copied_last None [] n is some none at = refl
copied_last {X} None (x ∷ xs) n is some none at = let h : IsSome {T = MutBor X} None = none (omega (arith, is)) in absurd cc
copied_last (Some r) xs n is some none at = ap Some at ∙ sym (first_last xs n r.now is (some refl))

second_at : {X : Type 0} (xs : List X) (d : X) → 1 < length xs → second xs ≡ Some (get_or xs 1 d)
second_at [] d within = absurd (omega (arith, within))
second_at (x ∷ []) d within = absurd (omega (arith, within))
second_at (x ∷ y ∷ xs) d within = refl

pub below_last : {X : Type 0} (xs : List X) (d : X) → 1 < length xs → second (reverse xs) ≡ Some (get_or xs (length xs - 2) d)
below_last xs d within =
    let all : 1 < length (reverse xs) = omega (arith, within, length-reverse xs) in
    let at : length xs - 1 - 1 ≡ length xs - 2 = omega arith in
    second_at (reverse xs) d all ∙ ap Some (get_or-reverse xs 1 d within ∙ ap (λ k. get_or xs k d) at)
