-- What the test of a list's length says of the list.
use Rattle.std.proofs.Common.{◌≡◌, refl, sym, ap, ◌∙◌, ◌==◌, true, false, List, [], ◌∷◌, length, true≢false, eqb-true, arith}

pub empty_if : {A : Type 0} (xs : List A) → true ≡ (length xs == 0) → xs ≡ []
empty_if [] h = refl
empty_if (x ∷ xs) h = let e = eqb-true (length (x ∷ xs)) 0 (sym h) in absurd (omega arith)

pub full_if : {A : Type 0} (xs : List A) → false ≡ (length xs == 0) → xs ≡ [] → ⊥
full_if xs h e = true≢false (sym (h ∙ ap (λ l. length l == 0) e))
