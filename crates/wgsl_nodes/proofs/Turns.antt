-- Steps over a list, seen as other steps, and a case of an option.
use Rattle.std.proofs.Common.{◌≡◌, subst, List, [], ◌∷◌, Bool, Option, Some, MatchOption}
use Rattle.std.specs.List.Retain.{RetainsInTurn}

pub in_turn : {S T X : Type 0} (R : S → X → Bool → S → X → Type 0) (Q : T → X → Bool → T → X → Type 0) (at : S → T)
    → ((s : S) (x : X) (b : Bool) (t : S) (y : X) → R s x b t y → Q (at s) x b (at t) y)
    → (s : S) (xs ys : List X) → RetainsInTurn R s xs ys → RetainsInTurn Q (at s) xs ys
in_turn R Q at says s [] ys h = h
in_turn R Q at says s (x ∷ xs) ys h =
    (h.0, at h.1, h.2, says s x h.0 h.1 h.2 h.3, h.4, in_turn R Q at says h.1 xs h.4 h.5, h.6)

pub at_some : {A : Type 0} (P : Type 0) (Q : A → Type 0) (o : Option A) (x : A) → Some x ≡ o → Q x → MatchOption o P Q
at_some P Q o x is holds = subst (λ o. MatchOption o P Q) is holds
