-- Pieces, one behind the other.
use Rattle.std.proofs.Common.{◌≡◌, ◌∙◌, refl, sym, ap, ◌<◌, List, [], ◌∷◌, ◌++◌, length, arith}
use Rattle.std.proofs.lemmas.List.{append_assoc, append-nil}
use Rattle.wgsl_base.specs.Queues.{behind, flattened}

pub flattened_more : {X : Type 0} (ps : List (List X)) (xs : List X) → flattened (ps ++ xs ∷ []) ≡ flattened ps ++ xs
flattened_more [] xs = append-nil xs
flattened_more (p ∷ ps) xs = ap (λ l. p ++ l) (flattened_more ps xs) ∙ sym (append_assoc p (flattened ps) xs)

pub behind_is : {X : Type 0} (xs : List X) (ps : List (List X)) → 0 < length xs → behind xs ps ≡ xs ++ flattened ps
behind_is [] ps some = absurd (omega (arith, some))
behind_is (x ∷ xs) ps some = refl

pub flattened_empty : {X : Type 0} (xs : List X) (ps : List (List X)) → (0 < length xs → ⊥) → flattened (xs ∷ ps) ≡ flattened ps
flattened_empty [] ps none = refl
flattened_empty (x ∷ xs) ps none = absurd (none (omega arith))
