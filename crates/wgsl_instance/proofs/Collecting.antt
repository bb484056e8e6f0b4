-- Values collected one after the other.
use Rattle.std.proofs.Common.{◌≡◌, refl, sym, ap, ◌∙◌, List, [], ◌∷◌, ◌++◌, Result, Ok, Err, append_assoc, append-nil}
use Rattle.wgsl_shader_type.specs.declared.error.Error.{Error}
use Rattle.wgsl_instance.specs.Answer.{then_with, collected, prefixed, IsCollecting}

module _ {A B : Type 0} (f : A → Result B Error) where
  from_none : (r : Result (List B) Error) → r ≡ prefixed [] r
  from_none (Ok ys) = refl
  from_none (Err e) = refl

  pub collecting_begins : (xs : List A) → IsCollecting f xs [] xs
  collecting_begins xs = from_none (collected f xs)

  further : (done : List B) (y : B) (r : Result (List B) Error) → prefixed done (then_with r (λ ys. Ok (y ∷ ys))) ≡ prefixed (done ++ y ∷ []) r
  further done y (Ok ys) = ap Ok (sym (append_assoc done (y ∷ []) ys))
  further done y (Err e) = refl

  pub collecting_goes_on : (xs : List A) (done : List B) (x : A) (left : List A) (y : B) → f x ≡ Ok y → IsCollecting f xs done (x ∷ left) → IsCollecting f xs (done ++ y ∷ []) left
  collecting_goes_on xs done x left y e h =
      h ∙ ap (λ r. prefixed done (then_with r (λ y. then_with (collected f left) (λ ys. Ok (y ∷ ys))))) e ∙ further done y (collected f left)

  pub collecting_fails : (xs : List A) (done : List B) (x : A) (left : List A) (e : Error) → f x ≡ Err e → IsCollecting f xs done (x ∷ left) → collected f xs ≡ Err e
  collecting_fails xs done x left e fault h = h ∙ ap (λ r. prefixed done (then_with r (λ y. then_with (collected f left) (λ ys. Ok (y ∷ ys))))) fault

  pub collecting_ends : (xs : List A) (done : List B) → IsCollecting f xs done [] → collected f xs ≡ Ok done
  collecting_ends xs done h = h ∙ ap Ok (append-nil done)
