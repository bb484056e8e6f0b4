-- Text that is written piece by piece.
use Rattle.std.proofs.Common.{◌≡◌, ◌∙◌, refl, sym, subst, List, ℕ, [], ◌++◌, append_assoc, append-nil}
use Rattle.std.specs.declared.fmt.Formatter.{Formatter}
use Rattle.std.specs.Fmt.{HasWritten, IsPlainFormatter}
use Rattle.std.proofs.lemmas.Grind.{put_two}

-- of all that is to be written, something was, and the rest is left
pub record IsUnderWay {W : Type 0} (took : W → List ℕ → W → Type 0) (f : Formatter W) (all : List ℕ) (g : Formatter W) (rest : List ℕ) : Type 0 where
  pub done : List ℕ
  pub wrote : HasWritten took f done g
  pub is : done ++ rest ≡ all

module _ {W : Type 0} (took : W → List ℕ → W → Type 0) where
  pub begins : (f : Formatter W) (all : List ℕ) → IsPlainFormatter f → IsUnderWay took f all f all
  begins f all plain = record { done = []; wrote = record { wrote = record { parts = []; calls = refl; whole = refl }; plain = plain }; is = refl }

  pub goes_on : (f g h : Formatter W) (all a rest left : List ℕ) → IsUnderWay took f all g left → left ≡ a ++ rest → HasWritten took g a h → IsUnderWay took f all h rest
  goes_on f g h all a rest left u e w =
      record { done = u.done ++ a; wrote = put_two took f g h u.done a (u.done ++ a) u.wrote w refl; is = append_assoc u.done a rest ∙ subst (λ l. u.done ++ l ≡ all) e u.is }

  pub ends : (f g : Formatter W) (all rest : List ℕ) → IsUnderWay took f all g rest → rest ≡ [] → HasWritten took f all g
  ends f g all rest u e = subst (λ l. HasWritten took f l g) (sym (append-nil u.done) ∙ subst (λ l. u.done ++ l ≡ all) e u.is) u.wrote
