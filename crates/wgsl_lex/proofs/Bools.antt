-- Tests.
use Rattle.std.proofs.Common.{◌≡◌, ℕ, zero, suc, ◌<◌, Bool, true, false, not, ◌&&◌, ◌||◌, ◌==◌, refl, ◌∙◌, ap, arith}
use Rattle.std.proofs.lemmas.Bool.Decides.{Decides-eqb}
use Rattle.wgsl_base.proofs.Bools.{and_both as both, false_if as fails}

pub not_both : (b : Bool) → b ≡ true → b ≡ false → ⊥
not_both b t f = cc

pub and_false : (b : Bool) → (b && false) ≡ false
and_false true = refl
and_false false = refl

pub and_true : (b : Bool) → (b && true) ≡ b
and_true true = refl
and_true false = refl

pub or_true : (b : Bool) → (b || true) ≡ true
or_true true = refl
or_true false = refl

pub is_number : (a b : ℕ) → (a == b) ≡ true → a ≡ b
is_number a b e = (Decides-eqb a b).0 e

-- a number that passes what one fails is not that one
pub differs : (p : ℕ → Bool) (a b : ℕ) → p a ≡ true → p b ≡ false → (a == b) ≡ false
differs p a b passes fail = fails (a == b) (λ same. let e : a ≡ b = is_number a b same in not_both (p a) passes (ap p e ∙ fail))

pub implies : (a b : Bool) → (not a || b) ≡ true → a ≡ true → b ≡ true
implies true b e _ = e
implies false b e h = cc

abbrev pub all_below : (ℕ → Bool) → ℕ → Bool
all_below p zero = true
all_below p (suc n) = p n && all_below p n

pub below_passes : (p : ℕ → Bool) (n c : ℕ) → all_below p n ≡ true → c < n → p c ≡ true
below_passes p zero c all h = absurd (omega arith)
below_passes p (suc n) c all h =
    elim (c == n) as (λ b. (c == n) ≡ b → p c ≡ true) [
      | true ↦ λ same. ap p (is_number c n same) ∙ (both (p n) (all_below p n) all).0
      | false ↦ λ other. let differ : c ≡ n → ⊥ = λ e. not_both (c == n) ((Decides-eqb c n).1 e) other in below_passes p n c (both (p n) (all_below p n) all).1 (omega arith)
    ] refl

-- tests of parts of what fails
pub covered : (a b d p q : Bool) → (a && (b || d)) ≡ false → (a && ((b && p) || (d && q))) ≡ false
covered false b d p q e = refl
covered true true d p q e = cc
covered true false true p q e = cc
covered true false false p q e = refl

pub covered_word : (s u k r : Bool) → s ≡ false → (u && k) ≡ false → ((s || u) && (k && r)) ≡ false
covered_word true u k r e f = cc
covered_word false false k r e f = refl
covered_word false true true r e f = cc
covered_word false true false r e f = refl

pub neither : (a b : Bool) → (a || b) ≡ false → (a ≡ false) × (b ≡ false)
neither true b e = cc
neither false b e = (refl, e)
