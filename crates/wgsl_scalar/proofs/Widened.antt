-- What code computes in 128 bits of numbers of 64 is exact.
use Rattle.std.proofs.Common.{◌≡◌, ℕ, zero, suc, ◌/◌, ◌^◌, ◌≤◌, Bool, true, false, refl, sym, ap, ◌∙◌, arith, rules, to_z, of_z, ℤ, pos, negsuc, ◌-ℤ◌, ◌*ℤ◌, neg_ℤ}
use Rattle.std.specs.Prelude.{unsigned_abs, int_div, int_rem, is_some, Some, None, if◌then◌else◌}
use Rattle.std.specs.Int.{w32, w64, w128, int_wrap, int_rem_euclid, cast_signed}
use Rattle.std.proofs.lemmas.Int.{to_z-of_z, quot_is, rem_is, fits_signed_mul}
use native.Mathlib.Nat.{div-le_self}
use lib.Signed.{mag}
use mir.Val.{SFits}
use Rattle.wgsl_scalar.specs.declared.scalar.IntegerType.{IntegerType}
use Rattle.wgsl_scalar.specs.Scalars.{fits}
use Rattle.wgsl_scalar.specs.Operators.{divides}

pub widened : (z : ℤ) → SFits w64 z → SFits w128 z
widened z f = record { sfits = omega (arith, f.sfits) }

mag-neg : (n : ℕ) → mag (neg_ℤ (pos n)) ≤ n
mag-neg zero = omega arith
mag-neg (suc n) = omega arith

quotient_fits : (a d : ℤ) → SFits w64 a → SFits w128 (int_div a d)
quotient_fits (pos a) (pos b) f = record { sfits = omega (arith, div-le_self a b, f.sfits) }
quotient_fits (pos a) (negsuc b) f = record { sfits = omega (arith, mag-neg (a / suc b), div-le_self a (suc b), f.sfits) }
quotient_fits (negsuc a) (pos b) f = record { sfits = omega (arith, mag-neg (suc a / b), div-le_self (suc a) b, f.sfits) }
quotient_fits (negsuc a) (negsuc b) f = record { sfits = omega (arith, div-le_self (suc a) (suc b), f.sfits) }

-- a number in its 128 bits
abbrev pub Held : ℤ → ℤ
Held z = to_z w128 (of_z w128 z)

pub held : (z : ℤ) → SFits w64 z → Held z ≡ z
held z f = to_z-of_z w128 z (widened z f)

pub held_quotient : (a d : ℤ) → SFits w64 a → SFits w64 d → Held (int_div (Held a) (Held d)) ≡ int_div a d
held_quotient a d f g = quot_is w128 a d (widened a f) (widened d g) (quotient_fits a d f)

pub held_remainder : (a d : ℤ) → SFits w64 a → SFits w64 d → Held (int_rem (Held a) (Held d)) ≡ int_rem a d
held_remainder a d f g = rem_is w128 a d (widened a f) (widened d g)

pub held_difference : (a b : ℤ) → SFits w64 a → SFits w64 b → Held (Held a -ℤ Held b) ≡ a -ℤ b
held_difference a b f g =
    let fit : SFits w128 (a -ℤ b) = search rules in
    ap (λ x. Held (x -ℤ Held b)) (held a f) ∙ ap (λ x. Held (a -ℤ x)) (held b g) ∙ to_z-of_z w128 (a -ℤ b) fit

abs_within : (z : ℤ) → SFits w64 z → unsigned_abs z ≤ 2 ^ 63
abs_within (pos n) f = omega (arith, f.sfits)
abs_within (negsuc n) f = omega (arith, f.sfits)

pub held_product : (a b : ℤ) → SFits w64 a → SFits w64 b → Held (Held a *ℤ Held b) ≡ a *ℤ b
held_product a b f g =
    let fit : SFits w128 (a *ℤ b) = fits_signed_mul w128 a b (2 ^ 63) (2 ^ 63) (abs_within a f) (abs_within b g) (omega arith) in
    ap (λ x. Held (x *ℤ Held b)) (held a f) ∙ ap (λ x. Held (a *ℤ x)) (held b g) ∙ to_z-of_z w128 (a *ℤ b) fit

pub divides_at : (t : IntegerType) (a b : ℤ) → (of_z w128 b ≡ 0 → ⊥) → divides t a b ≡ fits t (int_div a b)
divides_at t a (pos zero) h = absurd (h refl)
divides_at t a (pos (suc b)) h = refl
divides_at t a (negsuc b) h = refl

pub wraps_so : (n : ℕ) (z : ℤ) → n ≡ unsigned_abs (int_rem_euclid z (pos (2 ^ 32))) → cast_signed w32 n ≡ int_wrap w32 z
unfolding int_wrap
wraps_so n z e = ap (cast_signed w32) e

pub is_some-if : {A : Type 0} (b : Bool) (v : A) → is_some (if b then Some v else None) ≡ b
is_some-if true v = refl
is_some-if false v = refl

pub chosen : {A : Type 0} (b : Bool) (r x y : A) → b ≡ true → r ≡ x → r ≡ (if b then x else y)
chosen b r x y e h = h ∙ ap (λ c. if c then x else y) (sym e)

pub divides_held : (t : IntegerType) (a b : ℤ) (r : Bool) → SFits w64 a → SFits w64 b → r ≡ divides t (Held a) (Held b) → r ≡ true → divides t a b ≡ true
divides_held t a b r f g e h = ap (λ x. divides t x b) (sym (held a f)) ∙ ap (λ x. divides t (Held a) x) (sym (held b g)) ∙ sym e ∙ h
