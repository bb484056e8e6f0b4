-- Rounding up to a multiple, and the small steps of layouts.
use Rattle.std.proofs.Common.{◌≡◌, refl, sym, ap, ◌∙◌, subst, ℕ, ◌+◌, ◌-◌, ◌*◌, ◌/◌, ◌^◌, ◌<◌, ◌≤◌, ⊎_elim, cond, true, false, Bool, Option, Some, None, true≢false, arith, nat_lt}
use Rattle.std.specs.Option.{is_some}
use Rattle.std.proofs.Math.Nat.{mul-le-mul_left}
use borrow.Author.Tests.{ltb-true, lt-ltb}
use Rattle.std.proofs.lemmas.Bool.{cases_lt}
use Rattle.wgsl_shader_type.specs.Layout.{IsRoundedUp, Fits}
use Rattle.wgsl_shader_type.specs.LayoutOf.{◌>>=◌, nonzero, within, rounded}

abbrev pub round_up : ℕ → ℕ → ℕ
round_up align place = ((place + align - 1) / align) * align

pub rounds : (align place : ℕ) → 0 < align → IsRoundedUp align place (round_up align place)
rounds align place positive =
    let steps = (place + align - 1) / align in
    record {
      multiple = record { times = steps; equal = refl };
      past = omega arith;
      least = λ m multiple past. ⊎_elim
          (λ (below : multiple.times < steps). omega (arith, multiple.equal, mul-le-mul_left {m = multiple.times + 1} {n = steps} align (omega arith)))
          (λ (above : steps ≤ multiple.times). omega (arith, multiple.equal, mul-le-mul_left {m = steps} {n = multiple.times} align above))
          (cases_lt multiple.times steps);
    }

-- a place is rounded up to one number
pub rounded_once : (align place m n : ℕ) → IsRoundedUp align place m → IsRoundedUp align place n → m ≡ n
rounded_once align place m n p q = let a = p.least n q.multiple q.past in let b = q.least m p.multiple p.past in omega arith

-- what a step that may give nothing says where it gives something
pub bound : {A B : Type 0} (o : Option A) (f : A → Option B) (n : B) → (o >>= f) ≡ Some n → (x : A) × (o ≡ Some x) × (f x ≡ Some n)
bound None f n h = absurd (true≢false (sym (ap is_some h)))
bound (Some x) f n h = (x, refl, h)

tested : {A : Type 0} (test : Bool) (x n : A) → cond test (Some x) None ≡ Some n → (test ≡ true) × (x ≡ n)
tested true x n h = (refl, cc)
tested false x n h = absurd (true≢false (sym (ap is_some h)))

pub fits_if_within : (x n : ℕ) → within x ≡ Some n → Fits x × (x ≡ n)
fits_if_within x n h = let t = tested (nat_lt x (2 ^ 32)) x n h in (ltb-true x (2 ^ 32) t.0, t.1)

pub within_if_fits : (x : ℕ) → Fits x → within x ≡ Some x
within_if_fits x h = ap (λ t. cond t (Some x) None) (lt-ltb x (2 ^ 32) h)

pub positive_if_nonzero : (x n : ℕ) → nonzero x ≡ Some n → (0 < x) × (x ≡ n)
positive_if_nonzero x n h = let t = tested (nat_lt 0 x) x n h in (ltb-true 0 x t.0, t.1)

pub nonzero_if_positive : (x : ℕ) → 0 < x → nonzero x ≡ Some x
nonzero_if_positive x h = ap (λ t. cond t (Some x) None) (lt-ltb 0 x h)

pub rounded_if : (align place n : ℕ) → 0 < align → IsRoundedUp align place n → Fits n → rounded align place ≡ Some n
rounded_if align place n positive h fits =
    let e : round_up align place ≡ n = rounded_once align place (round_up align place) n (rounds align place positive) h in
    ap within e ∙ within_if_fits n fits

pub rounds_if : (align place n : ℕ) → 0 < align → rounded align place ≡ Some n → IsRoundedUp align place n × Fits n
rounds_if align place n positive h =
    let w = fits_if_within (round_up align place) n h in
    (subst (IsRoundedUp align place) w.1 (rounds align place positive), subst Fits w.1 w.0)
