-- One character on.
use Rattle.std.proofs.Common.{◌≡◌, ◌∙◌, refl, ap, sym, subst, ℕ, suc, ◌+◌, ◌-◌, ◌≤◌, Bool, true, false, if◌then◌else◌, List, ◌∷◌, arith}
use Rattle.std.specs.Char.{len_utf8}
use Rattle.std.proofs.lemmas.Bool.{le-leb}
use Rattle.wgsl_parse.specs.Places.{Place, ends_line, next, onward}

abbrev moved_if : Bool → Place → ℕ → List ℕ → Place
moved_if b p c behind =
    if b then record { line = suc p.line; column = 0; offset = p.offset + len_utf8 c; from = behind; rest = behind }
    else record { line = p.line; column = suc p.column; offset = p.offset + len_utf8 c; from = p.from; rest = behind }

rest_if : (b : Bool) (p : Place) (c : ℕ) (behind : List ℕ) → (moved_if b p c behind).rest ≡ behind
rest_if true p c behind = refl
rest_if false p c behind = refl

pub onward_step : (p q : Place) (n w c : ℕ) (behind : List ℕ) → p.rest ≡ c ∷ behind → w ≡ len_utf8 c → w ≤ n → q ≡ next p c behind → onward q (n - w) q.rest ≡ onward p n p.rest
onward_step p q n w c behind e width le is =
    ap (onward q (n - w)) (ap (λ x. x.rest) is ∙ rest_if (ends_line c behind) p c behind)
    ∙ ap (λ x. onward x (n - w) behind) is
    ∙ ap (λ k. onward (next p c behind) (n - k) behind) width
    ∙ sym (ap (λ z. if z then onward (next p c behind) (n - len_utf8 c) behind else p) (le-leb (len_utf8 c) n (subst (λ k. k ≤ n) width le)))
    ∙ sym (ap (onward p n) e)

-- the bytes that are left bound each count
pub record IsWithin (start n : ℕ) (p : Place) : Type 0 where
  pub line : p.line + n ≤ start
  pub column : p.column + n ≤ start
  pub offset : p.offset + n ≤ start

within_if : (b : Bool) (start n w c : ℕ) (p : Place) (behind : List ℕ) → 1 ≤ w → w ≡ len_utf8 c → w ≤ n → IsWithin start n p → IsWithin start (n - w) (moved_if b p c behind)
within_if true start n w c p behind some width le h = record { line = omega (arith, h.line); column = omega (arith, h.column); offset = omega (arith, h.offset) }
within_if false start n w c p behind some width le h = record { line = omega (arith, h.line); column = omega (arith, h.column); offset = omega (arith, h.offset) }

pub within_step : (start n w c : ℕ) (p q : Place) (behind : List ℕ) → 1 ≤ w → w ≡ len_utf8 c → w ≤ n → q ≡ next p c behind → IsWithin start n p → IsWithin start (n - w) q
within_step start n w c p q behind some width le is h = subst (IsWithin start (n - w)) (sym is) (within_if (ends_line c behind) start n w c p behind some width le h)
