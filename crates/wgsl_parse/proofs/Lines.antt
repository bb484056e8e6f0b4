-- Lines and what stands below them, character by character.
use Rattle.std.proofs.Common.{◌≡◌, ◌∙◌, refl, ap, sym, ℕ, zero, suc, ◌-◌, ◌<◌, false, if◌then◌else◌, List, [], ◌∷◌, ◌++◌, arith}
use Rattle.std.specs.Char.{encode_utf8}
use Rattle.wgsl_lex.specs.Tokens.{is_line_break}
use Rattle.wgsl_parse.specs.Snippets.{blank_below, blanks_below, line_text}

pub blanks_step : (n : ℕ) (cs : List ℕ) (c : ℕ) (behind : List ℕ) → 0 < n → cs ≡ c ∷ behind → blanks_below n cs ≡ encode_utf8 (blank_below c) ++ blanks_below (n - 1) behind
blanks_step zero cs c behind lt e = absurd (omega arith)
blanks_step (suc n) cs c behind lt e =
    let less : suc n - 1 ≡ n = omega arith in
    ap (blanks_below (suc n)) e ∙ ap (λ m. encode_utf8 (blank_below c) ++ blanks_below m behind) (sym less)

pub none_below : (n : ℕ) (cs : List ℕ) → cs ≡ [] → blanks_below n cs ≡ []
none_below zero cs e = refl
none_below (suc n) cs e = ap (blanks_below (suc n)) e

pub line_step : (cs : List ℕ) (c : ℕ) (behind : List ℕ) → cs ≡ c ∷ behind → is_line_break c ≡ false → line_text cs ≡ encode_utf8 c ++ line_text behind
line_step cs c behind e other = ap line_text e ∙ ap (λ z. if z then [] else encode_utf8 c ++ line_text behind) other
