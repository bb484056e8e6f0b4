-- What the first character of a form can be.
use Rattle.std.proofs.Common.{◌≡◌, ℕ, ◌<◌, Bool, true, false, not, ◌&&◌, ◌||◌, ◌==◌, inl, inr, List, [], ◌∷◌, refl, sym, ◌∙◌, ap, subst, arith}
use Rattle.std.specs.Prelude.{nat_le}
use Rattle.std.specs.List.{list_all, list_any}
use Rattle.std.specs.Char.{is_ascii_digit}
use Rattle.unicode_ident.specs.Ident.{is_xid_start, is_xid_continue}
use Rattle.unicode_ident.proofs.Computing.{unicode_ident}
use Rattle.wgsl_lex.specs.Floats.{is_point}
use Rattle.wgsl_lex.specs.Tokens.{is_line_break, is_blank}
use Rattle.wgsl_lex.proofs.Bools.{not_both, is_number, differs, implies, all_below, below_passes}
use Rattle.wgsl_lex.proofs.Tables.{begins_word}
use Rattle.wgsl_base.proofs.Bools.{and_both as both, or_cases as either, false_if as fails}

abbrev line_breaks : List ℕ
line_breaks = 10 ∷ 11 ∷ 12 ∷ 13 ∷ 133 ∷ 8232 ∷ 8233 ∷ []

abbrev blanks : List ℕ
blanks = 32 ∷ 9 ∷ 8206 ∷ 8207 ∷ line_breaks

-- whatever each of some numbers passes, one of them passes
at_one : (p : ℕ → Bool) (xs : List ℕ) (c : ℕ) → list_all p xs ≡ true → list_any (λ x. x == c) xs ≡ true → p c ≡ true
at_one p [] c all e = cc
at_one p (x ∷ xs) c all e =
    let here = both (p x) (list_all p xs) all in
    elim (either (x == c) (list_any (λ y. y == c) xs) e) [ inl same ↦ ap p (sym (is_number x c same)) ∙ here.0 | inr later ↦ at_one p xs c here.1 later ]

-- blankspace is among these
become : (c k : ℕ) → list_any (λ x. x == k) blanks ≡ true → (c == k) ≡ true → list_any (λ x. x == c) blanks ≡ true
become c k there same = let P : ℕ → Type 0 = λ y. list_any (λ x. x == y) blanks ≡ true in subst P (sym (is_number c k same)) there

abbrev is_among : ℕ → Bool
is_among c = list_any (λ x. x == c) blanks

among_range : (c : ℕ) → (nat_le 10 c && nat_le c 13) ≡ true → list_any (λ x. x == c) blanks ≡ true
among_range c h =
    let ends = both (nat_le 10 c) (nat_le c 13) h in
    let q : ℕ → Bool = λ x. not (nat_le 10 x && nat_le x 13) || is_among x in
    let below : c < 14 = grind (arith, ends.1) in
    implies (nat_le 10 c && nat_le c 13) (is_among c) (below_passes q 14 c refl below) h

among_line_breaks : (c : ℕ) → is_line_break c ≡ true → list_any (λ x. x == c) blanks ≡ true
among_line_breaks c h =
    elim (either _ (c == 8233) h) [
      | inr e ↦ become c 8233 refl e
      | inl h1 ↦ elim (either _ (c == 8232) h1) [
        | inr e ↦ become c 8232 refl e
        | inl h2 ↦ elim (either _ (c == 133) h2) [ inr e ↦ become c 133 refl e | inl h3 ↦ among_range c h3 ]
      ]
    ]

blank_among : (c : ℕ) → is_blank c ≡ true → list_any (λ x. x == c) blanks ≡ true
blank_among c h =
    elim (either _ (is_line_break c) h) [
      | inr line ↦ among_line_breaks c line
      | inl h1 ↦ elim (either _ (c == 8207) h1) [
        | inr e ↦ become c 8207 refl e
        | inl h2 ↦ elim (either _ (c == 8206) h2) [
          | inr e ↦ become c 8206 refl e
          | inl h3 ↦ elim (either (c == 32) (c == 9) h3) [ inl e ↦ become c 32 refl e | inr e ↦ become c 9 refl e ]
        ]
      ]
    ]

pub blank_passes : (p : ℕ → Bool) → list_all p blanks ≡ true → (c : ℕ) → is_blank c ≡ true → p c ≡ true
blank_passes p all c h = at_one p blanks c all (blank_among c h)

-- a test of digits
pub digit_passes : (p : ℕ → Bool) → all_below (λ c. not (is_ascii_digit c) || p c) 58 ≡ true → (c : ℕ) → is_ascii_digit c ≡ true → p c ≡ true
digit_passes p all c h =
    let ends = both (nat_le 48 c) (nat_le c 57) h in
    let below : c < 58 = grind (arith, ends.1) in
    implies (is_ascii_digit c) (p c) (below_passes (λ x. not (is_ascii_digit x) || p x) 58 c all below) h

-- no word begins with blankspace, a digit or a slash
abbrev pub begins_no_word : ℕ → Bool
begins_no_word c = not (begins_word c)

pub not_true : (b : Bool) → not b ≡ true → b ≡ false
not_true true e = sym e
not_true false e = refl

pub blank_begins_no_word : (c : ℕ) → is_blank c ≡ true → begins_word c ≡ false
unfolding unicode_ident
blank_begins_no_word c h = not_true _ (blank_passes begins_no_word refl c h)

pub digit_begins_no_word : (c : ℕ) → is_ascii_digit c ≡ true → begins_word c ≡ false
unfolding unicode_ident
digit_begins_no_word c h = not_true _ (digit_passes begins_no_word refl c h)

pub slash_begins_no_word : begins_word 47 ≡ false
unfolding unicode_ident
slash_begins_no_word = refl

pub underscore_continues : is_xid_continue 95 ≡ true
unfolding unicode_ident
underscore_continues = refl

pub underscore_starts_no_word : is_xid_start 95 ≡ false
unfolding unicode_ident
underscore_starts_no_word = refl

-- what begins a word is no slash, no digit and no blankspace
pub word_no_slash : (c : ℕ) → begins_word c ≡ true → (c == 47) ≡ false
word_no_slash c h = differs begins_word c 47 h slash_begins_no_word

pub word_no_digit : (c : ℕ) → begins_word c ≡ true → is_ascii_digit c ≡ false
word_no_digit c h = fails _ (λ digit. not_both _ h (digit_begins_no_word c digit))

pub word_no_blank : (c : ℕ) → begins_word c ≡ true → is_blank c ≡ false
word_no_blank c h = fails _ (λ blank. not_both _ h (blank_begins_no_word c blank))

pub digit_no_slash : (c : ℕ) → is_ascii_digit c ≡ true → (c == 47) ≡ false
digit_no_slash c h = differs is_ascii_digit c 47 h refl

pub digit_no_blank : (c : ℕ) → is_ascii_digit c ≡ true → is_blank c ≡ false
digit_no_blank c h = fails _ (λ blank. not_both _ h (not_true _ (blank_passes (λ x. not (is_ascii_digit x)) refl c blank)))

pub blank_no_slash : (c : ℕ) → is_blank c ≡ true → (c == 47) ≡ false
blank_no_slash c h = differs is_blank c 47 h refl

pub blank_no_digit : (c : ℕ) → is_blank c ≡ true → is_ascii_digit c ≡ false
blank_no_digit c h = not_true _ (blank_passes (λ x. not (is_ascii_digit x)) refl c h)

-- nor a point
point_begins_no_word : begins_word 46 ≡ false
unfolding unicode_ident
point_begins_no_word = refl

pub word_no_number : (c : ℕ) → begins_word c ≡ true → (is_ascii_digit c || is_point c) ≡ false
word_no_number c h = rw (word_no_digit c h, differs begins_word c 46 h point_begins_no_word)

pub blank_no_number : (c : ℕ) → is_blank c ≡ true → (is_ascii_digit c || is_point c) ≡ false
blank_no_number c h = rw (blank_no_digit c h, differs is_blank c 46 h refl)
