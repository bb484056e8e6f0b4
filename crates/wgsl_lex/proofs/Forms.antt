-- What some characters are, by what they aren't.
use Rattle.std.proofs.Common.{◌≡◌, ℕ, Bool, true, false, not, ◌&&◌, ◌||◌, ◌==◌, List, [], ◌∷◌, ◌++◌, reverse, refl, sym, ◌∙◌, ap, subst}
use Rattle.std.specs.Prelude.{Some, None, if◌then◌else◌}
use Rattle.std.specs.Option.{option_map, option_or}
use Rattle.std.specs.List.{list_all}
use Rattle.std.specs.Char.{is_ascii_digit, is_ascii_hexdigit}
use Rattle.unicode_ident.proofs.Computing.{unicode_ident}
use Rattle.std.proofs.lemmas.List.{reverse-append, reverse-reverse}
use Rattle.unicode_ident.specs.Ident.{is_xid_start}
use Rattle.wgsl_token.specs.declared.token.Token.TheVariants.{Fixed}
use Rattle.wgsl_token.specs.declared.token.Fixed.{Fixed as FixedToken}
use Rattle.wgsl_lex.specs.Floats.{empty, one, many, some, optional, is_point, is_zero, is_mark, decimal_exponent, binary_exponent, float_of, hexadecimal, is_decimal_float, is_hexadecimal_float, is_float, is_decimal, takes_float_suffix}
use Rattle.wgsl_lex.specs.Pieces.{begins, opens_number}
use Rattle.wgsl_lex.specs.Tokens.{is_trivia, is_word, word_token, fixed_of, digits_value, zero_led_value, magnitude, signed_token, unsigned_token, plain_number, number_with, suffixed_number, number_token, token_form, form, trivia, token}
use Rattle.wgsl_lex.proofs.Bools.{not_both, and_false, and_true, or_true, neither, is_number}
use Rattle.wgsl_lex.proofs.Patterns.{one_begins, many_here, many_empty, one_within, float_within}
use Rattle.wgsl_lex.proofs.Tables.{begins_word, no_fixed, begins_fixed, spellings_begin}
use Rattle.wgsl_lex.proofs.Classes.{digit_begins_no_word, digit_no_slash, digit_no_blank}
use Rattle.wgsl_base.proofs.Bools.{and_both as both, false_if as fails}

pub trivia_form : (cs : List ℕ) → is_trivia cs ≡ true → form cs ≡ Some trivia
unfolding form
trivia_form cs e = rw e

pub token_form_is : (cs : List ℕ) → is_trivia cs ≡ false → form cs ≡ option_map token (token_form cs)
unfolding form
token_form_is cs e = rw e

pub fixed_form : (cs : List ℕ) (fixed : FixedToken) → is_trivia cs ≡ false → fixed_of cs ≡ Some fixed → form cs ≡ Some (token (Fixed fixed))
unfolding token_form
fixed_form cs fixed e f = token_form_is cs e ∙ rw f

pub word_form : (cs : List ℕ) → is_trivia cs ≡ false → fixed_of cs ≡ None → is_word cs ≡ true → form cs ≡ Some (token (word_token cs))
unfolding token_form
word_form cs e f w = token_form_is cs e ∙ rw (f, w)

pub number_form : (cs : List ℕ) → is_trivia cs ≡ false → fixed_of cs ≡ None → is_word cs ≡ false → form cs ≡ option_map token (number_token cs)
unfolding token_form
number_form cs e f w = token_form_is cs e ∙ rw (f, w)

-- a list ends with an element, or is empty
pub data Ends : List ℕ → Type 0 where
  nothing : Ends []
  last : (cs : List ℕ) (c : ℕ) → Ends (cs ++ c ∷ [])

pub ends : (cs : List ℕ) → Ends cs
ends [] = nothing
ends (c ∷ cs) = elim (ends cs) as (λ ds e. Ends (c ∷ ds)) [ nothing ↦ last [] c | last ds d ↦ last (c ∷ ds) d ]

pub suffixed : (cs : List ℕ) (c : ℕ) → suffixed_number (reverse (cs ++ c ∷ [])) ≡ number_with c cs
suffixed cs c = ap suffixed_number (reverse-append cs (c ∷ [])) ∙ ap (λ ds. number_with c ds) (reverse-reverse cs)

pub number_token-append : (cs : List ℕ) (c : ℕ) → number_token (cs ++ c ∷ []) ≡ option_or (plain_number (cs ++ c ∷ [])) (number_with c cs)
number_token-append cs c = ap (λ o. option_or (plain_number (cs ++ c ∷ [])) o) (suffixed cs c)

-- no number without suffix
pub record NoStem (cs : List ℕ) : Type 0 where
  pub whole : magnitude cs ≡ None
  pub float : is_float cs ≡ false

-- The numbers of some characters take a suffix only if they are such a number.
whole_decimal : (cs : List ℕ) → magnitude cs ≡ None → is_decimal cs ≡ false
whole_decimal [] none = refl
whole_decimal (c ∷ cs) none = by_zero (c == 48) refl
  where
    by_zero : (b : Bool) → (c == 48) ≡ b → is_decimal (c ∷ cs) ≡ false
    by_zero true e = zero_led cs (rw e at none)
      where
        zero_led : (ds : List ℕ) → zero_led_value ds ≡ None → is_decimal (c ∷ ds) ≡ false
        zero_led [] h = absurd cc
        zero_led (d ∷ ds) h = rw e (ap (λ b. b && many is_ascii_digit empty (d ∷ ds)) (and_false (is_ascii_digit c)))
    by_zero false e = rw e (digits (list_all is_ascii_digit (c ∷ cs)) refl)
      where
        digits : (b : Bool) → list_all is_ascii_digit (c ∷ cs) ≡ b → ((is_ascii_digit c && true) && many is_ascii_digit empty cs) ≡ false
        digits true h = let some : magnitude (c ∷ cs) ≡ Some (digits_value 10 (c ∷ cs)) = rw (e, h) in absurd cc
        digits false h = ap (λ b. b && many is_ascii_digit empty cs) (and_true (is_ascii_digit c)) ∙ ap (λ b. is_ascii_digit c && b) (many_empty is_ascii_digit cs) ∙ h

pub no_suffix_on : (cs : List ℕ) → NoStem cs → takes_float_suffix cs ≡ false
unfolding is_float takes_float_suffix
no_suffix_on cs h =
    let parts = neither (is_decimal_float cs) (is_hexadecimal_float cs) h.float in
    let binary : hexadecimal (float_of is_ascii_hexdigit binary_exponent binary_exponent) cs ≡ false =
    fails _ (λ e. not_both (is_hexadecimal_float cs) (one_within is_zero _ _ (one_within is_mark _ _ (float_within is_ascii_hexdigit binary_exponent (optional binary_exponent) binary_exponent wider)) cs e) parts.1)
    in
    (λ i. whole_decimal cs h.whole i || (parts.0 i || binary i))
  where
    wider : (xs : List ℕ) → binary_exponent xs ≡ true → optional binary_exponent xs ≡ true
    wider xs e = ap (λ b. empty xs || b) e ∙ or_true (empty xs)

pub no_plain : (cs : List ℕ) → NoStem cs → plain_number cs ≡ None
no_plain cs h = rw (h.whole, h.float)

pub no_number_with : (c : ℕ) (cs : List ℕ) → NoStem cs → number_with c cs ≡ None
no_number_with c cs h =
    rw (h.whole, no_suffix_on cs h, and_false (c == 102), and_false (c == 104)) (same (c == 105) (c == 117))
  where
    same : (a b : Bool) → (if a then option_map signed_token None else (if b then option_map unsigned_token None else None)) ≡ None
    same true b = refl
    same false true = refl
    same false false = refl

-- where no number begins, there is none
no_zero : (c : ℕ) → is_ascii_digit c ≡ false → (c == 48) ≡ false
no_zero c e = fails (c == 48) (λ same. let is : c ≡ 48 = is_number c 48 same in not_both (is_ascii_digit c) (ap is_ascii_digit is) e)

pub no_magnitude : (c : ℕ) (cs : List ℕ) → is_ascii_digit c ≡ false → magnitude (c ∷ cs) ≡ None
no_magnitude c cs e =
    let other : (c == 48) ≡ false = no_zero c e in
    rw (other, e)

pub no_float : (c : ℕ) (cs : List ℕ) → opens_number c cs ≡ false → is_float (c ∷ cs) ≡ false
unfolding is_float
no_float c cs e =
    let parts = neither (is_ascii_digit c) (is_point c && begins is_ascii_digit cs) e in
    let tail : List ℕ → Bool = optional decimal_exponent in
    let x : many is_ascii_digit (one is_point (some is_ascii_digit tail)) (c ∷ cs) ≡ false =
    many_here is_ascii_digit (one is_point (some is_ascii_digit tail)) (c ∷ cs) parts.0 ∙ led cs parts.1
    in
    let y : some is_ascii_digit (one is_point (many is_ascii_digit tail)) (c ∷ cs) ≡ false = one_begins is_ascii_digit (many is_ascii_digit (one is_point (many is_ascii_digit tail))) (c ∷ cs) parts.0 in
    let z : some is_ascii_digit decimal_exponent (c ∷ cs) ≡ false = one_begins is_ascii_digit (many is_ascii_digit decimal_exponent) (c ∷ cs) parts.0 in
    let pattern : List ℕ → Bool = one is_mark (float_of is_ascii_hexdigit (optional binary_exponent) binary_exponent) in
    let binary : one is_zero pattern (c ∷ cs) ≡ false = one_begins is_zero pattern (c ∷ cs) (no_zero c parts.0) in
    (λ i. (x i || (y i || z i)) || binary i)
  where
    led : (ds : List ℕ) → (is_point c && begins is_ascii_digit ds) ≡ false → (is_point c && some is_ascii_digit (optional decimal_exponent) ds) ≡ false
    led [] h = and_false (is_point c)
    led (d ∷ ds) h = less (is_point c) (is_ascii_digit d) (many is_ascii_digit (optional decimal_exponent) ds) h
      where
        less : (a b k : Bool) → (a && b) ≡ false → (a && (b && k)) ≡ false
        less true true k f = cc
        less true false k f = refl
        less false b k f = refl

no_stem : (c : ℕ) (cs : List ℕ) → opens_number c cs ≡ false → NoStem (c ∷ cs)
no_stem c cs e = record { whole = no_magnitude c cs (neither (is_ascii_digit c) (is_point c && begins is_ascii_digit cs) e).0; float = no_float c cs e }

-- fewer characters open none either
pub opens_less : (c : ℕ) (ds more : List ℕ) → opens_number c (ds ++ more) ≡ false → opens_number c ds ≡ false
opens_less c [] more e = let parts = neither (is_ascii_digit c) (is_point c && begins is_ascii_digit more) e in ap (λ b. b || (is_point c && false)) parts.0 ∙ and_false (is_point c)
opens_less c (d ∷ ds) more e = e

nil_stem : NoStem []
unfolding is_float
nil_stem = record { whole = refl; float = refl }

pub no_number : (c : ℕ) (cs : List ℕ) → opens_number c cs ≡ false → number_token (c ∷ cs) ≡ None
no_number c cs e =
    elim (ends cs) as (λ ds x. opens_number c ds ≡ false → number_token (c ∷ ds) ≡ None) [
      | nothing ↦ λ h. number_token-append [] c ∙ rw (no_plain (c ∷ []) (no_stem c [] h)) (no_number_with c [] nil_stem)
      | last ds d ↦ λ h. number_token-append (c ∷ ds) d ∙ rw (no_plain (c ∷ (ds ++ d ∷ [])) (no_stem c (ds ++ d ∷ []) h)) (no_number_with d (c ∷ ds) (no_stem c ds (opens_less c ds (d ∷ []) h)))
    ] e

-- what is no digit and no point opens no number
abbrev pub begins_number : ℕ → Bool
begins_number c = is_ascii_digit c || is_point c

pub opens_none : (c : ℕ) (cs : List ℕ) → begins_number c ≡ false → opens_number c cs ≡ false
opens_none c cs e = let parts = neither (is_ascii_digit c) (is_point c) e in rw (parts.0, parts.1)

-- no form at all
pub no_form : (c : ℕ) (cs : List ℕ) → is_trivia (c ∷ cs) ≡ false → fixed_of (c ∷ cs) ≡ None → is_word (c ∷ cs) ≡ false → opens_number c cs ≡ false → form (c ∷ cs) ≡ None
no_form c cs e f w d = number_form (c ∷ cs) e f w ∙ ap (option_map token) (no_number c cs d)

-- two characters or more, of which the first is no slash, are no trivia
pub no_trivia : (c d : ℕ) (cs : List ℕ) → (c == 47) ≡ false → is_trivia (c ∷ d ∷ cs) ≡ false
no_trivia c d cs e = rw e

pub no_word : (c : ℕ) (cs : List ℕ) → begins_word c ≡ false → is_word (c ∷ cs) ≡ false
no_word c [] e = fails (is_xid_start c) (λ starts. not_both (begins_word c) (rw starts) e)
no_word c (d ∷ cs) e = rw e

-- no spelling begins with a point and a digit
abbrev begins_no_fraction : List ℕ → Bool
begins_no_fraction [] = true
begins_no_fraction (c ∷ []) = true
begins_no_fraction (c ∷ d ∷ cs) = not ((c == 46) && is_ascii_digit d)

-- what begins with a digit is a number or nothing
pub digit_form : (c : ℕ) (cs : List ℕ) → is_ascii_digit c ≡ true → form (c ∷ cs) ≡ option_map token (number_token (c ∷ cs))
digit_form c cs digit = number_form (c ∷ cs) (trivial cs) (no_fixed begins_fixed spellings_begin (c ∷ cs) (rw digit)) (no_word c cs (digit_begins_no_word c digit))
  where
    trivial : (ds : List ℕ) → is_trivia (c ∷ ds) ≡ false
    trivial [] = digit_no_blank c digit
    trivial (d ∷ ds) = no_trivia c d ds (digit_no_slash c digit)

-- a point and a digit
pub point_form : (d : ℕ) (cs : List ℕ) → is_ascii_digit d ≡ true → form (46 ∷ d ∷ cs) ≡ option_map token (number_token (46 ∷ d ∷ cs))
unfolding unicode_ident
point_form d cs digit = number_form (46 ∷ d ∷ cs) refl (no_fixed begins_no_fraction refl (46 ∷ d ∷ cs) (rw digit)) (no_word 46 (d ∷ cs) refl)

-- where a number begins, it is a number or nothing
pub opened_form : (c : ℕ) (cs : List ℕ) → opens_number c cs ≡ true → form (c ∷ cs) ≡ option_map token (number_token (c ∷ cs))
opened_form c cs e = by_digit (is_ascii_digit c) refl
  where
    pointed : (ds : List ℕ) → (is_point c && begins is_ascii_digit ds) ≡ true → form (c ∷ ds) ≡ option_map token (number_token (c ∷ ds))
    pointed [] h = let wrong : false ≡ true = sym (and_false (is_point c)) ∙ h in absurd cc
    pointed (d ∷ ds) h =
        let parts = both (is_point c) (is_ascii_digit d) h in
        let is : 46 ≡ c = sym (is_number c 46 parts.0) in
        let P : ℕ → Type 0 = λ x. form (x ∷ d ∷ ds) ≡ option_map token (number_token (x ∷ d ∷ ds)) in
        subst P is (point_form d ds parts.1)

    by_digit : (b : Bool) → is_ascii_digit c ≡ b → form (c ∷ cs) ≡ option_map token (number_token (c ∷ cs))
    by_digit true h = digit_form c cs h
    by_digit false h = pointed cs (rw h at e)
