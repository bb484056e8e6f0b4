-- What a token says of the characters that are it.
use Rattle.std.proofs.Common.{◌≡◌, refl, sym, ap, ◌∙◌, subst, ℕ, ◌≤◌, Bool, true, false, not, ◌&&◌, ◌||◌, ◌==◌, inl, inr, List, [], ◌∷◌, ◌++◌, Option, Some, None, pos}
use Rattle.std.specs.Prelude.{nat_le, if◌then◌else◌}
use Rattle.std.specs.Option.{option_map, option_or}
use Rattle.std.specs.List.{list_all}
use Rattle.std.specs.Char.{is_ascii_digit, is_ascii_hexdigit}
use Rattle.std.specs.Str.{encode_utf8_all}
use Rattle.std.proofs.lemmas.Bool.{leb-true, eqb-true, and_parts, and_from, or_cases}
use Rattle.std.proofs.lemmas.List.Folds.{list_all-append}
use Rattle.wgsl_lex.specs.Token.{Token}
use Rattle.wgsl_lex.specs.Token.TheVariants as t
use Rattle.wgsl_lex.specs.Fixed.{Fixed}
use Rattle.wgsl_lex.specs.Floats.{empty, one, many, some, optional, is_point, is_sign, is_zero, is_mark, is_e, is_p, exponent, decimal_exponent, binary_exponent, float_of, hexadecimal, is_decimal_float, is_hexadecimal_float, is_float, is_decimal, takes_float_suffix}
use Rattle.wgsl_lex.specs.Tokens.{plain_number, number_with, is_trivia, is_word, fixed_of, form, trivia, token, is_reserved, word_token, begins_with_two_underscores, magnitude, zero_led_value, abstract_token, signed_token, unsigned_token, number_token, digits_value}
use Rattle.wgsl_lex.specs.Spelling.{spelling}
use Rattle.wgsl_lex.proofs.Tables.{spelled_as}
use Rattle.wgsl_lex.proofs.Forms.{trivia_form, fixed_form, word_form, number_form, nothing, last, ends, number_token-append}
use Rattle.wgsl_base.proofs.Bools.{or_right, or_left}

-- which rule makes some characters a token
pub data Made (cs : List ℕ) (k : Token) : Type 0 where
  as_fixed : (g : Fixed) → k ≡ t.Fixed g → spelling g ≡ cs → Made cs k
  as_word : is_word cs ≡ true → k ≡ word_token cs → Made cs k
  as_number : number_token cs ≡ Some k → Made cs k

pub of_some : {A : Type 0} {x y : A} → Some x ≡ Some y → x ≡ y
of_some e = cc

of_token : {x y : Token} → Some (token x) ≡ Some (token y) → x ≡ y
of_token e = cc

mapped_token : (o : Option Token) (k : Token) → option_map token o ≡ Some (token k) → o ≡ Some k
mapped_token None k e = absurd cc
mapped_token (Some x) k e = ap Some (of_token e)

pub made : (cs : List ℕ) (k : Token) → form cs ≡ Some (token k) → Made cs k
made cs k e = by_trivia (is_trivia cs) refl
  where
    by_word : is_trivia cs ≡ false → fixed_of cs ≡ None → (b : Bool) → is_word cs ≡ b → Made cs k
    by_word no_trivia no_fixed true w = as_word w (sym (of_token (sym (word_form cs no_trivia no_fixed w) ∙ e)))
    by_word no_trivia no_fixed false w = as_number (mapped_token (number_token cs) k (sym (number_form cs no_trivia no_fixed w) ∙ e))

    by_fixed : is_trivia cs ≡ false → (o : Option Fixed) → fixed_of cs ≡ o → Made cs k
    by_fixed no_trivia (Some g) found = as_fixed g (sym (of_token (sym (fixed_form cs g no_trivia found) ∙ e))) (spelled_as cs g found)
    by_fixed no_trivia None found = by_word no_trivia found (is_word cs) refl

    by_trivia : (b : Bool) → is_trivia cs ≡ b → Made cs k
    by_trivia true h = let wrong : Some trivia ≡ Some (token k) = sym (trivia_form cs h) ∙ e in absurd cc
    by_trivia false h = by_fixed h (fixed_of cs) refl

-- Words

-- an identifier is its characters
pub word_is : (cs id : List ℕ) → t.Identifier id ≡ word_token cs → encode_utf8_all cs ≡ id
word_is cs id e = by_underscores (begins_with_two_underscores cs) refl
  where
    by_reserved : (b : Bool) → t.Identifier id ≡ (if b then t.Reserved (encode_utf8_all cs) else t.Identifier (encode_utf8_all cs)) → encode_utf8_all cs ≡ id
    by_reserved true h = absurd cc
    by_reserved false h = cc

    by_underscores : (b : Bool) → begins_with_two_underscores cs ≡ b → encode_utf8_all cs ≡ id
    by_underscores true h =
        let wrong : t.Identifier id ≡ t.Invalid =
        subst (λ b. t.Identifier id ≡ (if b then t.Invalid else (if is_reserved cs then t.Reserved (encode_utf8_all cs) else t.Identifier (encode_utf8_all cs)))) h e in absurd cc
    by_underscores false h =
        by_reserved (is_reserved cs) (subst (λ b. t.Identifier id ≡ (if b then t.Invalid else (if is_reserved cs then t.Reserved (encode_utf8_all cs) else t.Identifier (encode_utf8_all cs)))) h e)

-- Numbers

-- the numbers that are tokens
pub data Numeral : Token → Type 0 where
  abstract : (n : ℕ) → n ≤ 9223372036854775807 → Numeral (t.AbstractInt (pos n))
  signed : (n : ℕ) → n ≤ 2147483647 → Numeral (t.I32 (pos n))
  unsigned : (n : ℕ) → n ≤ 4294967295 → Numeral (t.U32 n)
  float : (text : List ℕ) → Numeral (t.AbstractFloat text)
  single : (text : List ℕ) → Numeral (t.F32 text)
  half : (text : List ℕ) → Numeral (t.F16 text)
  past : Numeral t.Invalid

abstract_numeral : (n : ℕ) → Numeral (abstract_token n)
abstract_numeral n = go (nat_le n 9223372036854775807) refl
  where
    go : (b : Bool) → nat_le n 9223372036854775807 ≡ b → Numeral (if b then t.AbstractInt (pos n) else t.Invalid)
    go true h = abstract n (leb-true n 9223372036854775807 h)
    go false h = past

signed_numeral : (n : ℕ) → Numeral (signed_token n)
signed_numeral n = go (nat_le n 2147483647) refl
  where
    go : (b : Bool) → nat_le n 2147483647 ≡ b → Numeral (if b then t.I32 (pos n) else t.Invalid)
    go true h = signed n (leb-true n 2147483647 h)
    go false h = past

unsigned_numeral : (n : ℕ) → Numeral (unsigned_token n)
unsigned_numeral n = go (nat_le n 4294967295) refl
  where
    go : (b : Bool) → nat_le n 4294967295 ≡ b → Numeral (if b then t.U32 n else t.Invalid)
    go true h = unsigned n (leb-true n 4294967295 h)
    go false h = past

-- a test of the characters of a whole number without its suffix, of a float without its suffix, and of a number
abbrev pub is_magnitude_char : ℕ → Bool
is_magnitude_char c = is_ascii_hexdigit c || ((c == 120) || (c == 88))

abbrev pub is_float_char : ℕ → Bool
is_float_char c = is_magnitude_char c || (is_point c || (is_sign c || is_p c))

abbrev pub is_number_char : ℕ → Bool
is_number_char c = is_float_char c || ((c == 105) || ((c == 117) || (c == 104)))

pub all_weaker : (p q : ℕ → Bool) → ((c : ℕ) → p c ≡ true → q c ≡ true) → (cs : List ℕ) → list_all p cs ≡ true → list_all q cs ≡ true
all_weaker p q weaker [] h = refl
all_weaker p q weaker (c ∷ cs) h =
    let (one, others) = and_parts (p c) (list_all p cs) h in ap (λ b. b && list_all q cs) (weaker c one) ∙ all_weaker p q weaker cs others

if_some : {A : Type 0} (b : Bool) (x y : A) → (if b then Some x else None) ≡ Some y → b ≡ true
if_some true x y e = refl
if_some false x y e = absurd cc

zero_led_chars : (cs : List ℕ) (n : ℕ) → zero_led_value cs ≡ Some n → list_all is_magnitude_char cs ≡ true
zero_led_chars [] n e = refl
zero_led_chars (x ∷ []) n e = absurd cc
zero_led_chars (x ∷ c ∷ cs) n e =
    let (h, g) = and_parts ((x == 120) || (x == 88)) (list_all is_ascii_hexdigit (c ∷ cs)) (if_some _ _ n e) in
    ap (λ v. v && list_all is_magnitude_char (c ∷ cs)) (or_right (is_ascii_hexdigit x) _ h) ∙ all_weaker is_ascii_hexdigit is_magnitude_char (λ d i. or_left _ _ i) (c ∷ cs) g

pub magnitude_chars : (cs : List ℕ) (n : ℕ) → magnitude cs ≡ Some n → list_all is_magnitude_char cs ≡ true
magnitude_chars [] n e = absurd cc
magnitude_chars (c ∷ cs) n e = go (c == 48) refl e
  where
    go : (b : Bool) → (c == 48) ≡ b → (if b then zero_led_value cs else (if list_all is_ascii_digit (c ∷ cs) then Some (digits_value 10 (c ∷ cs)) else None)) ≡ Some n
        → list_all is_magnitude_char (c ∷ cs) ≡ true
    go true h g = let same : c ≡ 48 = eqb-true c 48 h in ap (λ d. is_magnitude_char d && list_all is_magnitude_char cs) same ∙ zero_led_chars cs n g
    go false h g = all_weaker is_ascii_digit is_magnitude_char (λ d i. or_left _ _ (or_left _ _ (or_left _ _ i))) (c ∷ cs) (if_some _ _ n g)

-- Floats

-- what passes a pattern has such characters only
abbrev Has : (List ℕ → Bool) → Type 0
Has p = (cs : List ℕ) → p cs ≡ true → list_all is_float_char cs ≡ true

abbrev Kind : (ℕ → Bool) → Type 0
Kind kind = (c : ℕ) → kind c ≡ true → is_float_char c ≡ true

has_empty : Has empty
has_empty [] e = refl
has_empty (c ∷ cs) e = absurd cc

has_one : (kind : ℕ → Bool) (p : List ℕ → Bool) → Kind kind → Has p → Has (one kind p)
has_one kind p k h [] e = absurd cc
has_one kind p k h (c ∷ cs) e = let (x, y) = and_parts (kind c) (p cs) e in and_from (is_float_char c) (list_all is_float_char cs) (k c x) (h cs y)

has_either : (p q : List ℕ → Bool) → Has p → Has q → (cs : List ℕ) → (p cs || q cs) ≡ true → list_all is_float_char cs ≡ true
has_either p q h k cs e = elim (or_cases (p cs) (q cs) e) [ inl x ↦ h cs x | inr x ↦ k cs x ]

has_many : (kind : ℕ → Bool) (p : List ℕ → Bool) → Kind kind → Has p → Has (many kind p)
has_many kind p k h [] e = h [] e
has_many kind p k h (c ∷ cs) e = elim (or_cases (p (c ∷ cs)) (kind c && many kind p cs) e) [
  | inl x ↦ h (c ∷ cs) x
  | inr x ↦ let (y, z) = and_parts (kind c) (many kind p cs) x in and_from (is_float_char c) (list_all is_float_char cs) (k c y) (has_many kind p k h cs z)
]

has_some : (kind : ℕ → Bool) (p : List ℕ → Bool) → Kind kind → Has p → Has (some kind p)
has_some kind p k h cs e = has_one kind (many kind p) k (has_many kind p k h) cs e

hexadecimal_digit : Kind is_ascii_hexdigit
hexadecimal_digit c h = or_left _ _ (or_left _ _ h)

decimal_digit : Kind is_ascii_digit
decimal_digit c h = hexadecimal_digit c (or_left _ _ (or_left _ _ h))

one_of_two : (a b : ℕ) → is_float_char a ≡ true → is_float_char b ≡ true → (c : ℕ) → ((c == a) || (c == b)) ≡ true → is_float_char c ≡ true
one_of_two a b h k c e = elim (or_cases (c == a) (c == b) e) [ inl x ↦ ap is_float_char (eqb-true c a x) ∙ h | inr x ↦ ap is_float_char (eqb-true c b x) ∙ k ]

has_exponent : (mark : ℕ → Bool) → Kind mark → Has (exponent mark)
has_exponent mark k cs e =
    let digits : Has (some is_ascii_digit empty) = has_some is_ascii_digit empty decimal_digit has_empty in
    has_either (one mark (some is_ascii_digit empty)) (one mark (one is_sign (some is_ascii_digit empty))) (has_one mark (some is_ascii_digit empty) k digits)
    (has_one mark (one is_sign (some is_ascii_digit empty)) k (has_one is_sign (some is_ascii_digit empty) (one_of_two 43 45 refl refl) digits)) cs e

has_optional : (p : List ℕ → Bool) → Has p → Has (optional p)
has_optional p h cs e = has_either empty p has_empty h cs e

has_float_of : (digit : ℕ → Bool) (pointed plain : List ℕ → Bool) → Kind digit → Has pointed → Has plain → Has (float_of digit pointed plain)
has_float_of digit pointed plain k h g cs e =
    elim (or_cases (many digit (one is_point (some digit pointed)) cs) (some digit (one is_point (many digit pointed)) cs || some digit plain cs) e) [
      | inl x ↦ has_many digit (one is_point (some digit pointed)) k (has_one is_point (some digit pointed) point (has_some digit pointed k h)) cs x
      | inr x ↦ has_either (some digit (one is_point (many digit pointed))) (some digit plain) (has_some digit (one is_point (many digit pointed)) k (has_one is_point (many digit pointed) point (has_many digit pointed k h))) (has_some digit plain k g) cs x
    ]
  where
    point : Kind is_point
    point c h = ap is_float_char (eqb-true c 46 h)

has_hexadecimal : (p : List ℕ → Bool) → Has p → Has (hexadecimal p)
has_hexadecimal p h cs e = has_one is_zero (one is_mark p) (λ c x. ap is_float_char (eqb-true c 48 x)) (has_one is_mark p (one_of_two 120 88 refl refl) h) cs e

decimal_power : Has decimal_exponent
decimal_power cs e = has_exponent is_e (one_of_two 101 69 refl refl) cs e

binary_power : Has binary_exponent
binary_power cs e = has_exponent is_p (one_of_two 112 80 refl refl) cs e

has_decimal_float : Has is_decimal_float
has_decimal_float cs e = has_float_of is_ascii_digit (optional decimal_exponent) decimal_exponent decimal_digit (has_optional decimal_exponent decimal_power) decimal_power cs e

pub float_chars : Has is_float
unfolding is_float
float_chars cs e = has_either is_decimal_float is_hexadecimal_float has_decimal_float
    (λ ds h. has_hexadecimal (float_of is_ascii_hexdigit (optional binary_exponent) binary_exponent) (has_float_of is_ascii_hexdigit (optional binary_exponent) binary_exponent hexadecimal_digit (has_optional binary_exponent binary_power) binary_power) ds h) cs e

has_decimal : Has is_decimal
has_decimal cs e =
    has_either (one is_zero empty) (one (λ c. is_ascii_digit c && not (is_zero c)) (many is_ascii_digit empty)) (has_one is_zero empty (λ c x. ap is_float_char (eqb-true c 48 x)) has_empty)
    (has_one (λ c. is_ascii_digit c && not (is_zero c)) (many is_ascii_digit empty) (λ c x. decimal_digit c (and_parts (is_ascii_digit c) (not (is_zero c)) x).0) (has_many is_ascii_digit empty decimal_digit has_empty)) cs e

takes_chars : Has takes_float_suffix
unfolding takes_float_suffix
takes_chars cs e =
    elim (or_cases (is_decimal cs) (is_decimal_float cs || hexadecimal (float_of is_ascii_hexdigit binary_exponent binary_exponent) cs) e) [
      | inl x ↦ has_decimal cs x
      | inr x ↦ has_either is_decimal_float (hexadecimal (float_of is_ascii_hexdigit binary_exponent binary_exponent)) has_decimal_float
          (has_hexadecimal (float_of is_ascii_hexdigit binary_exponent binary_exponent) (has_float_of is_ascii_hexdigit binary_exponent binary_exponent hexadecimal_digit binary_power binary_power)) cs x
    ]

-- Numbers by their last character

as_number_chars : (cs : List ℕ) → list_all is_float_char cs ≡ true → list_all is_number_char cs ≡ true
as_number_chars cs h = all_weaker is_float_char is_number_char (λ d i. or_left _ _ i) cs h

whole_chars : (cs : List ℕ) (v : ℕ) → magnitude cs ≡ Some v → list_all is_number_char cs ≡ true
whole_chars cs v e = as_number_chars cs (all_weaker is_magnitude_char is_float_char (λ d i. or_left _ _ i) cs (magnitude_chars cs v e))

-- a number without suffix
data Plain (cs : List ℕ) (k : Token) : Type 0 where
  whole : (v : ℕ) → magnitude cs ≡ Some v → k ≡ abstract_token v → Plain cs k
  decimal : is_float cs ≡ true → k ≡ t.AbstractFloat (encode_utf8_all cs) → Plain cs k

-- and with one
data Suffixed (c : ℕ) (cs : List ℕ) (k : Token) : Type 0 where
  by_value : (v : ℕ) → magnitude cs ≡ Some v → ((c == 105) || (c == 117)) ≡ true → Numeral k → Suffixed c cs k
  by_text : takes_float_suffix cs ≡ true → ((c == 102) || (c == 104)) ≡ true → Numeral k → Suffixed c cs k

plain_of : (cs : List ℕ) (k : Token) → plain_number cs ≡ Some k → Plain cs k
plain_of cs k e = by_whole (magnitude cs) refl e
  where
    by_float : (b : Bool) → is_float cs ≡ b → (if b then Some (t.AbstractFloat (encode_utf8_all cs)) else None) ≡ Some k → Plain cs k
    by_float true h g = decimal h (sym (of_some g))
    by_float false h g = absurd cc

    by_whole : (m : Option ℕ) → magnitude cs ≡ m → option_or (option_map abstract_token m) (if is_float cs then Some (t.AbstractFloat (encode_utf8_all cs)) else None) ≡ Some k → Plain cs k
    by_whole None h g = by_float (is_float cs) refl g
    by_whole (Some v) h g = whole v h (sym (of_some g))

suffixed_of : (c : ℕ) (cs : List ℕ) (k : Token) → number_with c cs ≡ Some k → Suffixed c cs k
suffixed_of c cs k e = by_suffix (c == 105) (c == 117) (c == 102) (c == 104) (takes_float_suffix cs) refl refl refl refl refl e
  where
    by_whole : (m : Option ℕ) (f : ℕ → Token) → ((v : ℕ) → Numeral (f v)) → ((c == 105) || (c == 117)) ≡ true → magnitude cs ≡ m → option_map f m ≡ Some k → Suffixed c cs k
    by_whole None f n s h g = absurd cc
    by_whole (Some v) f n s h g = by_value v h s (subst Numeral (of_some g) (n v))

    by_suffix : (i u f h b : Bool) → (c == 105) ≡ i → (c == 117) ≡ u → (c == 102) ≡ f → (c == 104) ≡ h → takes_float_suffix cs ≡ b
        → (if i then option_map signed_token (magnitude cs)
        else (if u then option_map unsigned_token (magnitude cs)
        else (if f && b then Some (t.F32 (encode_utf8_all cs)) else (if h && b then Some (t.F16 (encode_utf8_all cs)) else None)))) ≡ Some k
        → Suffixed c cs k
    by_suffix true u f h b ei eu ef eh eb g = by_whole (magnitude cs) signed_token signed_numeral (or_left (c == 105) (c == 117) ei) refl g
    by_suffix false true f h b ei eu ef eh eb g = by_whole (magnitude cs) unsigned_token unsigned_numeral (or_right (c == 105) (c == 117) eu) refl g
    by_suffix false false true h true ei eu ef eh eb g = by_text eb (or_left (c == 102) (c == 104) ef) (subst Numeral (of_some g) (single (encode_utf8_all cs)))
    by_suffix false false true true false ei eu ef eh eb g = absurd cc
    by_suffix false false true false false ei eu ef eh eb g = absurd cc
    by_suffix false false false true true ei eu ef eh eb g = by_text eb (or_right (c == 102) (c == 104) eh) (subst Numeral (of_some g) (half (encode_utf8_all cs)))
    by_suffix false false false true false ei eu ef eh eb g = absurd cc
    by_suffix false false false false b ei eu ef eh eb g = absurd cc

-- a number is one or the other
data Numbered : List ℕ → Token → Type 0 where
  plainly : {cs : List ℕ} {k : Token} → Plain cs k → Numbered cs k
  with_suffix : {cs : List ℕ} {c : ℕ} {k : Token} → Suffixed c cs k → Numbered (cs ++ c ∷ []) k

number_of : (cs : List ℕ) (k : Token) → number_token cs ≡ Some k → Numbered cs k
number_of cs k e = elim (ends cs) as (λ ds x. number_token ds ≡ Some k → Numbered ds k) [
  | nothing ↦ λ h. plainly (plain_of [] k (of_either (plain_number []) k h))
  | last ds c ↦ λ h. by_plain ds c (plain_number (ds ++ c ∷ [])) refl (sym (number_token-append ds c) ∙ h)
] e
  where
    of_either : (o : Option Token) (k : Token) → option_or o None ≡ Some k → o ≡ Some k
    of_either None k h = h
    of_either (Some x) k h = h

    by_plain : (ds : List ℕ) (c : ℕ) (o : Option Token) → plain_number (ds ++ c ∷ []) ≡ o → option_or o (number_with c ds) ≡ Some k → Numbered (ds ++ c ∷ []) k
    by_plain ds c None h g = with_suffix (suffixed_of c ds k g)
    by_plain ds c (Some x) h g = plainly (plain_of (ds ++ c ∷ []) k (h ∙ g))

pub number_chars : (cs : List ℕ) (k : Token) → number_token cs ≡ Some k → list_all is_number_char cs ≡ true
number_chars cs k e = elim (number_of cs k e) as (λ ds j x. list_all is_number_char ds ≡ true) [
  | plainly p ↦ of_plain p
  | with_suffix s ↦ of_suffixed s
]
  where
    of_plain : {ds : List ℕ} {j : Token} → Plain ds j → list_all is_number_char ds ≡ true
    of_plain {ds = ds} (whole v h g) = whole_chars ds v h
    of_plain {ds = ds} (decimal h g) = as_number_chars ds (float_chars ds h)

    at_end : (ds : List ℕ) (c : ℕ) → list_all is_number_char ds ≡ true → is_number_char c ≡ true → list_all is_number_char (ds ++ c ∷ []) ≡ true
    at_end ds c h g = list_all-append is_number_char ds (c ∷ []) ∙ (λ i. h i && (g i && true))

    of_suffixed : {c : ℕ} {ds : List ℕ} {j : Token} → Suffixed c ds j → list_all is_number_char (ds ++ c ∷ []) ≡ true
    of_suffixed {c = c} {ds = ds} (by_value v h s n) = at_end ds c (whole_chars ds v h) (in_value c s)
      where
        in_value : (c : ℕ) → ((c == 105) || (c == 117)) ≡ true → is_number_char c ≡ true
        in_value c s = elim (or_cases (c == 105) (c == 117) s) [ inl x ↦ ap is_number_char (eqb-true c 105 x) | inr x ↦ ap is_number_char (eqb-true c 117 x) ]
    of_suffixed {c = c} {ds = ds} (by_text h s n) = at_end ds c (as_number_chars ds (takes_chars ds h)) (in_text c s)
      where
        in_text : (c : ℕ) → ((c == 102) || (c == 104)) ≡ true → is_number_char c ≡ true
        in_text c s = elim (or_cases (c == 102) (c == 104) s) [ inl x ↦ ap is_number_char (eqb-true c 102 x) | inr x ↦ ap is_number_char (eqb-true c 104 x) ]

pub number_numeral : (cs : List ℕ) (k : Token) → number_token cs ≡ Some k → Numeral k
number_numeral cs k e = elim (number_of cs k e) as (λ ds j x. Numeral j) [
  | plainly p ↦ of_plain p
  | with_suffix s ↦ of_suffixed s
]
  where
    of_plain : {ds : List ℕ} {j : Token} → Plain ds j → Numeral j
    of_plain (whole v h g) = subst Numeral (sym g) (abstract_numeral v)
    of_plain {ds = ds} (decimal h g) = subst Numeral (sym g) (float (encode_utf8_all ds))

    of_suffixed : {c : ℕ} {ds : List ℕ} {j : Token} → Suffixed c ds j → Numeral j
    of_suffixed (by_value v h s n) = n
    of_suffixed (by_text h s n) = n
