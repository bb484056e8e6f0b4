-- Whole numbers in decimal are read as the tokens that they stand for.
use Rattle.std.proofs.Common.{◌≡◌, refl, sym, ap, ◌∙◌, ℕ, zero, suc, ◌+◌, ◌*◌, ◌^◌, ◌<◌, ◌≤◌, ◌/◌, ◌%◌, Bool, true, false, not, nat_lt, ◌&&◌, ◌==◌, List, [], ◌∷◌, ◌++◌, append_assoc, append-nil, arith, lit<, mod-lt, reverse, codes, Option, Some, None, pos}
use Rattle.std.specs.Prelude.{nat_le, if◌then◌else◌}
use Rattle.std.specs.Option.{option_map, option_or}
use Rattle.std.specs.List.{list_all}
use Rattle.std.specs.Char.{is_ascii_digit}
use Rattle.std.specs.Str.{encode_utf8_all}
use Rattle.std.specs.Fmt.{decimal}
use Rattle.std.proofs.lemmas.Bool.{leb-true, le-leb, lt-ltb, ne_eqb, and_parts, and_from}
use Rattle.std.proofs.lemmas.List.Folds.{list_all-append}
use Rattle.std.proofs.lemmas.List.Sums.{fold-append}
use Rattle.std.proofs.lemmas.Nat.{div-add-mod'}
use Rattle.std.proofs.lemmas.Fmt.{decimal_by_steps, decimal_digit}
use Rattle.wgsl_lex.specs.Token.{Token}
use Rattle.wgsl_lex.specs.Token.TheVariants as t
use Rattle.wgsl_lex.specs.Floats.{is_float}
use Rattle.wgsl_lex.specs.Tokens.{form, token, digit_value, digits_value, magnitude, abstract_token, signed_token, unsigned_token, plain_number, suffixed_number, number_token, NoLonger}
use Rattle.wgsl_lex.proofs.Forms.{digit_form, number_token-append}
use Rattle.wgsl_print_laws.proofs.Forms.{is_magnitude_char, is_float_char, is_number_char, all_weaker, magnitude_chars, float_chars, number_chars}
use Rattle.wgsl_print_laws.proofs.Marks.{stops, no_longer, all_fails, at_stop}

-- a number in decimal
pub record IsDecimal (n : ℕ) (ds : List ℕ) : Type 0 where
  pub first : ℕ
  pub others : List ℕ
  pub are : ds ≡ first ∷ others
  pub digits : list_all is_ascii_digit ds ≡ true
  pub value : digits_value 10 ds ≡ n
  pub leads : 0 < n → 48 < first

digit_is : (n : ℕ) → n < 10 → is_ascii_digit (48 + n) ≡ true
digit_is n small = and_from _ _ (le-leb 48 (48 + n) (omega arith)) (le-leb (48 + n) 57 (omega arith))

digit_value_is : (n : ℕ) → n < 10 → digit_value (48 + n) ≡ n
digit_value_is n small = let low : nat_le (48 + n) 57 ≡ true = le-leb (48 + n) 57 (omega arith) in rw low (omega arith)

one_digit : (n : ℕ) → n < 10 → IsDecimal n ((48 + n) ∷ [])
one_digit n small = record {
  first = 48 + n;
  others = [];
  are = refl;
  digits = ap (λ b. b && true) (digit_is n small);
  value = omega (arith, digit_value_is n small);
  leads = λ some. omega arith;
}

more_digits : (n : ℕ) (ds : List ℕ) → 10 ≤ n → IsDecimal (n / 10) ds → IsDecimal n (ds ++ ((48 + n % 10) ∷ []))
more_digits n ds large d =
    let split : n / 10 * 10 + n % 10 ≡ n = div-add-mod' n 10 in
    let small : n % 10 < 10 = mod-lt n (lit< tt) in
    record {
      first = d.first;
      others = d.others ++ ((48 + n % 10) ∷ []);
      are = ap (λ l. l ++ ((48 + n % 10) ∷ [])) d.are;
      digits = list_all-append is_ascii_digit ds ((48 + n % 10) ∷ []) ∙ (λ k. d.digits k && (digit_is (n % 10) small k && true));
      value = fold-append (λ m c. m * 10 + digit_value c) 0 ds ((48 + n % 10) ∷ []) ∙ (λ k. d.value k * 10 + digit_value_is (n % 10) small k) ∙ split;
      leads = λ some. d.leads (omega (arith, split, small));
    }

pub decimal_is : (n : ℕ) → n < 2 ^ 64 → IsDecimal n (decimal n)
decimal_is n small = decimal_by_steps IsDecimal one_digit more_digits n small

magnitude_of : (n : ℕ) (c : ℕ) (cs : List ℕ) → list_all is_ascii_digit (c ∷ cs) ≡ true → digits_value 10 (c ∷ cs) ≡ n → 48 < c → magnitude (c ∷ cs) ≡ Some n
magnitude_of n c cs digits value leads =
    let other : (c == 48) ≡ false = ne_eqb c 48 (λ e. omega arith) in
    rw (other, digits) (ap Some value)

magnitude_decimal : (n : ℕ) → n < 2 ^ 64 → magnitude (decimal n) ≡ Some n
magnitude_decimal zero small = ap magnitude (decimal_digit 0 (omega arith))
magnitude_decimal (suc n) small =
    let d = decimal_is (suc n) small in
    ap magnitude d.are ∙ magnitude_of (suc n) d.first d.others (ap (list_all is_ascii_digit) (sym d.are) ∙ d.digits) (ap (digits_value 10) (sym d.are) ∙ d.value) (d.leads (omega arith))

-- a character that no number has
no_magnitude_with : (cs : List ℕ) (d : ℕ) (more : List ℕ) → is_magnitude_char d ≡ false → magnitude (cs ++ d ∷ more) ≡ None
no_magnitude_with cs d more h = go (magnitude (cs ++ d ∷ more)) refl
  where
    go : (m : Option ℕ) → magnitude (cs ++ d ∷ more) ≡ m → magnitude (cs ++ d ∷ more) ≡ None
    go None e = e
    go (Some v) e = let wrong : true ≡ false = sym (magnitude_chars (cs ++ d ∷ more) v e) ∙ all_fails is_magnitude_char cs d more h in absurd cc

-- no number without suffix either
no_plain_with : (cs : List ℕ) (d : ℕ) (more : List ℕ) → is_float_char d ≡ false → is_magnitude_char d ≡ false → plain_number (cs ++ d ∷ more) ≡ None
no_plain_with cs d more h g = rw (no_magnitude_with cs d more g, no_float (is_float (cs ++ d ∷ more)) refl)
  where
    no_float : (b : Bool) → is_float (cs ++ d ∷ more) ≡ b → is_float (cs ++ d ∷ more) ≡ false
    no_float false e = e
    no_float true e = let wrong : true ≡ false = sym (float_chars (cs ++ d ∷ more) e) ∙ all_fails is_float_char cs d more h in absurd cc

pub no_number_with : (cs : List ℕ) (d : ℕ) (more : List ℕ) → is_number_char d ≡ false → number_token (cs ++ d ∷ more) ≡ None
no_number_with cs d more h = go (number_token (cs ++ d ∷ more)) refl
  where
    go : (k : Option Token) → number_token (cs ++ d ∷ more) ≡ k → number_token (cs ++ d ∷ more) ≡ None
    go None e = e
    go (Some k) e = let wrong : true ≡ false = sym (number_chars (cs ++ d ∷ more) k e) ∙ all_fails is_number_char cs d more h in absurd cc

-- digits in front, whatever stands behind
first_digit : {n : ℕ} {ds : List ℕ} → (d : IsDecimal n ds) → is_ascii_digit d.first ≡ true
first_digit d = (and_parts (is_ascii_digit d.first) (list_all is_ascii_digit d.others) (ap (list_all is_ascii_digit) (sym d.are) ∙ d.digits)).0

form_of_digits : {n : ℕ} {ds : List ℕ} → IsDecimal n ds → (behind : List ℕ) → form (ds ++ behind) ≡ option_map token (number_token (ds ++ behind))
form_of_digits d behind = rw d.are (digit_form d.first (d.others ++ behind) (first_digit d))

pub number_no_longer : {n : ℕ} {ds : List ℕ} → IsDecimal n ds → (suffix rest : List ℕ) → stops rest ≡ true → NoLonger (ds ++ suffix) rest
number_no_longer {ds = ds} d suffix rest ok = no_longer stops (ds ++ suffix) rest ok (λ c more behind h.
    rw (append_assoc ds suffix (c ∷ more)) (form_of_digits d (suffix ++ c ∷ more)
    ∙ ap (option_map token) (rw (append_assoc ds suffix (c ∷ more)) at (no_number_with (ds ++ suffix) c more (at_stop is_number_char refl refl refl refl refl refl c h)))))

pub abstract_form : (n : ℕ) → n ≤ 9223372036854775807 → form (decimal n) ≡ Some (token (t.AbstractInt (pos n)))
abstract_form n range =
    let small : n < 2 ^ 64 = omega arith in
    rw (append-nil (decimal n)) at (form_of_digits (decimal_is n small) []) ∙ ap (option_map token)
    (ap (λ m. option_or (option_or (option_map abstract_token m) (if is_float (decimal n) then Some (t.AbstractFloat (encode_utf8_all (decimal n))) else None)) (suffixed_number (reverse (decimal n)))) (magnitude_decimal n small) ∙ ap (λ b. Some (if b then t.AbstractInt (pos n) else t.Invalid)) (le-leb n 9223372036854775807 range))

pub signed_form : (n : ℕ) → n ≤ 2147483647 → form (decimal n ++ codes "i") ≡ Some (token (t.I32 (pos n)))
signed_form n range =
    let small : n < 2 ^ 64 = omega arith in
    form_of_digits (decimal_is n small) (codes "i") ∙ ap (option_map token)
    (number_token-append (decimal n) 105 ∙ (λ k. option_or (no_plain_with (decimal n) 105 [] refl refl k) (option_map signed_token (magnitude_decimal n small k)))
    ∙ ap (λ b. Some (if b then t.I32 (pos n) else t.Invalid)) (le-leb n 2147483647 range))

pub unsigned_form : (n : ℕ) → n ≤ 4294967295 → form (decimal n ++ codes "u") ≡ Some (token (t.U32 n))
unsigned_form n range =
    let small : n < 2 ^ 64 = omega arith in
    form_of_digits (decimal_is n small) (codes "u") ∙ ap (option_map token)
    (number_token-append (decimal n) 117 ∙ (λ k. option_or (no_plain_with (decimal n) 117 [] refl refl k) (option_map unsigned_token (magnitude_decimal n small k)))
    ∙ ap (λ b. Some (if b then t.U32 n else t.Invalid)) (le-leb n 4294967295 range))

pub digits_are_ascii : {n : ℕ} {ds : List ℕ} → IsDecimal n ds → list_all (λ c. nat_lt c 128) ds ≡ true
digits_are_ascii {ds = ds} d = all_weaker is_ascii_digit (λ c. nat_lt c 128) (λ c h. let low : c ≤ 57 = leb-true c 57 (and_parts (nat_le 48 c) (nat_le c 57) h).1 in lt-ltb c 128 (omega arith)) ds d.digits

pub digit_is_no_sign : (c : ℕ) → is_ascii_digit c ≡ true → (not (c == 61) && not (c == 62)) ≡ true
digit_is_no_sign c h =
    let low : c ≤ 57 = leb-true c 57 (and_parts (nat_le 48 c) (nat_le c 57) h).1 in
    let one : (c == 61) ≡ false = ne_eqb c 61 (λ e. omega arith) in
    let two : (c == 62) ≡ false = ne_eqb c 62 (λ e. omega arith) in
    rw (one, two) refl

pub begins_with_digit : {n : ℕ} {ds : List ℕ} → (d : IsDecimal n ds) → is_ascii_digit d.first ≡ true
begins_with_digit d = first_digit d
