-- Whole numbers in decimal that nothing behind them makes longer.
use Rattle.std.specs.Prelude.{nat_lt, Option, Some, slice_get}
use Rattle.std.proofs.Common.{◌≡◌, ℕ, zero, suc, ◌+◌, ◌<◌, Bool, true, false, ◌&&◌, ◌||◌, ◌==◌, List, [], ◌∷◌, length, take, drop, get_or, refl, sym, ◌∙◌, ap, subst, arith, length-append, length-take-le, length-drop, take-add, ◌-◌}
use Rattle.std.specs.List.{list_all}
use Rattle.std.specs.Char.{is_ascii_digit, encode_utf8, len_utf8}
use Rattle.std.specs.Str.{encode_utf8_all}
use Rattle.std.proofs.lemmas.Bool.{lt-ltb, ltb-true}
use Rattle.std.proofs.lemmas.List.{drop-drop}
use Rattle.std.proofs.lemmas.Str.{length-encode, len_utf8_ascii}
use Rattle.wgsl_token.specs.declared.token.Token.{Token}
use Rattle.wgsl_token.specs.declared.token.Token.TheVariants.{AbstractFloat}
use Rattle.wgsl_lex.specs.declared.float.Base.TheVariants.{Decimal}
use Rattle.wgsl_lex.specs.Floats.{is_point, is_zero, is_mark, is_e}
use Rattle.wgsl_lex.specs.Tokens.{size, digit_value, abstract_token, signed_token, unsigned_token}
use Rattle.wgsl_lex.specs.Runs.{IsRun, IsValue, value_behind}
use Rattle.wgsl_lex.specs.Pieces.{StandsFirst, IsShortWord, HasMagnitude, IsWholeStem, IsFloatStem, IsFloatFront, begins, makes_more, goes_on, fraction, no_fraction}
use Rattle.wgsl_lex.proofs.Bools.{not_both, and_false, is_number, differs, neither}
use Rattle.wgsl_lex.proofs.Classes.{digit_passes}
use Rattle.wgsl_lex.proofs.First.{decimal_has, zero_has}
use Rattle.wgsl_lex.proofs.Floats.{decimal_front, float_made, no_float_made, no_exponent_front, whole_stem, longer_stem, float_stands, get_within, signed_stands, unsigned_stands, abstract_stands, suffix_missing}
use Rattle.wgsl_lex.proofs.Longest.{longest_run}
use Rattle.wgsl_lex.proofs.Numbers.{zero_longest}
use Rattle.wgsl_lex.proofs.Sizes.{size_more, size-append}
use Rattle.wgsl_base.proofs.Bools.{and_both as both}

-- what nothing more begins with
record Ended (rest : List ℕ) : Type 0 where
  point : begins is_point rest ≡ false
  power : begins is_e rest ≡ false
  mark : begins is_mark rest ≡ false
  single : slice_get rest 0 ≡ Some 102 → ⊥
  half : slice_get rest 0 ≡ Some 104 → ⊥

ends : (rest : List ℕ) → begins makes_more rest ≡ false → Ended rest
ends [] e = record { point = refl; power = refl; mark = refl; single = λ h. cc; half = λ h. cc }
ends (c ∷ cs) e =
    let h = neither _ (c == 104) e in
    let g = neither _ (c == 102) h.0 in
    let f = neither _ (c == 88) g.0 in
    let d = neither _ (c == 120) f.0 in
    let b = neither _ (c == 69) d.0 in
    let a = neither (c == 46) (c == 101) b.0 in
    record { point = a.0; power = rw (a.1, b.1); mark = rw (d.1, f.1); single = other 102 refl g.1; half = other 104 refl h.1 }
  where
    other : (k : ℕ) → (k == k) ≡ true → (c == k) ≡ false → Some c ≡ Some k → ⊥
    other k self differ is = let same : c ≡ k = cc in not_both _ (ap (λ x. x == k) same ∙ self) differ

not_going_on : (cs : List ℕ) → begins is_mark cs ≡ false → goes_on cs ≡ false
not_going_on [] e = refl
not_going_on (c ∷ []) e = refl
not_going_on (c ∷ d ∷ cs) e = rw e

digit_low : (c : ℕ) → is_ascii_digit c ≡ true → c < 128
digit_low c digit = ltb-true c 128 (digit_passes (λ x. nat_lt x 128) refl c digit)

size_behind : (c : ℕ) (cs : List ℕ) → size (c ∷ cs) ≡ len_utf8 c + size cs
size_behind c cs = length-append (encode_utf8 c) (encode_utf8_all cs) ∙ ap (λ n. n + size cs) (length-encode c)

-- a digit before a run of digits
digits_run : (c : ℕ) (behind : List ℕ) (n : ℕ) → is_ascii_digit c ≡ true → IsRun is_ascii_digit behind n → IsRun is_ascii_digit (c ∷ behind) (suc n)
digits_run c behind n digit run = record { within = omega (arith, run.within); each = each; stops = λ h. run.stops (omega arith) }
  where
    each : (k : ℕ) → k < suc n → is_ascii_digit (get_or (c ∷ behind) k 0) ≡ true
    each zero h = digit
    each (suc k) h = run.each k (omega arith)

-- each digit has one byte
digits_size : (cs : List ℕ) → list_all is_ascii_digit cs ≡ true → size cs ≡ length cs
digits_size [] all = refl
digits_size (c ∷ cs) all =
    let parts = both (is_ascii_digit c) (list_all is_ascii_digit cs) all in
    omega (arith, size_behind c cs, len_utf8_ascii c (digit_low c parts.0), digits_size cs parts.1)

get_is : (cs : List ℕ) (n s : ℕ) → slice_get cs n ≡ Some s → s ≡ get_or cs n s
get_is [] n s e = cc
get_is (c ∷ cs) zero s e = let same : c ≡ s = cc in sym same
get_is (c ∷ cs) (suc n) s e = get_is cs n s e

led_none : (c n : ℕ) → (is_zero c && nat_lt 0 n) ≡ false → c ≡ 48 → n ≡ 0
led_none c zero e same = refl
led_none c (suc n) e same =
    let led : is_zero c ≡ true = ap is_zero same in
    let some : nat_lt 0 (suc n) ≡ true = lt-ltb 0 (suc n) (omega arith) in
    absurd (not_both _ (λ i. led i && some i) e)

module _ (c : ℕ) (behind digits rest : List ℕ) (n start : ℕ) (word : Option ℕ) (digit : is_ascii_digit c ≡ true) (run : IsRun is_ascii_digit behind n) (front : digits ≡ take n behind) (back : rest ≡ drop n behind)
    (ended : ((is_zero c && nat_lt 0 n) || begins makes_more rest) ≡ false) (first : start ≡ digit_value c) (value : IsValue word (value_behind 10 start digits)) where
  none : (is_zero c && nat_lt 0 n) ≡ false × begins makes_more rest ≡ false
  none = neither (is_zero c && nat_lt 0 n) (begins makes_more rest) ended

  past : Ended rest
  past = ends rest none.1

  abbrev V : ℕ → Type 0
  V v = IsValue word v

  unmarked : c ≡ 48 → begins is_mark behind ≡ false
  unmarked same = let whole : rest ≡ behind = back ∙ ap (λ k. drop k behind) (led_none c n none.0 same) in ap (begins is_mark) (sym whole) ∙ past.mark

  has : HasMagnitude c behind n word
  has = by_zero (is_zero c) refl
    where
      by_zero : (b : Bool) → is_zero c ≡ b → HasMagnitude c behind n word
      by_zero false h =
          let counted : length digits ≡ n = ap length front ∙ length-take-le n behind run.within in
          let P : ℕ → Type 0 = λ k. HasMagnitude c behind k word in
          subst P counted (decimal_has c behind digits n word digit (λ same. not_both _ (ap is_zero same) h) run front counted (subst V (ap (λ s. value_behind 10 s digits) first) value))
      by_zero true h =
          let same : c ≡ 48 = is_number c 48 h in
          let no : n ≡ 0 = led_none c n none.0 same in
          let zeroth : start ≡ 0 = first ∙ ap digit_value same in
          let empty : digits ≡ [] = front ∙ ap (λ k. take k behind) no in
          let P : ℕ × ℕ → Type 0 = λ x. HasMagnitude x.0 behind x.1 word in
          subst P (λ i. (sym same i, sym no i)) (record { value = 0; longest = zero_longest behind (not_going_on behind (unmarked same)); is_value = subst V (λ i. value_behind 10 (zeroth i) (empty i)) value })

  run_here : IsRun is_ascii_digit (c ∷ behind) (suc n)
  run_here = digits_run c behind n digit run

  no_float : IsFloatFront (c ∷ behind) (record { length = 0; takes_suffix = true })
  no_float =
      decimal_front (c ∷ behind) (record { length = 0; takes_suffix = false }) (by_zero (is_zero c) refl)
      (no_float_made Decimal (c ∷ behind) rest rest (suc n) 0 0 run_here back (no_fraction past.point) refl (no_exponent_front is_e rest past.power) (and_false (nat_lt 0 (suc n) || nat_lt 1 0)))
    where
      by_zero : (b : Bool) → is_zero c ≡ b → (is_zero c && begins is_mark behind) ≡ false
      by_zero false h = rw h
      by_zero true h = ap (λ b. is_zero c && b) (unmarked (is_number c 48 h)) ∙ and_false (is_zero c)

  stem : IsWholeStem c (take n behind) (drop n behind) word
  stem = whole_stem (c ∷ behind) c behind (record { length = 0; takes_suffix = true }) n word refl digit run.within has no_float (omega arith)

  no_angle : ((c == 60) || (c == 62)) ≡ false
  no_angle = rw (differs is_ascii_digit c 60 digit refl, differs is_ascii_digit c 62 digit refl)

  sized : size (take (n + 1) (c ∷ behind)) ≡ n + 1
  sized =
      let next : suc n ≡ n + 1 = omega arith in
      let all : list_all is_ascii_digit (take (suc n) (c ∷ behind)) ≡ true = (longest_run is_ascii_digit (c ∷ behind) (suc n) run_here).passes in
      ap (λ k. size (take k (c ∷ behind))) (sym next) ∙ digits_size (take (suc n) (c ∷ behind)) all ∙ length-take-le (suc n) (c ∷ behind) run_here.within ∙ next

  pub plain_number : (t : Token) → (slice_get behind n ≡ Some 105 → ⊥) → (slice_get behind n ≡ Some 117 → ⊥) → ((v : ℕ) → IsValue word v → t ≡ abstract_token v) → IsShortWord c behind (record { length = n + 1; token = t })
  plain_number t not_i not_u is = record {
    within = omega (arith, run.within);
    bytes = sized;
    angle = no_angle;
    stands = abstract_stands c behind n word stem t digits rest front back not_i not_u (suffix_missing (c ∷ digits) rest past.single past.half) is;
  }

  -- with a suffix in ASCII
  suffixed : (s : ℕ) (t : Token) → s < 128 → slice_get behind n ≡ Some s → StandsFirst (c ∷ behind) (n + 2) (Some t) → IsShortWord c behind (record { length = n + 2; token = t })
  suffixed s t low at stands =
      let room : n < length behind = get_within behind n s at in
      let next : suc n ≡ n + 1 = omega arith in
      let here : s ≡ get_or (c ∷ behind) (n + 1) s = get_is behind n s at ∙ ap (λ k. get_or (c ∷ behind) k s) next in
      let more : (n + 1) + 1 ≡ n + 2 = omega arith in
      let bytes : size (take ((n + 1) + 1) (c ∷ behind)) ≡ n + 2 = omega (arith, size_more (c ∷ behind) (n + 1) s (omega arith) here, sized, len_utf8_ascii s low) in
      record { within = omega arith; bytes = ap (λ k. size (take k (c ∷ behind))) (sym more) ∙ bytes; angle = no_angle; stands = stands }

  pub signed_number : (t : Token) → slice_get behind n ≡ Some 105 → ((v : ℕ) → IsValue word v → t ≡ signed_token v) → IsShortWord c behind (record { length = n + 2; token = t })
  signed_number t at is = suffixed 105 t (omega arith) at (signed_stands c behind n word stem t at is)

  pub unsigned_number : (t : Token) → slice_get behind n ≡ Some 117 → ((v : ℕ) → IsValue word v → t ≡ unsigned_token v) → IsShortWord c behind (record { length = n + 2; token = t })
  unsigned_number t at is = suffixed 117 t (omega arith) at (unsigned_stands c behind n word stem t at is)

-- floats of digits, a point and digits
module _ (c : ℕ) (behind rest tail front left : List ℕ) (n k : ℕ) (digit : is_ascii_digit c ≡ true) (run : IsRun is_ascii_digit behind n) (back : rest ≡ drop n behind) (is : rest ≡ 46 ∷ tail) (inner : IsRun is_ascii_digit tail k)
    (f : front ≡ take (n + 1 + k) behind) (l : left ≡ drop (n + 1 + k) behind) (ended : ((is_zero c && nat_lt 0 n) || begins makes_more left) ≡ false) where
  clear : (is_zero c && nat_lt 0 n) ≡ false × begins makes_more left ≡ false
  clear = neither (is_zero c && nat_lt 0 n) (begins makes_more left) ended

  behind_it : Ended left
  behind_it = ends left clear.1

  pointed : c ≡ 48 → begins is_mark behind ≡ false
  pointed same = let whole : behind ≡ 46 ∷ tail = sym (back ∙ ap (λ m. drop m behind) (led_none c n clear.0 same)) ∙ is in ap (begins is_mark) whole

  one : 1 + k ≡ suc k
  one = omega arith

  past_point : left ≡ drop (1 + k) rest
  past_point =
      let sum : n + 1 + k ≡ n + (1 + k) = omega arith in
      l ∙ ap (λ m. drop m behind) sum ∙ sym (drop-drop (1 + k) n behind) ∙ ap (drop (1 + k)) (sym back)

  float_here : IsFloatFront (c ∷ behind) (record { length = suc n + (1 + k) + 0; takes_suffix = true })
  float_here =
      let whole : nat_lt 0 (suc n) ≡ true = lt-ltb 0 (suc n) (omega arith) in
      let point : nat_lt 0 (1 + k) ≡ true = lt-ltb 0 (1 + k) (omega arith) in
      decimal_front (c ∷ behind) (record { length = suc n + (1 + k) + 0; takes_suffix = nat_lt 0 0 }) (by_zero (is_zero c) refl)
      (float_made Decimal (c ∷ behind) rest left (suc n) (1 + k) 0 (digits_run c behind n digit run) back (fraction is inner) past_point (no_exponent_front is_e left behind_it.power)
      (λ i. (whole i || nat_lt 1 (1 + k)) && (point i || nat_lt 0 0)))
    where
      by_zero : (b : Bool) → is_zero c ≡ b → (is_zero c && begins is_mark behind) ≡ false
      by_zero false h = rw h
      by_zero true h = ap (λ b. is_zero c && b) (pointed (is_number c 48 h)) ∙ and_false (is_zero c)

  longer_than : (word : Option ℕ) → HasMagnitude c behind n word → IsFloatStem c (take (n + 1 + k) behind) (drop (n + 1 + k) behind) true
  longer_than word has =
      let count : suc n + (1 + k) + 0 - 1 ≡ n + 1 + k = omega arith in
      let P : ℕ → Type 0 = λ m. IsFloatStem c (take m behind) (drop m behind) true in
      subst P count (longer_stem (c ∷ behind) c behind (record { length = suc n + (1 + k) + 0; takes_suffix = true }) n word refl has float_here (omega arith))

  float_stem : IsFloatStem c (take (n + 1 + k) behind) (drop (n + 1 + k) behind) true
  float_stem = by_zero (is_zero c) refl
    where
      by_zero : (b : Bool) → is_zero c ≡ b → IsFloatStem c (take (n + 1 + k) behind) (drop (n + 1 + k) behind) true
      by_zero false h =
          let word : Option ℕ = Some (value_behind 10 (digit_value c) (take n behind)) in
          let counted : length (take n behind) ≡ n = length-take-le n behind run.within in
          let P : ℕ → Type 0 = λ m. HasMagnitude c behind m word in
          longer_than word (subst P counted (decimal_has c behind (take n behind) n word digit (λ same. not_both _ (ap is_zero same) h) run refl counted refl))
      by_zero true h =
          let same : c ≡ 48 = is_number c 48 h in
          let no : n ≡ 0 = led_none c n clear.0 same in
          let P : ℕ × ℕ → Type 0 = λ x. HasMagnitude x.0 behind x.1 (Some 0) in
          longer_than (Some 0) (subst P (λ i. (sym same i, sym no i)) (zero_has behind (not_going_on behind (pointed same))))

  float_sized : size (take (n + 1 + k + 1) (c ∷ behind)) ≡ n + 1 + k + 1
  float_sized =
      let sum : n + 1 + k + 1 ≡ suc n + suc k = omega arith in
      let run' = digits_run c behind n digit run in
      let before : List ℕ = take (suc n) (c ∷ behind) in
      let after : take (suc k) (drop n behind) ≡ 46 ∷ take k tail = ap (take (suc k)) (sym back ∙ is) in
      let whole : size before ≡ suc n = digits_size before (longest_run is_ascii_digit (c ∷ behind) (suc n) run').passes ∙ length-take-le (suc n) (c ∷ behind) run'.within in
      let part : size (take k tail) ≡ k = digits_size (take k tail) (longest_run is_ascii_digit tail k inner).passes ∙ length-take-le k tail inner.within in
      let point : size (46 ∷ take k tail) ≡ len_utf8 46 + size (take k tail) = size_behind 46 (take k tail) in
      ap (λ m. size (take m (c ∷ behind))) sum ∙ ap size (take-add (suc n) (suc k) (c ∷ behind)) ∙ size-append before (take (suc k) (drop n behind))
      ∙ omega (arith, whole, ap size after, point, part, len_utf8_ascii 46 (omega arith))

  pub short_float_is : (text : List ℕ) → text ≡ encode_utf8_all (c ∷ front) → IsShortWord c behind (record { length = n + 1 + k + 1; token = AbstractFloat text })
  short_float_is text spelled = record {
    within = let room : n < length behind = omega (arith, ap length back, ap length is, length-drop n behind) in omega (arith, inner.within, ap length back, ap length is, length-drop n behind);
    bytes = float_sized;
    angle = rw (differs is_ascii_digit c 60 digit refl, differs is_ascii_digit c 62 digit refl);
    stands = float_stands c behind (n + 1 + k) true float_stem text front left f l (suffix_missing (c ∷ front) left behind_it.single behind_it.half) spelled;
  }
