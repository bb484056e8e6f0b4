-- The longest floats and numbers at the front.
use Rattle.std.specs.Prelude.{◌≢◌, nat_lt, Option, Some, None, slice_get, if◌then◌else◌}
use Rattle.std.proofs.Common.{◌≡◌, ℕ, zero, suc, ◌+◌, ◌-◌, ◌<◌, ◌≤◌, Bool, true, false, not, ◌&&◌, ◌||◌, ◌==◌, ◌⊎◌, inl, inr, List, [], ◌∷◌, ◌++◌, length, take, drop, refl, sym, ◌∙◌, ap, subst, arith, append_assoc, append-nil, length-append, length-drop, length-take-le, take-append-drop, take-add}
use Rattle.std.specs.Option.{option_map}
use Rattle.std.specs.List.{list_all}
use Rattle.std.specs.Char.{is_ascii_digit, is_ascii_hexdigit}
use Rattle.std.proofs.lemmas.Bool.{lt-ltb}
use Rattle.std.proofs.lemmas.List.{drop-drop}
use Rattle.std.proofs.Math.Seq.{take-append_seam}
use Rattle.std.specs.Str.{encode_utf8_all}
use Rattle.wgsl_token.specs.declared.token.Token.{Token}
use Rattle.wgsl_token.specs.declared.token.Token.TheVariants.{AbstractFloat, F32, F16}
use Rattle.wgsl_lex.specs.declared.piece.Piece.{Piece}
use Rattle.wgsl_lex.specs.declared.float.Base.{Base}
use Rattle.wgsl_lex.specs.declared.float.Base.TheVariants.{Decimal, Hexadecimal}
use Rattle.wgsl_lex.specs.declared.float.Float.{Float}
use Rattle.wgsl_lex.specs.Floats.{empty, one, some, optional, is_point, is_sign, is_zero, is_mark, is_e, is_p, exponent, binary_exponent, float_of, hexadecimal, is_decimal_float, is_hexadecimal_float, is_float, is_decimal, takes_float_suffix}
use Rattle.wgsl_lex.specs.Tokens.{magnitude, zero_led_value, digits_value, plain_number, number_with, abstract_token, signed_token, unsigned_token, number_token, form, token, IsLongest}
use Rattle.wgsl_lex.specs.Runs.{IsRun, IsLongestFront, IsLongestMagnitude, IsValue}
use Rattle.wgsl_lex.specs.Pieces.{begins, digit_in, mark_in, sign_length, makes_float, is_marked, IsMarked, IsFractionAnswer, fraction, no_fraction, IsFloatOf, IsFloatFront, HasMagnitude, IsLongestStem, IsWholeStem, IsFloatStem, IsSuffixAnswer, suffix, no_suffix, opens_number, StandsFirst, token_first}
use Rattle.wgsl_lex.proofs.Bools.{not_both, and_false, or_true, is_number}
use Rattle.wgsl_lex.proofs.Patterns.{begins_take, Stays, one_begins, some_past, many_empty, plain_value, pointed_value, led_value, point_alone, no_digit, no_exponent, unsigned_value, signed_value}
use Rattle.wgsl_lex.proofs.Forms.{digit_form, opened_form, no_magnitude, no_float}
use Rattle.wgsl_lex.proofs.Longest.{longest_run}
use Rattle.wgsl_lex.proofs.First.{drop_one, one_more, piece_stands}
use Rattle.wgsl_lex.proofs.Numbers.{plain_longest, suffixed_longest}
use Rattle.wgsl_base.proofs.Bools.{and_both as both, or_cases as either, false_if as fails}

-- What stands behind a run doesn't begin with one more.
run_ends : (p : ℕ → Bool) (cs : List ℕ) (n : ℕ) → IsRun p cs n → begins p (drop n cs) ≡ false
run_ends p cs n run = stops (drop n cs) refl
  where
    stops : (ds : List ℕ) → drop n cs ≡ ds → begins p ds ≡ false
    stops [] e = refl
    stops (d ∷ ds) e =
        let long = longest_run p cs n run in
        let wrong : list_all p (take n cs ++ d ∷ []) ≡ false = long.longest (d ∷ []) ds (λ k. cc) e in
        fails (p d) (λ passes. not_both _ (appended (take n cs) long.passes passes) wrong)
      where
        appended : (xs : List ℕ) → list_all p xs ≡ true → p d ≡ true → list_all p (xs ++ d ∷ []) ≡ true
        appended [] h k = rw k
        appended (x ∷ xs) h k = let parts = both (p x) (list_all p xs) h in rw parts.0 (appended xs parts.1 k)

run_passes : (p : ℕ → Bool) (cs : List ℕ) (n : ℕ) → IsRun p cs n → list_all p (take n cs) ≡ true
run_passes p cs n run = (longest_run p cs n run).passes

-- fewer of a run pass too
fewer_pass : (p : ℕ → Bool) (cs : List ℕ) (n k : ℕ) → list_all p (take n cs) ≡ true → k ≤ n → list_all p (take k cs) ≡ true
fewer_pass p cs n zero all h = refl
fewer_pass p [] n (suc k) all h = refl
fewer_pass p (c ∷ cs) zero (suc k) all h = absurd (omega arith)
fewer_pass p (c ∷ cs) (suc n) (suc k) all h = let parts = both (p c) (list_all p (take n cs)) all in rw parts.0 (fewer_pass p cs n k parts.1 (omega arith))

-- Exponents

no_empty : (cs : List ℕ) (k : ℕ) → 0 < k → k ≤ length cs → empty (take k cs) ≡ false
no_empty cs zero h l = absurd (omega arith)
no_empty [] (suc k) h l = absurd (omega arith)
no_empty (c ∷ cs) (suc k) h l = refl

abbrev digits : List ℕ → Bool
digits cs = some is_ascii_digit empty cs

-- how many of the front are an exponent, with so many digits behind a sign or none
abbrev pub exponent_of : ℕ → ℕ → ℕ
exponent_of sign zero = 0
exponent_of sign (suc n) = 1 + sign + suc n

-- a run of digits, in the front of which k are taken
digits_front : (cs : List ℕ) (n k : ℕ) → IsRun is_ascii_digit cs n → k ≤ length cs → ((k ≡ n) → 0 < n → digits (take k cs) ≡ true) × (n < k → digits (take k cs) ≡ false)
digits_front cs zero k run h = (λ e some. absurd (omega arith), λ more. one_begins is_ascii_digit _ (take k cs) (begins_take is_ascii_digit cs k (run_ends is_ascii_digit cs 0 run)))
digits_front [] (suc n) k run h = absurd (omega (arith, run.within))
digits_front (c ∷ cs) (suc n) k run h = (exactly, more)
  where
    all : list_all is_ascii_digit (c ∷ take n cs) ≡ true
    all = run_passes is_ascii_digit (c ∷ cs) (suc n) run

    exactly : k ≡ suc n → 0 < suc n → digits (take k (c ∷ cs)) ≡ true
    exactly e some =
        ap (λ j. digits (take j (c ∷ cs))) e ∙ ap (λ xs. digits (c ∷ xs)) (sym (append-nil (take n cs))) ∙ some_past is_ascii_digit empty (λ d ds i. refl) c (take n cs) [] all refl

    more : suc n < k → digits (take k (c ∷ cs)) ≡ false
    more h' =
        let parts : suc n + (k - suc n) ≡ k = omega arith in
        let back : List ℕ = take (k - suc n) (drop n cs) in
        let front : take k (c ∷ cs) ≡ c ∷ (take n cs ++ back) = ap (λ j. take j (c ∷ cs)) (sym parts) ∙ take-add (suc n) (k - suc n) (c ∷ cs) in
        ap digits front ∙ some_past is_ascii_digit empty (λ d ds i. refl) c (take n cs) back all (begins_take is_ascii_digit (drop n cs) (k - suc n) (run_ends is_ascii_digit (c ∷ cs) (suc n) run))
        ∙ no_empty (drop n cs) (k - suc n) (omega arith) (omega (arith, length-drop n cs))

sign_is_no_digit : (c : ℕ) → is_sign c ≡ true → is_ascii_digit c ≡ false
sign_is_no_digit c h = by_plus (c == 43) refl
  where
    by_plus : (b : Bool) → (c == 43) ≡ b → is_ascii_digit c ≡ false
    by_plus true e = ap is_ascii_digit (is_number c 43 e)
    by_plus false e = let minus : (c == 45) ≡ true = rw e at h in ap is_ascii_digit (is_number c 45 minus)

module _ (mark : ℕ → Bool) (m : ℕ) (marks : mark m ≡ true) where
  -- one character alone is none
  mark_alone : exponent mark (m ∷ []) ≡ false
  mark_alone = unsigned_value mark m [] marks refl

  signless : (cs : List ℕ) (n : ℕ) → begins is_sign cs ≡ false → IsRun is_ascii_digit cs n → IsLongestFront (exponent mark) (m ∷ cs) (exponent_of 0 n)
  signless cs n unsigned run = by_length n run
    where
      value : (j : ℕ) → exponent mark (m ∷ take j cs) ≡ digits (take j cs)
      value j = unsigned_value mark m (take j cs) marks (begins_take is_sign cs j unsigned)

      stops : (n : ℕ) → IsRun is_ascii_digit cs n → (k : ℕ) → n + 1 < k → k ≤ suc (length cs) → exponent mark (take k (m ∷ cs)) ≡ false
      stops n r zero h l = absurd (omega arith)
      stops n r (suc j) h l = value j ∙ (digits_front cs n j r (omega arith)).1 (omega arith)

      by_length : (n : ℕ) → IsRun is_ascii_digit cs n → IsLongestFront (exponent mark) (m ∷ cs) (exponent_of 0 n)
      by_length zero r = record { within = omega arith; passes = λ h. absurd (omega arith); longest = none }
        where
          none : (k : ℕ) → 0 < k → k ≤ suc (length cs) → exponent mark (take k (m ∷ cs)) ≡ false
          none zero h l = absurd (omega arith)
          none (suc zero) h l = mark_alone
          none (suc (suc j)) h l = stops 0 r (suc (suc j)) (omega arith) l
      by_length (suc n') r =
          let long : suc (suc n') ≡ exponent_of 0 (suc n') = omega arith in
          let P : ℕ → Type 0 = λ k. IsLongestFront (exponent mark) (m ∷ cs) k in
          subst P long (record {
            within = omega (arith, r.within);
            passes = λ h. value (suc n') ∙ (digits_front cs (suc n') (suc n') r r.within).0 refl (omega arith);
            longest = λ k h l. stops (suc n') r k (omega arith) l;
          })

  signed : (s : ℕ) (cs : List ℕ) (n : ℕ) → is_sign s ≡ true → IsRun is_ascii_digit cs n → IsLongestFront (exponent mark) (m ∷ s ∷ cs) (exponent_of 1 n)
  signed s cs n sign run = by_length n run
    where
      value : (xs : List ℕ) → exponent mark (m ∷ s ∷ xs) ≡ digits xs
      value xs = signed_value mark m s xs marks sign (sign_is_no_digit s sign)

      stops : (n : ℕ) → IsRun is_ascii_digit cs n → (k : ℕ) → n + 2 < k → k ≤ suc (suc (length cs)) → exponent mark (take k (m ∷ s ∷ cs)) ≡ false
      stops n r zero h l = absurd (omega arith)
      stops n r (suc zero) h l = absurd (omega arith)
      stops n r (suc (suc j)) h l = value (take j cs) ∙ (digits_front cs n j r (omega arith)).1 (omega arith)

      by_length : (n : ℕ) → IsRun is_ascii_digit cs n → IsLongestFront (exponent mark) (m ∷ s ∷ cs) (exponent_of 1 n)
      by_length zero r = record { within = omega arith; passes = λ h. absurd (omega arith); longest = none }
        where
          none : (k : ℕ) → 0 < k → k ≤ suc (suc (length cs)) → exponent mark (take k (m ∷ s ∷ cs)) ≡ false
          none zero h l = absurd (omega arith)
          none (suc zero) h l = mark_alone
          none (suc (suc zero)) h l = value []
          none (suc (suc (suc j))) h l = stops 0 r (suc (suc (suc j))) (omega arith) l
      by_length (suc n') r =
          let long : suc (suc (suc n')) ≡ exponent_of 1 (suc n') = omega arith in
          let P : ℕ → Type 0 = λ k. IsLongestFront (exponent mark) (m ∷ s ∷ cs) k in
          subst P long (record {
            within = omega (arith, r.within);
            passes = λ h. value (take (suc n') cs) ∙ (digits_front cs (suc n') (suc n') r r.within).0 refl (omega arith);
            longest = λ k h l. stops (suc n') r k (omega arith) l;
          })

  exponent_behind : (cs : List ℕ) (n : ℕ) → IsRun is_ascii_digit (drop (sign_length cs) cs) n → IsLongestFront (exponent mark) (m ∷ cs) (exponent_of (sign_length cs) n)
  exponent_behind [] n run = signless [] n refl run
  exponent_behind (c ∷ cs) n run = by_sign (is_sign c) refl
    where
      by_sign : (b : Bool) → is_sign c ≡ b → IsLongestFront (exponent mark) (m ∷ c ∷ cs) (exponent_of (sign_length (c ∷ cs)) n)
      by_sign true e =
          let one_long : sign_length (c ∷ cs) ≡ 1 = rw e in
          let P : ℕ → Type 0 = λ k. IsLongestFront (exponent mark) (m ∷ c ∷ cs) (exponent_of k n) in
          let R : ℕ → Type 0 = λ k. IsRun is_ascii_digit (drop k (c ∷ cs)) n in
          subst P (sym one_long) (signed c cs n e (subst R one_long run))
      by_sign false e =
          let none : sign_length (c ∷ cs) ≡ 0 = rw e in
          let P : ℕ → Type 0 = λ k. IsLongestFront (exponent mark) (m ∷ c ∷ cs) (exponent_of k n) in
          let R : ℕ → Type 0 = λ k. IsRun is_ascii_digit (drop k (c ∷ cs)) n in
          subst P (sym none) (signless (c ∷ cs) n e (subst R none run))

pub exponent_some : (mark : ℕ → Bool) (m : ℕ) (cs behind tail : List ℕ) (sign n : ℕ) → cs ≡ m ∷ behind → mark m ≡ true → sign ≡ sign_length behind → tail ≡ drop sign behind → IsRun is_ascii_digit tail n → (n ≡ 0 → ⊥)
    → IsLongestFront (exponent mark) cs (1 + sign + n)
exponent_some mark m cs behind tail sign zero e marks s t run some = absurd (some refl)
exponent_some mark m cs behind tail sign (suc n) e marks s t run some =
    let R : List ℕ → Type 0 = λ xs. IsRun is_ascii_digit xs (suc n) in
    let P : List ℕ × ℕ → Type 0 = λ x. IsLongestFront (exponent mark) x.0 (exponent_of x.1 (suc n)) in
    subst P (λ i. (sym e i, sym s i)) (exponent_behind mark m marks behind (suc n) (subst R (t ∙ ap (λ k. drop k behind) s) run))

pub exponent_none : (mark : ℕ → Bool) (m : ℕ) (cs behind tail : List ℕ) (sign n : ℕ) → cs ≡ m ∷ behind → mark m ≡ true → sign ≡ sign_length behind → tail ≡ drop sign behind → IsRun is_ascii_digit tail n → n ≡ 0
    → IsLongestFront (exponent mark) cs 0
exponent_none mark m cs behind tail sign n e marks s t run none =
    let R : List ℕ × ℕ → Type 0 = λ x. IsRun is_ascii_digit x.0 x.1 in
    let back : tail ≡ drop (sign_length behind) behind = t ∙ ap (λ k. drop k behind) s in
    let P : List ℕ → Type 0 = λ xs. IsLongestFront (exponent mark) xs 0 in
    subst P (sym e) (exponent_behind mark m marks behind 0 (subst R (λ i. (back i, none i)) run))

pub no_exponent_front : (mark : ℕ → Bool) (cs : List ℕ) → begins mark cs ≡ false → IsLongestFront (exponent mark) cs 0
no_exponent_front mark cs e = record { within = omega arith; passes = λ h. absurd (omega arith); longest = λ k h l. no_exponent mark (take k cs) (begins_take mark cs k e) }

pub begins_not : (kind : ℕ → Bool) (m : ℕ) (cs behind : List ℕ) → cs ≡ m ∷ behind → kind m ≡ false → begins kind cs ≡ false
begins_not kind m cs behind e h = ap (begins kind) e ∙ h

pub begins_nothing : (kind : ℕ → Bool) (cs : List ℕ) → length cs ≡ 0 → begins kind cs ≡ false
begins_nothing kind [] e = refl
begins_nothing kind (c ∷ cs) e = absurd (omega arith)

pub other_first : (m : ℕ) (cs behind : List ℕ) → cs ≡ m ∷ behind → (m ≡ 46 → ⊥) → begins is_point cs ≡ false
other_first m cs behind e other = begins_not is_point m cs behind e (fails _ (λ same. other (is_number m 46 same)))

-- Floats of digits of a kind

digit_no_mark : (base : Base) (c : ℕ) → digit_in base c ≡ true → mark_in base c ≡ false
digit_no_mark Decimal c h = fails _ (λ marks. elim (either (c == 101) (c == 69) marks) [
  | inl e ↦ not_both _ h (ap is_ascii_digit (is_number c 101 e))
  | inr e ↦ not_both _ h (ap is_ascii_digit (is_number c 69 e))
])
digit_no_mark Hexadecimal c h = fails _ (λ marks. elim (either (c == 112) (c == 80) marks) [
  | inl e ↦ not_both _ h (ap is_ascii_hexdigit (is_number c 112 e))
  | inr e ↦ not_both _ h (ap is_ascii_hexdigit (is_number c 80 e))
])

no_point : (base : Base) → digit_in base 46 ≡ false
no_point Decimal = refl
no_point Hexadecimal = refl

no_mark : (base : Base) → mark_in base 46 ≡ false
no_mark Decimal = refl
no_mark Hexadecimal = refl

take_past : (ds tail : List ℕ) (k : ℕ) → take (length ds + k) (ds ++ tail) ≡ ds ++ take k tail
take_past [] tail k = let e : 0 + k ≡ k = omega arith in ap (λ n. take n tail) e
take_past (d ∷ ds) tail k = let e : suc (length ds) + k ≡ suc (length ds + k) = omega arith in ap (λ n. take n (d ∷ (ds ++ tail))) e ∙ ap (λ xs. d ∷ xs) (take_past ds tail k)

take_before : (ds tail : List ℕ) (k : ℕ) → k ≤ length ds → take k (ds ++ tail) ≡ take k ds
take_before ds tail zero h = refl
take_before [] tail (suc k) h = absurd (omega arith)
take_before (d ∷ ds) tail (suc k) h = ap (λ xs. d ∷ xs) (take_before ds tail k (omega arith))

all_before : (p : ℕ → Bool) (ds : List ℕ) (k : ℕ) → list_all p ds ≡ true → list_all p (take k ds) ≡ true
all_before p ds zero h = refl
all_before p [] (suc k) h = refl
all_before p (d ∷ ds) (suc k) h = let parts = both (p d) (list_all p ds) h in rw parts.0 (all_before p ds k parts.1)

length_split : (ds tail : List ℕ) → length (ds ++ tail) ≡ length ds + length tail
length_split ds tail = length-append ds tail

module _ (base : Base) where
  digit : ℕ → Bool
  digit = digit_in base

  power : List ℕ → Bool
  power = exponent (mark_in base)

  power_stays : Stays (digit_in base) (exponent (mark_in base))
  power_stays c cs h = no_exponent (mark_in base) (c ∷ cs) (digit_no_mark base c h)

  optional_stays : Stays (digit_in base) (optional (exponent (mark_in base)))
  optional_stays c cs h = power_stays c cs h

  unpointed : (cs : List ℕ) → exponent (mark_in base) (46 ∷ cs) ≡ false
  unpointed cs = no_exponent (mark_in base) (46 ∷ cs) (no_mark base)

  module _ (t : List ℕ → Bool) (stays : Stays (digit_in base) t) where
    -- without a point, with one, and neither
    plain_at : (ds cs : List ℕ) → 0 < length ds → list_all (digit_in base) ds ≡ true → begins (digit_in base) cs ≡ false → begins is_point cs ≡ false
        → float_of (digit_in base) t (exponent (mark_in base)) (ds ++ cs) ≡ exponent (mark_in base) cs
    plain_at [] cs some all e p = absurd (omega arith)
    plain_at (d ∷ ds) cs some all e p = plain_value (digit_in base) t (exponent (mark_in base)) (no_point base) stays power_stays unpointed d ds cs all e p

    pointed_at : (ds es cs : List ℕ) → 0 < length ds + length es → list_all (digit_in base) ds ≡ true → list_all (digit_in base) es ≡ true → begins (digit_in base) cs ≡ false
        → float_of (digit_in base) t (exponent (mark_in base)) (ds ++ 46 ∷ (es ++ cs)) ≡ t cs
    pointed_at [] [] cs some all more e = absurd (omega arith)
    pointed_at [] (x ∷ es) cs some all more e = led_value (digit_in base) t (exponent (mark_in base)) (no_point base) stays power_stays unpointed x es cs more e
    pointed_at (d ∷ ds) es cs some all more e = pointed_value (digit_in base) t (exponent (mark_in base)) (no_point base) stays power_stays unpointed d ds es cs all more e

    digits_alone : (ds : List ℕ) → list_all (digit_in base) ds ≡ true → float_of (digit_in base) t (exponent (mark_in base)) ds ≡ false
    digits_alone [] all = no_digit (digit_in base) t (exponent (mark_in base)) (no_point base) stays power_stays unpointed [] refl refl
    digits_alone (d ∷ ds) all = ap (float_of (digit_in base) t (exponent (mark_in base))) (sym (append-nil (d ∷ ds))) ∙ plain_at (d ∷ ds) [] (omega arith) all refl refl

  abbrev Wide : List ℕ → Bool
  Wide = float_of (digit_in base) (optional (exponent (mark_in base))) (exponent (mark_in base))

  abbrev Narrow : List ℕ → Bool
  Narrow = float_of (digit_in base) (exponent (mark_in base)) (exponent (mark_in base))

  -- an exponent or none at the front
  at_exponent : (cs : List ℕ) (e : ℕ) → IsLongestFront (exponent (mark_in base)) cs e → exponent (mark_in base) (take e cs) ≡ nat_lt 0 e
  at_exponent cs zero front = refl
  at_exponent cs (suc e) front = front.passes (omega arith) ∙ sym (lt-ltb 0 (suc e) (omega arith))

  at_optional : (cs : List ℕ) (e : ℕ) → IsLongestFront (exponent (mark_in base)) cs e → optional (exponent (mark_in base)) (take e cs) ≡ true
  at_optional cs zero front = refl
  at_optional cs (suc e) front = ap (λ b. empty (take (suc e) cs) || b) (front.passes (omega arith)) ∙ or_true (empty (take (suc e) cs))

  past_optional : (cs : List ℕ) (e k : ℕ) → IsLongestFront (exponent (mark_in base)) cs e → e < k → k ≤ length cs → optional (exponent (mark_in base)) (take k cs) ≡ false
  past_optional cs e k front h l = (λ i. no_empty cs k (omega arith) l i || front.longest k h l i)

  pointed_front : (ds es cs : List ℕ) (n e : ℕ) → 0 < length ds + length es → list_all (digit_in base) ds ≡ true → list_all (digit_in base) es ≡ true → begins (digit_in base) cs ≡ false
      → IsLongestFront (exponent (mark_in base)) cs e → n ≡ length ds + (1 + length es) + e → IsFloatOf base (ds ++ 46 ∷ (es ++ cs)) (record { length = n; takes_suffix = nat_lt 0 e })
  pointed_front ds es cs n e some all more ends front size = record {
    longest = record {
      within = omega (arith, front.within, long);
      passes = λ h. ap Wide (at_end e n size) ∙ pointed_at (optional (exponent (mark_in base))) optional_stays ds es (take e cs) some all more (begins_take (digit_in base) cs e ends) ∙ at_optional cs e front;
      longest = λ k h l.
          let i : ℕ = k - (length ds + (1 + length es)) in
          let whole : k ≡ length ds + (1 + length es) + i = omega arith in
          ap Wide (at_end i k whole) ∙ pointed_at (optional (exponent (mark_in base))) optional_stays ds es (take i cs) some all more (begins_take (digit_in base) cs i ends)
          ∙ past_optional cs e i front (omega arith) (omega (arith, long));
    };
    exponent_is = sym (ap Narrow (at_end e n size) ∙ pointed_at (exponent (mark_in base)) power_stays ds es (take e cs) some all more (begins_take (digit_in base) cs e ends) ∙ at_exponent cs e front);
  }
    where
      long : length (ds ++ 46 ∷ (es ++ cs)) ≡ length ds + suc (length es + length cs)
      long = length-append ds (46 ∷ (es ++ cs)) ∙ ap (λ m. length ds + suc m) (length-append es cs)

      at_end : (i k : ℕ) → k ≡ length ds + (1 + length es) + i → take k (ds ++ 46 ∷ (es ++ cs)) ≡ ds ++ 46 ∷ (es ++ take i cs)
      at_end i k e' =
          let split : k ≡ length ds + suc (length es + i) = omega arith in
          ap (λ m. take m (ds ++ 46 ∷ (es ++ cs))) split ∙ take_past ds (46 ∷ (es ++ cs)) (suc (length es + i)) ∙ ap (λ xs. ds ++ 46 ∷ xs) (take_past es cs i)

  plain_front : (ds cs : List ℕ) (n e : ℕ) → 0 < length ds → list_all (digit_in base) ds ≡ true → begins (digit_in base) cs ≡ false → begins is_point cs ≡ false → IsLongestFront (exponent (mark_in base)) cs e → 0 < e
      → n ≡ length ds + e → IsFloatOf base (ds ++ cs) (record { length = n; takes_suffix = nat_lt 0 e })
  plain_front ds cs n e some all ends points front power size = record {
    longest = record {
      within = omega (arith, front.within, length-append ds cs);
      passes = λ h. ap Wide (at_end e n size) ∙ value (optional (exponent (mark_in base))) optional_stays e ∙ front.passes power;
      longest = λ k h l.
          let i : ℕ = k - length ds in
          let whole : k ≡ length ds + i = omega arith in
          ap Wide (at_end i k whole) ∙ value (optional (exponent (mark_in base))) optional_stays i ∙ front.longest i (omega arith) (omega (arith, length-append ds cs));
    };
    exponent_is = sym (ap Narrow (at_end e n size) ∙ value (exponent (mark_in base)) power_stays e ∙ at_exponent cs e front);
  }
    where
      at_end : (i k : ℕ) → k ≡ length ds + i → take k (ds ++ cs) ≡ ds ++ take i cs
      at_end i k e' = ap (λ m. take m (ds ++ cs)) e' ∙ take_past ds cs i

      value : (t : List ℕ → Bool) → Stays (digit_in base) t → (i : ℕ) → float_of (digit_in base) t (exponent (mark_in base)) (ds ++ take i cs) ≡ exponent (mark_in base) (take i cs)
      value t stays i = plain_at t stays ds (take i cs) some all (begins_take (digit_in base) cs i ends) (begins_take is_point cs i points)

  -- none
  none_front : (cs : List ℕ) → ((k : ℕ) → k ≤ length cs → Wide (take k cs) ≡ false) → IsFloatOf base cs (record { length = 0; takes_suffix = false })
  none_front cs none = record {
    longest = record { within = omega arith; passes = λ h. absurd (omega arith); longest = λ k h l. none k l };
    exponent_is = sym (digits_alone (exponent (mark_in base)) power_stays [] refl);
  }

  digits_front_none : (ds cs : List ℕ) → 0 < length ds → list_all (digit_in base) ds ≡ true → begins (digit_in base) cs ≡ false → begins is_point cs ≡ false → IsLongestFront (exponent (mark_in base)) cs 0
      → IsFloatOf base (ds ++ cs) (record { length = 0; takes_suffix = false })
  digits_front_none ds cs some all ends points front = none_front (ds ++ cs) (λ k l. elim (side k) [
    | inl within ↦ ap Wide (take_before ds cs k within) ∙ digits_alone (optional (exponent (mark_in base))) optional_stays (take k ds) (all_before (digit_in base) ds k all)
    | inr past ↦
        let i : ℕ = k - length ds in
        let whole : k ≡ length ds + i = omega arith in
        ap Wide (ap (λ m. take m (ds ++ cs)) whole ∙ take_past ds cs i)
        ∙ plain_at (optional (exponent (mark_in base))) optional_stays ds (take i cs) some all (begins_take (digit_in base) cs i ends) (begins_take is_point cs i points) ∙ front.longest i (omega arith) (omega (arith, length-append ds cs))
  ])
    where
      side : (k : ℕ) → (k ≤ length ds) ⊎ (length ds < k)
      side k = search arith

  no_digit_none : (cs : List ℕ) → begins (digit_in base) cs ≡ false → begins is_point cs ≡ false → IsFloatOf base cs (record { length = 0; takes_suffix = false })
  no_digit_none cs ends points = none_front cs (λ k l.
      no_digit (digit_in base) (optional (exponent (mark_in base))) (exponent (mark_in base)) (no_point base) optional_stays power_stays unpointed (take k cs) (begins_take (digit_in base) cs k ends) (begins_take is_point cs k points))

  point_none : (cs : List ℕ) → begins (digit_in base) cs ≡ false → IsFloatOf base (46 ∷ cs) (record { length = 0; takes_suffix = false })
  point_none cs ends = none_front (46 ∷ cs) alone
    where
      alone : (k : ℕ) → k ≤ suc (length cs) → Wide (take k (46 ∷ cs)) ≡ false
      alone zero l = digits_alone (optional (exponent (mark_in base))) optional_stays [] refl
      alone (suc k) l =
          point_alone (digit_in base) (optional (exponent (mark_in base))) (exponent (mark_in base)) (no_point base) optional_stays power_stays unpointed (take k cs) (begins_take (digit_in base) cs k ends)

-- the parts of some characters that the code finds
module _ (base : Base) (cs tail rest : List ℕ) (w : ℕ) (run : IsRun (digit_in base) cs w) (back : tail ≡ drop w cs) where
  split : cs ≡ take w cs ++ tail
  split = sym (take-append-drop w cs) ∙ ap (λ xs. take w cs ++ xs) (sym back)

  wide : length (take w cs) ≡ w
  wide = length-take-le w cs run.within

  no_more : begins (digit_in base) tail ≡ false
  no_more = ap (begins (digit_in base)) back ∙ run_ends (digit_in base) cs w run

  none_left : w ≡ 0 → cs ≡ tail
  none_left none = sym (back ∙ ap (λ k. drop k cs) none)

  module _ (behind : List ℕ) (n e : ℕ) (is : tail ≡ 46 ∷ behind) (inner : IsRun (digit_in base) behind n) (r : rest ≡ drop (1 + n) tail) (power : IsLongestFront (exponent (mark_in base)) rest e) where
    left : rest ≡ drop n behind
    left = let one : 1 + n ≡ suc n = omega arith in r ∙ (λ i. drop (one i) (is i))

    parts : cs ≡ take w cs ++ 46 ∷ (take n behind ++ drop n behind)
    parts = split ∙ ap (λ xs. take w cs ++ xs) (is ∙ ap (λ xs. 46 ∷ xs) (sym (take-append-drop n behind)))

    with_point : 0 < w + n → IsFloatOf base cs (record { length = w + (1 + n) + e; takes_suffix = nat_lt 0 e })
    with_point some =
        let P : List ℕ → Type 0 = λ xs. IsFloatOf base xs (record { length = w + (1 + n) + e; takes_suffix = nat_lt 0 e }) in
        let R : List ℕ → Type 0 = λ xs. IsLongestFront (exponent (mark_in base)) xs e in
        let inside : length (take n behind) ≡ n = length-take-le n behind inner.within in
        subst P (sym parts) (pointed_front base (take w cs) (take n behind) (drop n behind) (w + (1 + n) + e) e (omega (arith, wide, inside)) (run_passes (digit_in base) cs w run) (run_passes (digit_in base) behind n inner)
        (run_ends (digit_in base) behind n inner) (subst R left power) (omega (arith, wide, inside)))

    point_only : w ≡ 0 → n ≡ 0 → IsFloatOf base cs (record { length = 0; takes_suffix = false })
    point_only none nor =
        let P : List ℕ → Type 0 = λ xs. IsFloatOf base xs (record { length = 0; takes_suffix = false }) in
        subst P (sym (none_left none ∙ is)) (point_none base behind (ap (λ k. begins (digit_in base) (drop k behind)) (sym nor) ∙ run_ends (digit_in base) behind n inner))

  module _ (e : ℕ) (points : begins is_point tail ≡ false) (r : rest ≡ drop 0 tail) (power : IsLongestFront (exponent (mark_in base)) rest e) where
    at_tail : IsLongestFront (exponent (mark_in base)) tail e
    at_tail = let R : List ℕ → Type 0 = λ xs. IsLongestFront (exponent (mark_in base)) xs e in subst R r power

    without_point : 0 < w → 0 < e → IsFloatOf base cs (record { length = w + 0 + e; takes_suffix = nat_lt 0 e })
    without_point some raised =
        let P : List ℕ → Type 0 = λ xs. IsFloatOf base xs (record { length = w + 0 + e; takes_suffix = nat_lt 0 e }) in
        subst P (sym split) (plain_front base (take w cs) tail (w + 0 + e) e (omega (arith, wide)) (run_passes (digit_in base) cs w run) no_more points at_tail raised (omega (arith, wide)))

    digits_only : 0 < w → e ≡ 0 → IsFloatOf base cs (record { length = 0; takes_suffix = false })
    digits_only some none =
        let P : List ℕ → Type 0 = λ xs. IsFloatOf base xs (record { length = 0; takes_suffix = false }) in
        let R : ℕ → Type 0 = λ k. IsLongestFront (exponent (mark_in base)) tail k in
        subst P (sym split) (digits_front_none base (take w cs) tail (omega (arith, wide)) (run_passes (digit_in base) cs w run) no_more points (subst R none at_tail))

    no_digits : w ≡ 0 → IsFloatOf base cs (record { length = 0; takes_suffix = false })
    no_digits none =
        let P : List ℕ → Type 0 = λ xs. IsFloatOf base xs (record { length = 0; takes_suffix = false }) in
        subst P (sym (none_left none)) (no_digit_none base tail no_more points)

pub float_made : (base : Base) (cs tail rest : List ℕ) (w f e : ℕ) → IsRun (digit_in base) cs w → tail ≡ drop w cs → IsFractionAnswer base tail f → rest ≡ drop f tail → IsLongestFront (exponent (mark_in base)) rest e
    → makes_float w f e ≡ true → IsFloatOf base cs (record { length = w + f + e; takes_suffix = nat_lt 0 e })
float_made base cs tail rest zero _ e run back (fraction {behind = behind} {n = zero} is inner) r power m = cc
float_made base cs tail rest zero _ e run back (fraction {behind = behind} {n = suc n} is inner) r power m = with_point base cs tail rest zero run back behind (suc n) e is inner r power (omega arith)
float_made base cs tail rest (suc w) _ e run back (fraction {behind = behind} {n = n} is inner) r power m = with_point base cs tail rest (suc w) run back behind n e is inner r power (omega arith)
float_made base cs tail rest zero _ e run back (no_fraction points) r power m = cc
float_made base cs tail rest (suc w) _ zero run back (no_fraction points) r power m =
    let no : makes_float (suc w) 0 0 ≡ false = and_false (nat_lt 0 (suc w) || nat_lt 1 0) in absurd (not_both _ m no)
float_made base cs tail rest (suc w) _ (suc e) run back (no_fraction points) r power m = without_point base cs tail rest (suc w) run back (suc e) points r power (omega arith) (omega arith)

pub no_float_made : (base : Base) (cs tail rest : List ℕ) (w f e : ℕ) → IsRun (digit_in base) cs w → tail ≡ drop w cs → IsFractionAnswer base tail f → rest ≡ drop f tail → IsLongestFront (exponent (mark_in base)) rest e
    → makes_float w f e ≡ false → IsFloatOf base cs (record { length = 0; takes_suffix = false })
no_float_made base cs tail rest zero _ e run back (fraction {behind = behind} {n = zero} is inner) r power m = point_only base cs tail rest zero run back behind zero e is inner r power refl refl
no_float_made base cs tail rest zero _ e run back (fraction {behind = behind} {n = suc n} is inner) r power m =
    let one : nat_lt 1 (1 + suc n) ≡ true = lt-ltb 1 (1 + suc n) (omega arith) in
    let some : nat_lt 0 (1 + suc n) ≡ true = lt-ltb 0 (1 + suc n) (omega arith) in
    let yes : makes_float zero (1 + suc n) e ≡ true = (λ i. (false || one i) && (some i || nat_lt 0 e)) in
    absurd (not_both _ yes m)
no_float_made base cs tail rest (suc w) _ e run back (fraction {behind = behind} {n = n} is inner) r power m =
    let one : nat_lt 0 (suc w) ≡ true = lt-ltb 0 (suc w) (omega arith) in
    let some : nat_lt 0 (1 + n) ≡ true = lt-ltb 0 (1 + n) (omega arith) in
    let yes : makes_float (suc w) (1 + n) e ≡ true = (λ i. (one i || nat_lt 1 (1 + n)) && (some i || nat_lt 0 e)) in
    absurd (not_both _ yes m)
no_float_made base cs tail rest zero _ e run back (no_fraction points) r power m = no_digits base cs tail rest zero run back e points r power refl
no_float_made base cs tail rest (suc w) _ zero run back (no_fraction points) r power m = digits_only base cs tail rest (suc w) run back zero points r power (omega arith) refl
no_float_made base cs tail rest (suc w) _ (suc e) run back (no_fraction points) r power m =
    let one : nat_lt 0 (suc w) ≡ true = lt-ltb 0 (suc w) (omega arith) in
    let some : nat_lt 0 (suc e) ≡ true = lt-ltb 0 (suc e) (omega arith) in
    let yes : makes_float (suc w) 0 (suc e) ≡ true = (λ i. (one i || nat_lt 1 0) && (false || some i)) in
    absurd (not_both _ yes m)

-- Floats of both kinds

unmarked_take : (p : List ℕ → Bool) (cs : List ℕ) (k : ℕ) → is_marked cs ≡ false → hexadecimal p (take k cs) ≡ false
unmarked_take p cs zero e = refl
unmarked_take p [] (suc k) e = refl
unmarked_take p (c ∷ cs) (suc k) e = by_zero (is_zero c) refl
  where
    by_zero : (b : Bool) → is_zero c ≡ b → (is_zero c && one is_mark p (take k cs)) ≡ false
    by_zero false h = rw h
    by_zero true h = let none : begins is_mark cs ≡ false = rw h at e in rw h (one_begins is_mark p (take k cs) (begins_take is_mark cs k none))

pub decimal_front : (cs : List ℕ) (float : Float) → is_marked cs ≡ false → IsFloatOf Decimal cs float → IsFloatFront cs (record { length = float.length; takes_suffix = true })
unfolding is_float takes_float_suffix
decimal_front cs float e of = record {
  longest = record {
    within = of.longest.within;
    passes = λ h. ap (λ b. b || is_hexadecimal_float (take float.length cs)) (of.longest.passes h);
    longest = λ k h l. (λ i. of.longest.longest k h l i || unmarked_take (float_of is_ascii_hexdigit (optional binary_exponent) binary_exponent) cs k e i);
  };
  takes = λ h. sym (ap (λ b. is_decimal (take float.length cs) || (b || hexadecimal (float_of is_ascii_hexdigit binary_exponent binary_exponent) (take float.length cs))) (of.longest.passes h) ∙ or_true (is_decimal (take float.length cs)));
}

mark_fails : (p : ℕ → Bool) → p 120 ≡ false → p 88 ≡ false → (m : ℕ) → is_mark m ≡ true → p m ≡ false
mark_fails p small large m marks = elim (either (m == 120) (m == 88) marks) [ inl e ↦ ap p (is_number m 120 e) ∙ small | inr e ↦ ap p (is_number m 88 e) ∙ large ]

pub marked_no_decimal : (m : ℕ) (xs : List ℕ) → is_mark m ≡ true → is_decimal_float (48 ∷ m ∷ xs) ≡ false
marked_no_decimal m xs marks =
    plain_at Decimal (optional (exponent is_e)) (optional_stays Decimal) (48 ∷ []) (m ∷ xs) (omega arith) refl (mark_fails is_ascii_digit refl refl m marks) (mark_fails is_point refl refl m marks) ∙ no_exponent is_e (m ∷ xs) (mark_fails is_e refl refl m marks)

marked_pattern : (p : List ℕ → Bool) (m : ℕ) (xs : List ℕ) → is_mark m ≡ true → hexadecimal p (48 ∷ m ∷ xs) ≡ p xs
marked_pattern p m xs marks = rw marks

module _ (m : ℕ) (digits : List ℕ) (marks : is_mark m ≡ true) where
  marked_value : (xs : List ℕ) → is_float (48 ∷ m ∷ xs) ≡ float_of is_ascii_hexdigit (optional binary_exponent) binary_exponent xs
  unfolding is_float
  marked_value xs = (λ i. marked_no_decimal m xs marks i || marked_pattern (float_of is_ascii_hexdigit (optional binary_exponent) binary_exponent) m xs marks i)

  marked_suffix : (xs : List ℕ) → takes_float_suffix (48 ∷ m ∷ xs) ≡ float_of is_ascii_hexdigit binary_exponent binary_exponent xs
  unfolding takes_float_suffix
  marked_suffix xs = (λ i. marked_no_decimal m xs marks i || marked_pattern (float_of is_ascii_hexdigit binary_exponent binary_exponent) m xs marks i)

  zero_none : is_float (48 ∷ []) ≡ false
  unfolding is_float
  zero_none = refl

  marked_longest : (n : ℕ) → ((k : ℕ) → n < k → k ≤ length digits → float_of is_ascii_hexdigit (optional binary_exponent) binary_exponent (take k digits) ≡ false) → (k : ℕ) → n < k - 2 → k ≤ suc (suc (length digits)) → is_float (take k (48 ∷ m ∷ digits)) ≡ false
  marked_longest n none zero h l = absurd (omega arith)
  marked_longest n none (suc zero) h l = zero_none
  marked_longest n none (suc (suc k)) h l = marked_value (take k digits) ∙ none k (omega arith) (omega arith)

  marked_some : (float : Float) → IsFloatOf Hexadecimal digits float → 0 < float.length → IsFloatFront (48 ∷ m ∷ digits) (record { length = 2 + float.length; takes_suffix = float.takes_suffix })
  marked_some float of some =
      let two : suc (suc float.length) ≡ 2 + float.length = omega arith in
      let P : ℕ → Type 0 = λ k. IsFloatFront (48 ∷ m ∷ digits) (record { length = k; takes_suffix = float.takes_suffix }) in
      subst P two (record {
        longest = record {
          within = omega (arith, of.longest.within);
          passes = λ h. marked_value (take float.length digits) ∙ of.longest.passes some;
          longest = λ k h l. marked_longest float.length of.longest.longest k (omega arith) l;
        };
        takes = λ h. of.exponent_is ∙ sym (marked_suffix (take float.length digits));
      })

  marked_none : (float : Float) → IsFloatOf Hexadecimal digits float → float.length ≡ 0 → IsFloatFront (48 ∷ m ∷ digits) (record { length = 0; takes_suffix = false })
  marked_none float of none = record {
    longest = record { within = omega arith; passes = λ h. absurd (omega arith); longest = stops };
    takes = λ h. absurd (omega arith);
  }
    where
      stops : (k : ℕ) → 0 < k → k ≤ suc (suc (length digits)) → is_float (take k (48 ∷ m ∷ digits)) ≡ false
      stops zero h l = absurd (omega arith)
      stops (suc zero) h l = zero_none
      stops (suc (suc zero)) h l = marked_value [] ∙ digits_alone Hexadecimal (optional binary_exponent) (optional_stays Hexadecimal) [] refl
      stops (suc (suc (suc k))) h l = marked_value (take (suc k) digits) ∙ of.longest.longest (suc k) (omega (arith, none)) (omega arith)

pub hexadecimal_some : (cs digits : List ℕ) (float : Float) → IsMarked cs digits → IsFloatOf Hexadecimal digits float → (float.length ≡ 0 → ⊥) → IsFloatFront cs (record { length = 2 + float.length; takes_suffix = float.takes_suffix })
hexadecimal_some cs digits float at of some =
    let P : List ℕ → Type 0 = λ xs. IsFloatFront xs (record { length = 2 + float.length; takes_suffix = float.takes_suffix }) in
    subst P (sym at.is) (marked_some at.mark digits at.is_mark float of (search arith))

pub hexadecimal_none : (cs digits : List ℕ) (float : Float) → IsMarked cs digits → IsFloatOf Hexadecimal digits float → float.length ≡ 0 → IsFloatFront cs (record { length = 0; takes_suffix = false })
hexadecimal_none cs digits float at of none =
    let P : List ℕ → Type 0 = λ xs. IsFloatFront xs (record { length = 0; takes_suffix = false }) in
    subst P (sym at.is) (marked_none at.mark digits at.is_mark float of none)

-- The longest number without suffix

front_past : (p : List ℕ → Bool) (cs : List ℕ) (n f : ℕ) → IsLongestFront p cs f → f ≤ n → n ≤ length cs → (more behind : List ℕ) → more ≢ [] → drop n cs ≡ more ++ behind → p (take n cs ++ more) ≡ false
front_past p cs n f front h l more behind nonempty e =
    let whole : take (n + length more) cs ≡ take n cs ++ more = take-add n (length more) cs ∙ ap (λ xs. take n cs ++ xs) (ap (take (length more)) e ∙ take-append_seam more behind) in
    let some : 0 < length more = filled more nonempty in
    let room : length cs - n ≡ length more + length behind = sym (length-drop n cs) ∙ ap length e ∙ length-append more behind in
    ap p (sym whole) ∙ front.longest (n + length more) (omega arith) (omega arith)
  where
    filled : (xs : List ℕ) → xs ≢ [] → 0 < length xs
    filled [] k = absurd (k refl)
    filled (x ∷ xs) k = omega arith

whole_past : (cs : List ℕ) (n w v : ℕ) → IsLongestMagnitude (take w cs) (drop w cs) v → w ≤ n → (more behind : List ℕ) → more ≢ [] → drop n cs ≡ more ++ behind → magnitude (take n cs ++ more) ≡ None
whole_past cs n w v run h more behind nonempty e =
    let sum : w + (n - w) ≡ n = omega arith in
    let between : List ℕ = take (n - w) (drop w cs) in
    let front : take n cs ≡ take w cs ++ between = ap (λ k. take k cs) (sym sum) ∙ take-add w (n - w) cs in
    let back : drop w cs ≡ (between ++ more) ++ behind =
    sym (take-append-drop (n - w) (drop w cs)) ∙ ap (λ xs. between ++ xs) (drop-drop (n - w) w cs ∙ ap (λ k. drop k cs) sum ∙ e) ∙ sym (append_assoc between more behind)
    in
    ap (λ xs. magnitude (xs ++ more)) front ∙ ap magnitude (append_assoc (take w cs) between more) ∙ run.longest (between ++ more) behind (filled between) back
  where
    filled : (xs : List ℕ) → xs ++ more ≢ []
    filled [] k = nonempty k
    filled (x ∷ xs) k = cc

-- more of the front than the longest whole number
whole_less : (cs : List ℕ) (n w v : ℕ) → IsLongestMagnitude (take w cs) (drop w cs) v → w < n → n ≤ length cs → magnitude (take n cs) ≡ None
whole_less cs n w v run h l =
    let sum : w + (n - w) ≡ n = omega arith in
    let between : List ℕ = take (n - w) (drop w cs) in
    let front : take n cs ≡ take w cs ++ between = ap (λ k. take k cs) (sym sum) ∙ take-add w (n - w) cs in
    let some : length between ≡ n - w = length-take-le (n - w) (drop w cs) (omega (arith, length-drop w cs)) in
    ap magnitude front ∙ run.longest between (drop (n - w) (drop w cs)) (λ none. let zeroth : length between ≡ 0 = ap length none in omega arith) (sym (take-append-drop (n - w) (drop w cs)))

pub whole_stem : (cs : List ℕ) (c : ℕ) (behind : List ℕ) (float : Float) (n : ℕ) (word : Option ℕ) → cs ≡ c ∷ behind → is_ascii_digit c ≡ true → n ≤ length behind → HasMagnitude c behind n word → IsFloatFront cs float → float.length ≤ n + 1
    → IsWholeStem c (take n behind) (drop n behind) word
whole_stem cs c behind float n word is digit within has front no_longer =
    let P : List ℕ → Type 0 = λ xs. IsFloatFront xs float in
    let front' : IsFloatFront (c ∷ behind) float = subst P is front in
    record {
      digit = digit;
      value = has.value;
      is = has.longest.is;
      is_value = has.is_value;
      longest = record {
        no_whole = has.longest.longest;
        no_float = λ more back nonempty e. front_past is_float (c ∷ behind) (suc n) float.length front'.longest (omega arith) (omega arith) more back nonempty e;
      };
    }

module _ (c : ℕ) (behind : List ℕ) (float : Float) (m : ℕ) (size : float.length ≡ suc m) (front : IsFloatFront (c ∷ behind) float) where
  float_is : is_float (c ∷ take m behind) ≡ true
  float_is = ap (λ k. is_float (take k (c ∷ behind))) (sym size) ∙ front.longest.passes (omega (arith, size))

  float_takes : float.takes_suffix ≡ takes_float_suffix (c ∷ take m behind)
  float_takes = front.takes (omega (arith, size)) ∙ ap (λ k. takes_float_suffix (take k (c ∷ behind))) size

  float_ends : (more back : List ℕ) → more ≢ [] → drop m behind ≡ more ++ back → is_float ((c ∷ take m behind) ++ more) ≡ false
  float_ends more back nonempty e = front_past is_float (c ∷ behind) (suc m) float.length front.longest (omega (arith, size)) (omega (arith, size, front.longest.within)) more back nonempty e

  beyond_whole : (n : ℕ) (word : Option ℕ) → HasMagnitude c behind n word → n + 1 < float.length → IsFloatStem c (take m behind) (drop m behind) float.takes_suffix
  beyond_whole n word has longer = record {
    no_whole = whole_less (c ∷ behind) (suc m) (suc n) has.value has.longest (omega (arith, size)) (omega (arith, size, front.longest.within));
    is = float_is;
    takes = float_takes;
    longest = record { no_whole = whole_past (c ∷ behind) (suc m) (suc n) has.value has.longest (omega (arith, size)); no_float = float_ends };
  }

  no_digit_first : is_ascii_digit c ≡ false → IsFloatStem c (take m behind) (drop m behind) float.takes_suffix
  no_digit_first other = record {
    no_whole = no_magnitude c (take m behind) other;
    is = float_is;
    takes = float_takes;
    longest = record { no_whole = λ more back nonempty e. no_magnitude c (take m behind ++ more) other; no_float = float_ends };
  }

at_length : (c : ℕ) (behind : List ℕ) (float : Float) → 1 ≤ float.length → ((m : ℕ) → float.length ≡ suc m → IsFloatStem c (take m behind) (drop m behind) float.takes_suffix)
    → IsFloatStem c (take (float.length - 1) behind) (drop (float.length - 1) behind) float.takes_suffix
at_length c behind float some stem = stem (float.length - 1) (omega arith)

pub longer_stem : (cs : List ℕ) (c : ℕ) (behind : List ℕ) (float : Float) (n : ℕ) (word : Option ℕ) → cs ≡ c ∷ behind → HasMagnitude c behind n word → IsFloatFront cs float → n + 1 < float.length
    → IsFloatStem c (take (float.length - 1) behind) (drop (float.length - 1) behind) float.takes_suffix
longer_stem cs c behind float n word is has front longer =
    let P : List ℕ → Type 0 = λ xs. IsFloatFront xs float in
    at_length c behind float (omega arith) (λ m size. beyond_whole c behind float m size (subst P is front) n word has longer)

-- a point and a digit are a float
led_float : (d : ℕ) → is_ascii_digit d ≡ true → is_float (46 ∷ d ∷ []) ≡ true
unfolding is_float
led_float d digit = ap (λ b. b || is_hexadecimal_float (46 ∷ d ∷ [])) (pointed_at Decimal (optional (exponent is_e)) (optional_stays Decimal) [] (d ∷ []) [] (omega arith) refl (rw digit) refl)

pub led_some : (cs : List ℕ) (c : ℕ) (behind : List ℕ) (float : Float) → cs ≡ c ∷ behind → opens_number c behind ≡ true → is_ascii_digit c ≡ false → IsFloatFront cs float → 1 ≤ float.length
led_some cs c behind float is opens other front = by_length float.length refl
  where
    second : (ds : List ℕ) → (is_point c && begins is_ascii_digit ds) ≡ true → is_float (take 2 (c ∷ ds)) ≡ true × (2 ≤ length (c ∷ ds))
    second [] h = let wrong : false ≡ true = sym (and_false (is_point c)) ∙ h in absurd cc
    second (d ∷ ds) h = let parts = both (is_point c) (is_ascii_digit d) h in (ap (λ x. is_float (x ∷ d ∷ [])) (is_number c 46 parts.0) ∙ led_float d parts.1, omega arith)

    by_length : (n : ℕ) → float.length ≡ n → 1 ≤ float.length
    by_length (suc n) e = omega arith
    by_length zero e =
        let some = second behind (rw other at opens) in
        let none : is_float (take 2 cs) ≡ false = front.longest.longest 2 (omega arith) (omega (arith, some.1, ap length is)) in
        absurd (not_both _ (ap (λ xs. is_float (take 2 xs)) is ∙ some.0) none)

pub led_stem : (cs : List ℕ) (c : ℕ) (behind : List ℕ) (float : Float) → cs ≡ c ∷ behind → opens_number c behind ≡ true → is_ascii_digit c ≡ false → IsFloatFront cs float
    → IsFloatStem c (take (float.length - 1) behind) (drop (float.length - 1) behind) float.takes_suffix
led_stem cs c behind float is opens other front =
    let P : List ℕ → Type 0 = λ xs. IsFloatFront xs float in
    at_length c behind float (led_some cs c behind float is opens other front) (λ m size. no_digit_first c behind float m size (subst P is front) other)

-- What stands first

at_index : (cs : List ℕ) (n s : ℕ) → slice_get cs n ≡ Some s → drop n cs ≡ s ∷ drop (suc n) cs
at_index [] n s e = cc
at_index (c ∷ cs) zero s e = let same : c ≡ s = cc in ap (λ x. x ∷ cs) same
at_index (c ∷ cs) (suc n) s e = at_index cs n s e

pub get_within : (cs : List ℕ) (n s : ℕ) → slice_get cs n ≡ Some s → n < length cs
get_within [] n s e = cc
get_within (c ∷ cs) zero s e = omega arith
get_within (c ∷ cs) (suc n) s e = let h = get_within cs n s e in omega arith

get_drop : (cs : List ℕ) (n : ℕ) → slice_get (drop n cs) 0 ≡ slice_get cs n
get_drop [] zero = refl
get_drop [] (suc n) = refl
get_drop (c ∷ cs) zero = refl
get_drop (c ∷ cs) (suc n) = get_drop cs n

module _ (c : ℕ) (behind : List ℕ) (n : ℕ) (forms : (xs : List ℕ) → form ((c ∷ take n behind) ++ xs) ≡ option_map token (number_token ((c ∷ take n behind) ++ xs))) (stem : IsLongestStem (c ∷ take n behind) (drop n behind)) where
  suffix_stands : (s : ℕ) (more : List ℕ) (t : Token) → drop n behind ≡ s ∷ more → number_with s (c ∷ take n behind) ≡ Some t → StandsFirst (c ∷ behind) (n + 2) (Some t)
  suffix_stands s more t e given =
      let h = drop_one behind n s more e in
      let S : List ℕ → Type 0 = λ xs. IsLongestStem (c ∷ take n behind) xs in
      let long : IsLongest ((c ∷ take n behind) ++ s ∷ []) more (token t) = suffixed_longest (c ∷ take n behind) more forms s t (subst S e stem) given in
      let P : List ℕ × List ℕ → Type 0 = λ x. IsLongest (c ∷ x.0) x.1 (token t) in
      token_first (one_more c behind (n + 1) (n + 2) (token t) (omega arith) (subst P (λ i. (sym h.2 i, sym h.1 i)) long))

  plain_stands : (t : Token) → plain_number (c ∷ take n behind) ≡ Some t → ((d : ℕ) (more : List ℕ) → drop n behind ≡ d ∷ more → number_with d (c ∷ take n behind) ≡ None) → StandsFirst (c ∷ behind) (n + 1) (Some t)
  plain_stands t plain unsuffixed = token_first (one_more c behind n (n + 1) (token t) (omega arith) (plain_longest (c ∷ take n behind) (drop n behind) forms t stem plain unsuffixed))

-- no suffix that the number has
no_suffix_of : (d : ℕ) (cs : List ℕ) → ((d == 105) ≡ false) → ((d == 117) ≡ false) → (((d == 102) || (d == 104)) && takes_float_suffix cs) ≡ false → number_with d cs ≡ None
no_suffix_of d cs i u e = rw (i, u) (neither_one (F32 (encode_utf8_all cs)) (F16 (encode_utf8_all cs)) (d == 102) (d == 104) (takes_float_suffix cs) e)
  where
    neither_one : (x y : Token) (f h b : Bool) → ((f || h) && b) ≡ false → (if f && b then Some x else (if h && b then Some y else None)) ≡ None
    neither_one x y true h true e = cc
    neither_one x y true h false e = ap (λ b. if b then Some y else None) (and_false h)
    neither_one x y false true true e = cc
    neither_one x y false true false e = refl
    neither_one x y false false b e = refl

module _ (c : ℕ) (behind : List ℕ) (n : ℕ) (word : Option ℕ) (stem : IsWholeStem c (take n behind) (drop n behind) word) where
  whole_forms : (xs : List ℕ) → form ((c ∷ take n behind) ++ xs) ≡ option_map token (number_token ((c ∷ take n behind) ++ xs))
  whole_forms xs = digit_form c (take n behind ++ xs) stem.digit

  pub signed_stands : (t : Token) → slice_get behind n ≡ Some 105 → ((v : ℕ) → IsValue word v → t ≡ signed_token v) → StandsFirst (c ∷ behind) (n + 2) (Some t)
  signed_stands t at is =
      suffix_stands c behind n whole_forms stem.longest 105 (drop (suc n) behind) t (at_index behind n 105 at) (ap (option_map signed_token) stem.is ∙ ap Some (sym (is stem.value stem.is_value)))

  pub unsigned_stands : (t : Token) → slice_get behind n ≡ Some 117 → ((v : ℕ) → IsValue word v → t ≡ unsigned_token v) → StandsFirst (c ∷ behind) (n + 2) (Some t)
  unsigned_stands t at is =
      suffix_stands c behind n whole_forms stem.longest 117 (drop (suc n) behind) t (at_index behind n 117 at) (ap (option_map unsigned_token) stem.is ∙ ap Some (sym (is stem.value stem.is_value)))

  pub float_suffix_stands : (t : Token) (front rest : List ℕ) → front ≡ take n behind → rest ≡ drop n behind → IsSuffixAnswer (c ∷ front) rest (Some t) → StandsFirst (c ∷ behind) (n + 2) (Some t)
  float_suffix_stands t front rest f r (suffix {s = s} {behind = more} e with) =
      suffix_stands c behind n whole_forms stem.longest s more t (sym r ∙ e) (ap (λ xs. number_with s (c ∷ xs)) (sym f) ∙ with)

  pub abstract_stands : (t : Token) (front rest : List ℕ) → front ≡ take n behind → rest ≡ drop n behind → (slice_get behind n ≡ Some 105 → ⊥) → (slice_get behind n ≡ Some 117 → ⊥) → IsSuffixAnswer (c ∷ front) rest None
      → ((v : ℕ) → IsValue word v → t ≡ abstract_token v) → StandsFirst (c ∷ behind) (n + 1) (Some t)
  abstract_stands t front rest f r not_i not_u (no_suffix none) is =
      plain_stands c behind n whole_forms stem.longest t (rw stem.is (ap Some (sym (is stem.value stem.is_value))))
      (λ d more e. no_suffix_of d (c ∷ take n behind) (other d more e 105 not_i) (other d more e 117 not_u) (ap (λ xs. ((d == 102) || (d == 104)) && takes_float_suffix (c ∷ xs)) (sym f) ∙ none d more (r ∙ e)))
    where
      other : (d : ℕ) (more : List ℕ) → drop n behind ≡ d ∷ more → (k : ℕ) → (slice_get behind n ≡ Some k → ⊥) → (d == k) ≡ false
      other d more e k no_k = fails _ (λ same. let there : slice_get behind n ≡ Some d = sym (get_drop behind n) ∙ ap (λ xs. slice_get xs 0) e in no_k (there ∙ ap Some (is_number d k same)))

module _ (c : ℕ) (behind : List ℕ) (n : ℕ) (takes : Bool) (stem : IsFloatStem c (take n behind) (drop n behind) takes) where
  float_opens : opens_number c (take n behind) ≡ true
  float_opens = from (opens_number c (take n behind)) refl
    where
      from : (b : Bool) → opens_number c (take n behind) ≡ b → opens_number c (take n behind) ≡ true
      from true e = e
      from false e = absurd (not_both _ stem.is (no_float c (take n behind) e))

  float_forms : (xs : List ℕ) → form ((c ∷ take n behind) ++ xs) ≡ option_map token (number_token ((c ∷ take n behind) ++ xs))
  float_forms xs = opened_form c (take n behind ++ xs) (more (take n behind) float_opens)
    where
      more : (ds : List ℕ) → opens_number c ds ≡ true → opens_number c (ds ++ xs) ≡ true
      more [] e = digit_of (is_ascii_digit c) refl
        where
          digit_of : (b : Bool) → is_ascii_digit c ≡ b → (is_ascii_digit c || (is_point c && begins is_ascii_digit xs)) ≡ true
          digit_of true h = rw h
          digit_of false h = let wrong : false ≡ true = sym (λ i. h i || and_false (is_point c) i) ∙ e in absurd cc
      more (d ∷ ds) e = e

  pub suffixed_stands : (t : Token) (front rest : List ℕ) → front ≡ take n behind → rest ≡ drop n behind → IsSuffixAnswer (c ∷ front) rest (Some t) → StandsFirst (c ∷ behind) (n + 2) (Some t)
  suffixed_stands t front rest f r (suffix {s = s} {behind = more} e with) =
      suffix_stands c behind n float_forms stem.longest s more t (sym r ∙ e) (ap (λ xs. number_with s (c ∷ xs)) (sym f) ∙ with)

  pub float_stands : (text front rest : List ℕ) → front ≡ take n behind → rest ≡ drop n behind → IsSuffixAnswer (c ∷ front) rest None → text ≡ encode_utf8_all (c ∷ front) → StandsFirst (c ∷ behind) (n + 1) (Some (AbstractFloat text))
  float_stands text front rest f r (no_suffix none) spelled =
      plain_stands c behind n float_forms stem.longest (AbstractFloat text) (rw (stem.no_whole, stem.is) (ap (λ x. Some (AbstractFloat x)) (sym (spelled ∙ ap (λ xs. encode_utf8_all (c ∷ xs)) f))))
      (λ d more e. by_suffix d (ap (λ xs. ((d == 102) || (d == 104)) && takes_float_suffix (c ∷ xs)) (sym f) ∙ none d more (r ∙ e)))
    where
      by_suffix : (d : ℕ) → (((d == 102) || (d == 104)) && takes_float_suffix (c ∷ take n behind)) ≡ false → number_with d (c ∷ take n behind) ≡ None
      by_suffix d e = by_i (d == 105) (d == 117) refl refl
        where
          by_i : (i u : Bool) → (d == 105) ≡ i → (d == 117) ≡ u → number_with d (c ∷ take n behind) ≡ None
          by_i true u h k = rw (h, stem.no_whole)
          by_i false true h k = rw (h, k, stem.no_whole)
          by_i false false h k = no_suffix_of d (c ∷ take n behind) h k e

-- A whole number takes the suffix of a float where it is in decimal.
pub decimal_takes : (c : ℕ) (front : List ℕ) (v : ℕ) → magnitude (c ∷ front) ≡ Some v → (not (is_zero c) || empty front) ≡ takes_float_suffix (c ∷ front)
unfolding takes_float_suffix
decimal_takes c front v is = by_zero (is_zero c) refl
  where
    digits_of : (b : Bool) → list_all is_ascii_digit (c ∷ front) ≡ b → (if b then Some (digits_value 10 (c ∷ front)) else None) ≡ Some v → list_all is_ascii_digit (c ∷ front) ≡ true
    digits_of true e h = e
    digits_of false e h = cc

    zero_led : is_zero c ≡ true → (ds : List ℕ) → zero_led_value ds ≡ Some v → empty ds ≡ takes_float_suffix (c ∷ ds)
    zero_led e [] h = rw e
    zero_led e (x ∷ []) h = cc
    zero_led e (x ∷ y ∷ ds) h = marked (is_mark x && list_all is_ascii_hexdigit (y ∷ ds)) refl h
      where
        marked : (b : Bool) → (is_mark x && list_all is_ascii_hexdigit (y ∷ ds)) ≡ b → (if b then Some (digits_value 16 (y ∷ ds)) else None) ≡ Some v → false ≡ takes_float_suffix (c ∷ x ∷ y ∷ ds)
        marked false g k = cc
        marked true g k =
            let parts = both (is_mark x) (list_all is_ascii_hexdigit (y ∷ ds)) g in
            sym (ap (λ a. takes_float_suffix (a ∷ x ∷ y ∷ ds)) (is_number c 48 e) ∙ marked_suffix x [] parts.0 (y ∷ ds) ∙ digits_alone Hexadecimal (exponent is_p) (power_stays Hexadecimal) (y ∷ ds) parts.1)

    by_zero : (b : Bool) → is_zero c ≡ b → (not (is_zero c) || empty front) ≡ takes_float_suffix (c ∷ front)
    by_zero true e = ap (λ b. not b || empty front) e ∙ zero_led e front (rw e at is)
    by_zero false e =
        let all : list_all is_ascii_digit (c ∷ front) ≡ true = digits_of (list_all is_ascii_digit (c ∷ front)) refl (rw e at is) in
        let parts = both (is_ascii_digit c) (list_all is_ascii_digit front) all in
        rw (e, parts.0, many_empty is_ascii_digit front, parts.1)

-- The suffix of a float, if it stands there

pub suffix_refused : (cs rest : List ℕ) (b : Bool) → b ≡ takes_float_suffix cs → b ≡ false → IsSuffixAnswer cs rest None
suffix_refused cs rest b takes e = no_suffix (λ s behind _. ap (λ x. ((s == 102) || (s == 104)) && x) (sym takes ∙ e) ∙ and_false ((s == 102) || (s == 104)))

pub suffix_f : (cs rest text : List ℕ) (b : Bool) → b ≡ takes_float_suffix cs → b ≡ true → slice_get rest 0 ≡ Some 102 → text ≡ encode_utf8_all cs → IsSuffixAnswer cs rest (Some (F32 text))
suffix_f cs rest text b takes e at is = suffix {s = 102} {behind = drop 1 rest} (at_index rest 0 102 at) (let yes : takes_float_suffix cs ≡ true = sym takes ∙ e in rw yes (ap (λ x. Some (F32 x)) (sym is)))

pub suffix_h : (cs rest text : List ℕ) (b : Bool) → b ≡ takes_float_suffix cs → b ≡ true → slice_get rest 0 ≡ Some 104 → text ≡ encode_utf8_all cs → IsSuffixAnswer cs rest (Some (F16 text))
suffix_h cs rest text b takes e at is = suffix {s = 104} {behind = drop 1 rest} (at_index rest 0 104 at) (let yes : takes_float_suffix cs ≡ true = sym takes ∙ e in rw yes (ap (λ x. Some (F16 x)) (sym is)))

pub suffix_missing : (cs rest : List ℕ) → (slice_get rest 0 ≡ Some 102 → ⊥) → (slice_get rest 0 ≡ Some 104 → ⊥) → IsSuffixAnswer cs rest None
suffix_missing cs rest not_f not_h = no_suffix (λ s behind e. rw (other s behind e 102 not_f, other s behind e 104 not_h))
  where
    other : (s : ℕ) (behind : List ℕ) → rest ≡ s ∷ behind → (k : ℕ) → (slice_get rest 0 ≡ Some k → ⊥) → (s == k) ≡ false
    other s behind e k no_k = fails _ (λ same. no_k (ap (λ xs. slice_get xs 0) e ∙ ap Some (is_number s k same)))

-- What a piece of the code is

pub suffixed_piece : (c : ℕ) (behind front rest : List ℕ) (n : ℕ) (takes : Bool) (o : Option Token) (t : Token) (piece : Piece) → 1 ≤ n → IsFloatStem c (take (n - 1) behind) (drop (n - 1) behind) takes → front ≡ take (n - 1) behind → rest ≡ drop (n - 1) behind
    → IsSuffixAnswer (c ∷ front) rest o → o ≡ Some t → piece ≡ record { length = n + 1; token = Some t } → StandsFirst (c ∷ behind) piece.length piece.token
suffixed_piece c behind front rest n takes o t piece some stem f r answer is e =
    let A : Option Token → Type 0 = λ x. IsSuffixAnswer (c ∷ front) rest x in
    let long : n - 1 + 2 ≡ n + 1 = omega arith in
    let P : ℕ → Type 0 = λ k. StandsFirst (c ∷ behind) k (Some t) in
    piece_stands (c ∷ behind) (n + 1) (Some t) piece e (subst P long (suffixed_stands c behind (n - 1) takes stem t front rest f r (subst A is answer)))

pub float_piece : (c : ℕ) (behind front rest text : List ℕ) (n : ℕ) (takes : Bool) (o : Option Token) (piece : Piece) → 1 ≤ n → IsFloatStem c (take (n - 1) behind) (drop (n - 1) behind) takes → front ≡ take (n - 1) behind → rest ≡ drop (n - 1) behind
    → IsSuffixAnswer (c ∷ front) rest o → o ≡ None → text ≡ encode_utf8_all (c ∷ front) → piece ≡ record { length = n; token = Some (AbstractFloat text) } → StandsFirst (c ∷ behind) piece.length piece.token
float_piece c behind front rest text n takes o piece some stem f r answer is spelled e =
    let A : Option Token → Type 0 = λ x. IsSuffixAnswer (c ∷ front) rest x in
    let long : n - 1 + 1 ≡ n = omega arith in
    let P : ℕ → Type 0 = λ k. StandsFirst (c ∷ behind) k (Some (AbstractFloat text)) in
    piece_stands (c ∷ behind) n (Some (AbstractFloat text)) piece e (subst P long (float_stands c behind (n - 1) takes stem text front rest f r (subst A is answer) spelled))

pub answered : (cs rest : List ℕ) (o p : Option Token) → IsSuffixAnswer cs rest o → o ≡ p → IsSuffixAnswer cs rest p
answered cs rest o p answer e = let A : Option Token → Type 0 = λ x. IsSuffixAnswer cs rest x in subst A e answer
