-- Numbers.
use Rattle.std.specs.Prelude.{◌≢◌, Option, Some, None, if◌then◌else◌}
use Rattle.std.proofs.Common.{◌≡◌, ℕ, ◌+◌, ◌*◌, ◌^◌, ◌<◌, ◌≤◌, true, false, ◌&&◌, ◌==◌, List, [], ◌∷◌, ◌++◌, length, take, drop, reverse, get_or, refl, sym, ◌∙◌, ap, subst, arith, append_assoc, append-nil}
use Rattle.std.specs.Option.{option_map, option_or}
use Rattle.std.specs.List.{list_all}
use Rattle.std.specs.Char.{is_ascii_digit, is_ascii_hexdigit}
use Rattle.std.proofs.lemmas.List.{take_more, take-append-drop}
use Rattle.std.proofs.Math.Nat.{le-mul_of_pos_right}
use Rattle.wgsl_token.specs.declared.token.Token.{Token}
use Rattle.wgsl_lex.specs.Tokens.{magnitude, zero_led_value, digit_value, digits_value, plain_number, number_with, suffixed_number, number_token, form, token, IsLongest}
use Rattle.wgsl_lex.specs.Runs.{IsLongestRun, IsLongestMagnitude, IsValue, value_behind}
use Rattle.wgsl_lex.specs.Floats.{is_mark}
use Rattle.wgsl_lex.specs.Pieces.{goes_on, IsLongestStem}
use Rattle.wgsl_lex.proofs.Forms.{Ends, ends, nothing, last, NoStem, no_plain, no_number_with, number_token-append}

-- The three kinds

pub decimal_longest : (c : ℕ) (ds rest : List ℕ) → (c == 48) ≡ false → IsLongestRun (list_all is_ascii_digit) (c ∷ ds) rest → IsLongestMagnitude (c ∷ ds) rest (digits_value 10 (c ∷ ds))
decimal_longest c ds rest nonzero run = record {
  is = rw (nonzero, run.passes);
  longest = λ more behind nonempty e. rw (nonzero, run.longest more behind nonempty e);
}

pub hexadecimal_longest : (x c : ℕ) (cs rest : List ℕ) → is_mark x ≡ true → IsLongestRun (list_all is_ascii_hexdigit) (c ∷ cs) rest
    → IsLongestMagnitude (48 ∷ x ∷ c ∷ cs) rest (digits_value 16 (c ∷ cs))
hexadecimal_longest x c cs rest marked run = record {
  is = rw (marked, run.passes);
  longest = λ more behind nonempty e. rw (marked, run.longest more behind nonempty e);
}

-- a zero behind which no hexadecimal number goes on
pub zero_longest : (rest : List ℕ) → goes_on rest ≡ false → IsLongestMagnitude (48 ∷ []) rest 0
zero_longest rest ended = record { is = refl; longest = λ more behind nonempty e. stops more behind nonempty (ap goes_on (sym e) ∙ ended) }
  where
    led : (x c : ℕ) (cs : List ℕ) → (is_mark x && is_ascii_hexdigit c) ≡ false → zero_led_value (x ∷ c ∷ cs) ≡ None
    led x c cs e =
        elim (is_mark x) as (λ b. (b && is_ascii_hexdigit c) ≡ false → (if b && (is_ascii_hexdigit c && list_all is_ascii_hexdigit cs) then Some (digits_value 16 (c ∷ cs)) else None) ≡ None) [
          | true ↦ λ h. rw h
          | false ↦ λ h. refl
        ] e

    stops : (more behind : List ℕ) → more ≢ [] → goes_on (more ++ behind) ≡ false → magnitude (48 ∷ more) ≡ None
    stops [] behind nonempty e = absurd (nonempty refl)
    stops (x ∷ []) behind nonempty e = refl
    stops (x ∷ c ∷ cs) behind nonempty e = led x c cs e

-- With a suffix or without

module _ (cs rest : List ℕ) (forms : (xs : List ℕ) → form (cs ++ xs) ≡ option_map token (number_token (cs ++ xs))) where
  stem_less : {back : List ℕ} → IsLongestStem cs back → (more behind : List ℕ) → more ≢ [] → back ≡ more ++ behind → NoStem (cs ++ more)
  stem_less stem more behind nonempty e = record { whole = stem.no_whole more behind nonempty e; float = stem.no_float more behind nonempty e }

  -- the last of some characters is no suffix of those before it
  no_last : (ys : List ℕ) (y : ℕ) → NoStem (cs ++ (ys ++ y ∷ [])) → number_with y (cs ++ ys) ≡ None → number_token (cs ++ (ys ++ y ∷ [])) ≡ None
  no_last ys y none suffixless =
      let seam : cs ++ (ys ++ y ∷ []) ≡ (cs ++ ys) ++ y ∷ [] = sym (append_assoc cs ys (y ∷ [])) in
      ap number_token seam ∙ number_token-append (cs ++ ys) y ∙ (λ i. option_or ((ap plain_number (sym seam) ∙ no_plain (cs ++ (ys ++ y ∷ [])) none) i) (suffixless i))

  -- without
  pub plain_longest : (t : Token) → IsLongestStem cs rest → plain_number cs ≡ Some t → ((d : ℕ) (behind : List ℕ) → rest ≡ d ∷ behind → number_with d cs ≡ None) → IsLongest cs rest (token t)
  plain_longest t stem plain unsuffixed = record {
    is = ap form (sym (append-nil cs)) ∙ forms [] ∙ ap (λ xs. option_map token (number_token xs)) (append-nil cs) ∙ ap (λ o. option_map token (option_or o (suffixed_number (reverse cs)))) plain;
    longest = λ more behind nonempty e. forms more ∙ ap (option_map token) (stops more (ends more) behind nonempty e);
  }
    where
      before : (ys : List ℕ) (y : ℕ) (behind : List ℕ) → rest ≡ ys ++ y ∷ behind → number_with y (cs ++ ys) ≡ None
      before [] y behind e = ap (number_with y) (append-nil cs) ∙ unsuffixed y behind e
      before (x ∷ ys) y behind e = no_number_with y (cs ++ x ∷ ys) (stem_less stem (x ∷ ys) (y ∷ behind) (λ n. cc) e)

      filled : (ys : List ℕ) (y : ℕ) → ys ++ y ∷ [] ≢ []
      filled [] y e = cc
      filled (x ∷ ys) y e = cc

      stops : (more : List ℕ) → Ends more → (behind : List ℕ) → more ≢ [] → rest ≡ more ++ behind → number_token (cs ++ more) ≡ None
      stops _ nothing behind nonempty e = absurd (nonempty refl)
      stops _ (last ys y) behind nonempty e = no_last ys y (stem_less stem (ys ++ y ∷ []) behind (filled ys y) e) (before ys y behind (e ∙ append_assoc ys (y ∷ []) behind))

  -- with
  pub suffixed_longest : (s : ℕ) (t : Token) → IsLongestStem cs (s ∷ rest) → number_with s cs ≡ Some t → IsLongest (cs ++ s ∷ []) rest (token t)
  suffixed_longest s t stem suffix = record {
    is = forms (s ∷ []) ∙ ap (option_map token) whole;
    longest = λ more behind nonempty e.
        ap form (append_assoc cs (s ∷ []) more) ∙ forms (s ∷ more) ∙ ap (option_map token) (stops more (ends more) behind nonempty e);
  }
    where
      whole : number_token (cs ++ s ∷ []) ≡ Some t
      whole = number_token-append cs s ∙ (λ i. option_or (no_plain (cs ++ s ∷ []) (stem_less stem (s ∷ []) rest (λ n. cc) refl) i) (suffix i))

      stops : (more : List ℕ) → Ends more → (behind : List ℕ) → more ≢ [] → rest ≡ more ++ behind → number_token (cs ++ s ∷ more) ≡ None
      stops _ nothing behind nonempty e = absurd (nonempty refl)
      stops _ (last ys y) behind nonempty e =
          let e' : s ∷ rest ≡ (s ∷ ys) ++ y ∷ behind = ap (λ xs. s ∷ xs) (e ∙ append_assoc ys (y ∷ []) behind) in
          let e'' : s ∷ rest ≡ (s ∷ (ys ++ y ∷ [])) ++ behind = ap (λ xs. s ∷ xs) e in
          no_last (s ∷ ys) y (stem_less stem (s ∷ (ys ++ y ∷ [])) behind (λ n. cc) e'') (no_number_with y (cs ++ s ∷ ys) (stem_less stem (s ∷ ys) (y ∷ behind) (λ n. cc) e'))

-- Values

value_from : (base n : ℕ) (cs ds : List ℕ) → value_behind base n (cs ++ ds) ≡ value_behind base (value_behind base n cs) ds
value_from base n [] ds = refl
value_from base n (c ∷ cs) ds = value_from base (n * base + digit_value c) cs ds

value_grows : (base n : ℕ) (cs : List ℕ) → 1 ≤ base → n ≤ value_behind base n cs
value_grows base n [] h = omega arith
value_grows base n (c ∷ cs) h =
    let more : n * base + digit_value c ≤ value_behind base (n * base + digit_value c) cs = value_grows base (n * base + digit_value c) cs h in
    let much : n ≤ n * base = le-mul_of_pos_right n (omega arith) in
    omega arith

pub value_more : (base n : ℕ) (cs : List ℕ) (i x : ℕ) → i < length cs → x ≡ get_or cs i x → value_behind base n (take (i + 1) cs) ≡ value_behind base n (take i cs) * base + digit_value x
value_more base n cs i x h e = ap (value_behind base n) (take_more cs i x h ∙ ap (λ y. take i cs ++ y ∷ []) (sym e)) ∙ value_from base n (take i cs) (x ∷ [])

pub value_within : (base n : ℕ) (cs : List ℕ) (i : ℕ) → 1 ≤ base → value_behind base n (take i cs) ≤ value_behind base n cs
value_within base n cs i h =
    let parts : value_behind base n cs ≡ value_behind base (value_behind base n (take i cs)) (drop i cs) =
    ap (value_behind base n) (sym (take-append-drop i cs)) ∙ value_from base n (take i cs) (drop i cs)
    in
    omega (arith, value_grows base (value_behind base n (take i cs)) (drop i cs) h)

-- where a step leaves 64 bits, the whole does
pub value_past : (base n : ℕ) (cs : List ℕ) (i x w : ℕ) (r : Option ℕ) → w ≡ value_behind base n (take i cs) → i < length cs → x ≡ get_or cs i x → 1 ≤ base → (w * base + digit_value x < 2 ^ 64 → ⊥) → r ≡ None
    → IsValue r (value_behind base n cs)
value_past base n cs i x w r so_far within is b past none =
    let step : value_behind base n (take (i + 1) cs) ≡ w * base + digit_value x = value_more base n cs i x within is ∙ ap (λ v. v * base + digit_value x) (sym so_far) in
    let whole : value_behind base n (take (i + 1) cs) ≤ value_behind base n cs = value_within base n cs (i + 1) b in
    let large : 2 ^ 64 ≤ value_behind base n cs = omega arith in
    let P : Option ℕ → Type 0 = λ o. IsValue o (value_behind base n cs) in
    subst P (sym none) large
