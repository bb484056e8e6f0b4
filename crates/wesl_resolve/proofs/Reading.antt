-- A part of a mangled name, and what stands behind it, can be told apart in one way.
use denote.Ref.{Bor}
use Rattle.std.proofs.Common.{◌≡◌, ℕ, zero, suc, ◌+◌, ◌<◌, ◌≤◌, ◌^◌, Bool, true, false, cond, ◌==◌, ◌&&◌, if◌then◌else◌, List, [], ◌∷◌, ◌++◌, length, decimal, Option, Some, None, refl, sym, ap, subst, ◌∙◌, arith, append_assoc, ap₂, length-append, ◌⊎◌, inl, inr}
use Rattle.std.specs.List.{AllByRecursion}
use Rattle.std.specs.Char.{is_ascii_digit}
use Rattle.std.specs.Str.{all_ascii_digits}
use Rattle.std.specs.Str.Parse.{digits_value}
use Rattle.std.proofs.lemmas.Bool.Decides.{nat_tests}
use Rattle.std.proofs.lemmas.Bool.{false≢true}
use Rattle.std.proofs.lemmas.List.Sums.{sum_by-cons, sum_by-append, count_by-le-length}
use Rattle.std.proofs.lemmas.Str.Parse.{IsNumeralModel, numerals_by_value, tells_all_ascii_digits}
use Rattle.std.proofs.lemmas.Fmt.{digits_decimal, decimal_injective}
use Rattle.wesl_resolve.specs.Mangling.{underscores, escaped, escaped_parts}
use Rattle.wesl_resolve.specs.Unmangling.{BeginsNoDigit, IsPlainName, Ends, behind}

pub behind_Ends : (rest : Option (Bor (List ℕ))) → Ends (behind rest)
behind_Ends None = tt
behind_Ends (Some rest) = refl

pub parts_Ends : (parts : List (List ℕ)) → Ends (escaped_parts parts)
parts_Ends [] = tt
parts_Ends (part ∷ parts) = refl

-- one for an underscore
abbrev pub one : ℕ → ℕ
one c = cond (c == 95) 1 0

pub underscores_cons : (c : ℕ) (cs : List ℕ) → underscores (c ∷ cs) ≡ one c + underscores cs
underscores_cons c cs = sum_by-cons one c cs

pub underscores_append : (a b : List ℕ) → underscores (a ++ b) ≡ underscores a + underscores b
underscores_append a b = sum_by-append one a b

underscore_counts : (c : ℕ) (cs : List ℕ) → c ≡ 95 → 0 < underscores (c ∷ cs)
underscore_counts c cs e =
    let is_one : one c ≡ 1 = ap one e in
    omega (arith, underscores_cons c cs, is_one)

ends_here : (c : ℕ) (cs x y : List ℕ) → Ends x → x ≡ c ∷ (cs ++ y) → 0 < underscores (c ∷ cs)
ends_here c cs x y ends e =
    let at_first : Ends (c ∷ (cs ++ y)) = subst Ends e ends in
    underscore_counts c cs at_first

-- texts with as many underscores, cut before a further one or at the end
pub same_cut : (a b x y : List ℕ) → underscores a ≡ underscores b → Ends x → Ends y → a ++ x ≡ b ++ y → (a ≡ b) × (x ≡ y)
same_cut [] [] x y few in_x in_y e = (refl, e)
same_cut [] (d ∷ b) x y few in_x in_y e = absurd (omega (arith, ends_here d b x y in_x e))
same_cut (c ∷ a) [] x y few in_x in_y e = absurd (omega (arith, ends_here c a y x in_y (sym e)))
same_cut (c ∷ a) (d ∷ b) x y few in_x in_y e =
    let heads : c ≡ d = cc in
    let tails : a ++ x ≡ b ++ y = cc in
    let ones : one c ≡ one d = ap one heads in
    let as_few : underscores a ≡ underscores b = omega (arith, ones, few, underscores_cons c a, underscores_cons d b) in
    let rest = same_cut a b x y as_few in_x in_y tails in
    let is : a ≡ b = rest.0 in
    (cc, rest.1)

abbrev pub decimal_model : IsNumeralModel (λ ds. all_ascii_digits ds ≡ true) (digits_value 10)
decimal_model = numerals_by_value (λ ds. all_ascii_digits ds ≡ true) tells_all_ascii_digits

digit_and_none : (c : ℕ) → is_ascii_digit c ≡ true → is_ascii_digit c ≡ false → ⊥
digit_and_none c digit none = false≢true (sym none ∙ digit)

pub first_digit : (b c : Bool) → (b && c) ≡ true → b ≡ true
first_digit true c e = refl
first_digit false c e = e

pub more_digits : (b c : Bool) → (b && c) ≡ true → c ≡ true
more_digits true c e = e
more_digits false c e = absurd (false≢true e)

first_is_none : (d : ℕ) (p a b : List ℕ) → all_ascii_digits (d ∷ p) ≡ true → BeginsNoDigit a → a ≡ d ∷ (p ++ b) → ⊥
first_is_none d p a b digits none e =
    let no : is_ascii_digit d ≡ false = subst BeginsNoDigit e none in
    digit_and_none d (first_digit (is_ascii_digit d) (all_ascii_digits p) digits) no

-- digits, and no digit behind them
pub same_digits : (p q a b : List ℕ) → all_ascii_digits p ≡ true → all_ascii_digits q ≡ true → BeginsNoDigit a → BeginsNoDigit b → p ++ a ≡ q ++ b → (p ≡ q) × (a ≡ b)
same_digits [] [] a b in_p in_q no_a no_b e = (refl, e)
same_digits [] (d ∷ q) a b in_p in_q no_a no_b e = absurd (first_is_none d q a b in_q no_a e)
same_digits (c ∷ p) [] a b in_p in_q no_a no_b e = absurd (first_is_none c p b a in_p no_b (sym e))
same_digits (c ∷ p) (d ∷ q) a b in_p in_q no_a no_b e =
    let heads : c ≡ d = cc in
    let tails : p ++ a ≡ q ++ b = cc in
    let rest = same_digits p q a b (more_digits (is_ascii_digit c) (all_ascii_digits p) in_p) (more_digits (is_ascii_digit d) (all_ascii_digits q) in_q) no_a no_b tails in
    let is : p ≡ q = rest.0 in
    (cc, rest.1)

by_zero : (n : ℕ) (p q : List ℕ) → n ≡ 0 → (if n == 0 then p else q) ≡ p
by_zero n p q e = ap (λ k. if k == 0 then p else q) e

by_more : (n : ℕ) (p q : List ℕ) → 0 < n → (if n == 0 then p else q) ≡ q
by_more n p q more =
    let test : (n == 0) ≡ false = grind (arith, nat_tests) in
    ap (λ b. if b then p else q) test

pub escaped_none : (part : List ℕ) → underscores part ≡ 0 → escaped part ≡ part
escaped_none part none = by_zero (underscores part) part (95 ∷ (decimal (underscores part) ++ part)) none

pub escaped_some : (part : List ℕ) → 0 < underscores part → escaped part ≡ 95 ∷ (decimal (underscores part) ++ part)
escaped_some part some = by_more (underscores part) part (95 ∷ (decimal (underscores part) ++ part)) some

pub plain_before : (part x : List ℕ) → IsPlainName part → BeginsNoDigit (part ++ x)
plain_before [] x plain = absurd (plain.0 refl)
plain_before (c ∷ part) x plain = plain.1

-- a name without underscores does not begin as one with a count
pub no_count : (a x rest : List ℕ) → IsPlainName a → underscores a ≡ 0 → a ++ x ≡ 95 ∷ rest → ⊥
no_count [] x rest plain none e = plain.0 refl
no_count (c ∷ a) x rest plain none e =
    let is : c ≡ 95 = cc in
    let some = underscore_counts c a is in
    omega arith

pub none_or_some : (n : ℕ) → (n ≡ 0) ⊎ (0 < n)
none_or_some zero = inl refl
none_or_some (suc n) = inr (omega arith)

counted : (a b x y : List ℕ) → IsPlainName a → IsPlainName b → underscores a < 2 ^ 64 → underscores b < 2 ^ 64 → Ends x → Ends y
    → decimal (underscores a) ++ (a ++ x) ≡ decimal (underscores b) ++ (b ++ y) → (a ≡ b) × (x ≡ y)
counted a b x y plain_a plain_b few_a few_b in_x in_y e =
    let cut = same_digits (decimal (underscores a)) (decimal (underscores b)) (a ++ x) (b ++ y) (digits_decimal decimal_model (underscores a) few_a) (digits_decimal decimal_model (underscores b) few_b) (plain_before a x plain_a) (plain_before b y plain_b) e in
    same_cut a b x y (decimal_injective (underscores a) (underscores b) few_a few_b cut.0) in_x in_y cut.1

-- an escaped part, and what stands behind it
pub same_escaped : (a b x y : List ℕ) → IsPlainName a → IsPlainName b → underscores a < 2 ^ 64 → underscores b < 2 ^ 64 → Ends x → Ends y
    → escaped a ++ x ≡ escaped b ++ y → (a ≡ b) × (x ≡ y)
same_escaped a b x y plain_a plain_b few_a few_b in_x in_y e =
    elim (none_or_some (underscores a)) [
      | inl none_a ↦ elim (none_or_some (underscores b)) [
        | inl none_b ↦ same_cut a b x y (none_a ∙ sym none_b) in_x in_y (sym (ap (λ s. s ++ x) (escaped_none a none_a)) ∙ e ∙ ap (λ s. s ++ y) (escaped_none b none_b))
        | inr some_b ↦ absurd (no_count a x ((decimal (underscores b) ++ b) ++ y) plain_a none_a (sym (ap (λ s. s ++ x) (escaped_none a none_a)) ∙ e ∙ ap (λ s. s ++ y) (escaped_some b some_b)))
      ]
      | inr some_a ↦ elim (none_or_some (underscores b)) [
        | inl none_b ↦ absurd (no_count b y ((decimal (underscores a) ++ a) ++ x) plain_b none_b (sym (ap (λ s. s ++ y) (escaped_none b none_b)) ∙ sym e ∙ ap (λ s. s ++ x) (escaped_some a some_a)))
        | inr some_b ↦
            let both : 95 ∷ ((decimal (underscores a) ++ a) ++ x) ≡ 95 ∷ ((decimal (underscores b) ++ b) ++ y) = sym (ap (λ s. s ++ x) (escaped_some a some_a)) ∙ e ∙ ap (λ s. s ++ y) (escaped_some b some_b) in
            let inner : (decimal (underscores a) ++ a) ++ x ≡ (decimal (underscores b) ++ b) ++ y = cc in
            counted a b x y plain_a plain_b few_a few_b in_x in_y (sym (append_assoc (decimal (underscores a)) a x) ∙ inner ∙ append_assoc (decimal (underscores b)) b y)
      ]
    ]

pub underscores_le : (part : List ℕ) → underscores part ≤ length (escaped part)
underscores_le part =
    let few : underscores part ≤ length part = count_by-le-length (λ c. c == 95) part in
    elim (none_or_some (underscores part)) [
      | inl none ↦ omega (arith, none)
      | inr some ↦ omega (arith, few, ap length (escaped_some part some), length-append (decimal (underscores part)) part)
    ]

-- the parts that a text is made of, each behind `_`
pub same_parts : (xs ys : List (List ℕ)) → AllByRecursion IsPlainName xs → AllByRecursion IsPlainName ys → length (escaped_parts xs) ≤ 2 ^ 64
    → escaped_parts xs ≡ escaped_parts ys → xs ≡ ys
same_parts [] [] plain_x plain_y short e = refl
same_parts [] (y ∷ ys) plain_x plain_y short e = cc
same_parts (x ∷ xs) [] plain_x plain_y short e = cc
same_parts (x ∷ xs) (y ∷ ys) plain_x plain_y short e =
    let inner : escaped x ++ escaped_parts xs ≡ escaped y ++ escaped_parts ys = cc in
    let size_x = length-append (escaped x) (escaped_parts xs) in
    let size_y = length-append (escaped y) (escaped_parts ys) in
    let short_x : suc (length (escaped x ++ escaped_parts xs)) ≤ 2 ^ 64 = short in
    let few_x : underscores x < 2 ^ 64 = omega (arith, short_x, size_x, underscores_le x) in
    let few_y : underscores y < 2 ^ 64 = omega (arith, short_x, ap length inner, size_y, underscores_le y) in
    let cut = same_escaped x y (escaped_parts xs) (escaped_parts ys) plain_x.0 plain_y.0 few_x few_y (parts_Ends xs) (parts_Ends ys) inner in
    let short_xs : length (escaped_parts xs) ≤ 2 ^ 64 = omega (arith, short_x, size_x) in
    let first : x ≡ y = cut.0 in
    let rest : xs ≡ ys = same_parts xs ys plain_x.1 plain_y.1 short_xs cut.1 in
    ap₂ (λ p ps. p ∷ ps) first rest
