-- What the steps that read a mangled name find: digits, pieces, a part, and the parts that are left.
use denote.Ref.{Bor}
use Rattle.std.proofs.Common.{◌≡◌, ◌≢◌, ℕ, zero, suc, ◌+◌, ◌<◌, ◌≤◌, ◌^◌, true, false, cond, ◌==◌, List, [], ◌∷◌, ◌++◌, length, get_or, take, drop, codes, decimal, Option, Some, None, IsUtf8, IsCharBoundary, inl, inr, refl, sym, ap, ap₂, subst, ◌∙◌, arith, append_assoc, append-nil, length-append, add-one, rules, Result, Ok, Err, IfOk}
use Rattle.std.specs.List.{AllByRecursion, prefix_len}
use Rattle.std.specs.Char.{is_ascii_digit}
use Rattle.std.specs.Str.{all_ascii_digits}
use Rattle.std.proofs.lemmas.Bool.Decides.{nat_tests}
use Rattle.std.proofs.lemmas.Str.{IsCharBoundary-start, IsCharBoundary-after_ascii}
use Rattle.std.proofs.lemmas.List.Sums.{prefix_len-le-length, prefix_len_passes, count_by-le-length}
use Rattle.std.proofs.lemmas.Fmt.{digits_decimal}
use Rattle.wesl_resolve.specs.Mangling.{underscores, escaped, escaped_parts}
use Rattle.wesl_resolve.specs.Unmangling.{BeginsNoDigit, IsPlainName, Ends, behind, IsRead, IsFirstPart, IsCutAfter, IsFirstCount}
use Rattle.wesl_resolve.proofs.Reading.{one, underscores_cons, underscores_append, decimal_model, first_digit, more_digits, behind_Ends, parts_Ends, same_cut, escaped_none, escaped_some, no_count, none_or_some, plain_before}

pub none_there : (bs : List ℕ) → ((i : ℕ) → i < length bs → get_or bs i 0 ≢ 95) → underscores bs ≡ 0
none_there [] none = refl
none_there (c ∷ cs) none =
    let other : c ≢ 95 = none 0 (omega arith) in
    let test : (c == 95) ≡ false = grind (arith, nat_tests) in
    let first : one c ≡ 0 = ap (λ b. cond b 1 0) test in
    let rest : underscores cs ≡ 0 = none_there cs (λ i within. none (suc i) (omega arith)) in
    omega (arith, underscores_cons c cs, first, rest)

digit_is_ascii : (c : ℕ) → is_ascii_digit c ≡ true → c < 128
digit_is_ascii c digit = grind (arith, nat_tests)

-- a text may be cut behind the digits that it begins with
boundary_at : (bs : List ℕ) (n : ℕ) → n ≡ prefix_len is_ascii_digit bs → IsUtf8 bs → IsCharBoundary bs n
boundary_at bs zero is text = IsCharBoundary-start bs text
boundary_at bs (suc n) is text =
    let some : prefix_len is_ascii_digit bs ≤ length bs = prefix_len-le-length is_ascii_digit bs in
    let last : get_or bs n 0 < 128 = digit_is_ascii (get_or bs n 0) (prefix_len_passes is_ascii_digit bs n 0 (omega arith)) in
    subst (IsCharBoundary bs) (add-one n) (IsCharBoundary-after_ascii bs n text (omega arith) last)

pub digit_boundary : (bs : List ℕ) → IsUtf8 bs → IsCharBoundary bs (prefix_len is_ascii_digit bs)
digit_boundary bs text = boundary_at bs (prefix_len is_ascii_digit bs) refl text

no_digits : (after : List ℕ) → BeginsNoDigit after → prefix_len is_ascii_digit after ≡ 0
no_digits [] none = refl
no_digits (c ∷ after) none = ap (λ b. cond b (1 + prefix_len is_ascii_digit after) 0) none

digits_first : (ds after : List ℕ) → all_ascii_digits ds ≡ true → BeginsNoDigit after → prefix_len is_ascii_digit (ds ++ after) ≡ length ds
digits_first [] after digits none = no_digits after none
digits_first (d ∷ ds) after digits none =
    let first : is_ascii_digit d ≡ true = first_digit (is_ascii_digit d) (all_ascii_digits ds) digits in
    let rest : prefix_len is_ascii_digit (ds ++ after) ≡ length ds = digits_first ds after (more_digits (is_ascii_digit d) (all_ascii_digits ds) digits) none in
    let taken : prefix_len is_ascii_digit (d ∷ (ds ++ after)) ≡ 1 + prefix_len is_ascii_digit (ds ++ after) = ap (λ b. cond b (1 + prefix_len is_ascii_digit (ds ++ after)) 0) first in
    omega (arith, taken, rest)

take_front : (xs ys : List ℕ) → take (length xs) (xs ++ ys) ≡ xs
take_front [] ys = search rules
take_front (x ∷ xs) ys = ap (λ zs. x ∷ zs) (take_front xs ys)

drop_front : (xs ys : List ℕ) → drop (length xs) (xs ++ ys) ≡ ys
drop_front [] ys = search rules
drop_front (x ∷ xs) ys = drop_front xs ys

-- digits that are cut off are the decimal number that stands there
pub digits_cut : (count n : ℕ) (after text front back : List ℕ) → count < 2 ^ 64 → BeginsNoDigit after → text ≡ decimal count ++ after → n ≡ prefix_len is_ascii_digit text
    → front ≡ take n text → back ≡ drop n text → (front ≡ decimal count) × (back ≡ after)
digits_cut count n after text front back small none is run is_front is_back =
    let size : n ≡ length (decimal count) = run ∙ ap (prefix_len is_ascii_digit) is ∙ digits_first (decimal count) after (digits_decimal decimal_model count small) none in
    (is_front ∙ ap₂ (λ k s. take k s) size is ∙ take_front (decimal count) after, is_back ∙ ap₂ (λ k s. drop k s) size is ∙ drop_front (decimal count) after)

-- one more underscore behind a piece without one
pub cut_more : (text part piece after rest : List ℕ) (n : ℕ) → text ≡ part ++ rest → underscores part ≡ n → rest ≡ piece ++ (95 ∷ after) → underscores piece ≡ 0
    → (text ≡ ((part ++ piece) ++ codes "_") ++ after) × (underscores ((part ++ piece) ++ codes "_") ≡ n + 1)
cut_more text part piece after rest n is few splits none =
    let pieces : text ≡ part ++ (piece ++ (95 ∷ after)) = is ∙ ap (λ r. part ++ r) splits in
    let mark : underscores (codes "_") ≡ 1 = refl in (
      pieces ∙ sym (append_assoc part piece (95 ∷ after)) ∙ sym (append_assoc (part ++ piece) (codes "_") after),
      omega (arith, underscores_append (part ++ piece) (codes "_"), underscores_append part piece, none, few, mark),
    )

pub cut_ends : (text part piece after rest : List ℕ) (n : ℕ) → text ≡ part ++ rest → underscores part ≡ n → rest ≡ piece ++ after → underscores piece ≡ 0
    → (text ≡ (part ++ piece) ++ after) × (underscores (part ++ piece) ≡ n)
cut_ends text part piece after rest n is few splits none =
    (is ∙ ap (λ r. part ++ r) splits ∙ sym (append_assoc part piece after), omega (arith, underscores_append part piece, none, few))

pub too_few : (text part piece rest : List ℕ) (n : ℕ) → text ≡ part ++ rest → underscores part ≡ n → rest ≡ piece ++ [] → underscores piece ≡ 0 → underscores text ≡ n
too_few text part piece rest n is few splits none =
    let all : underscores text ≡ underscores (part ++ rest) = ap underscores is in
    let last : underscores rest ≡ underscores piece = ap underscores (splits ∙ append-nil piece) in
    omega (arith, all, last, underscores_append part rest, none, few)

-- a cut behind as many underscores as a part has is the cut behind the part
read_cut : (count : ℕ) (part after text : List ℕ) (answer : Option (List ℕ × Option (Bor (List ℕ)))) → IsCutAfter count text answer → underscores part ≡ count → Ends after
    → text ≡ part ++ after → IsRead part after answer
read_cut count part after text None cut few ends is =
    let all : underscores text ≡ underscores (part ++ after) = ap underscores is in
    absurd (omega (arith, cut, all, underscores_append part after, few))
read_cut count part after text (Some read) cut few ends is = same_cut read.0 part (behind read.1) after (cut.1 ∙ sym few) (behind_Ends read.1) ends (sym cut.0 ∙ is)

-- a text without `_` first
pub first_plain : (text : List ℕ) (answer : Option (List ℕ × Option (Bor (List ℕ)))) → ((rest : List ℕ) → text ≢ 95 ∷ rest) → IsCutAfter 0 text answer → IsFirstPart text answer
first_plain text answer other cut part after plain ends is =
    elim (none_or_some (underscores part)) [
      | inl none ↦ read_cut 0 part after text answer cut none ends (is ∙ ap (λ s. s ++ after) (escaped_none part none))
      | inr some ↦ absurd (other ((decimal (underscores part) ++ part) ++ after) (is ∙ ap (λ s. s ++ after) (escaped_some part some)))
    ]

-- what stands behind the first `_` of an escaped part
count_there : (text counted part after : List ℕ) → text ≡ 95 ∷ counted → IsPlainName part → text ≡ escaped part ++ after
    → (0 < underscores part) × (counted ≡ decimal (underscores part) ++ (part ++ after))
count_there text counted part after begins plain is =
    elim (none_or_some (underscores part)) [
      | inl none ↦ absurd (no_count part after counted plain none (sym (ap (λ s. s ++ after) (escaped_none part none)) ∙ sym is ∙ begins))
      | inr some ↦
          let both : 95 ∷ counted ≡ 95 ∷ ((decimal (underscores part) ++ part) ++ after) = sym begins ∙ is ∙ ap (λ s. s ++ after) (escaped_some part some) in
          let inner : counted ≡ (decimal (underscores part) ++ part) ++ after = cc in
          (some, inner ∙ append_assoc (decimal (underscores part)) part after)
    ]

few_there : (part counted after : List ℕ) → counted ≡ decimal (underscores part) ++ (part ++ after) → length counted < 2 ^ 64 → underscores part < 2 ^ 64
few_there part counted after is short =
    omega (arith, short, ap length is, length-append (decimal (underscores part)) (part ++ after), length-append part after, count_by-le-length (λ c. c == 95) part)

-- a text with `_` and no count behind it
pub first_uncounted : (text counted : List ℕ) → text ≡ 95 ∷ counted → length counted < 2 ^ 64 → IsFirstCount counted None → IsFirstPart text None
first_uncounted text counted begins short uncounted part after plain ends is =
    let there = count_there text counted part after begins plain is in
    uncounted (underscores part) (part ++ after) (few_there part counted after there.1 short) (plain_before part after plain) there.1

-- a text with `_` and a count
pub first_counted : (text counted : List ℕ) (read : ℕ × Bor (List ℕ)) (answer : Option (List ℕ × Option (Bor (List ℕ)))) → text ≡ 95 ∷ counted → length counted < 2 ^ 64
    → IsFirstCount counted (Some read) → IsCutAfter read.0 read.1.now answer → IsFirstPart text answer
first_counted text counted read answer begins short counts cut part after plain ends is =
    let there = count_there text counted part after begins plain is in
    let number = counts (underscores part) (part ++ after) (few_there part counted after there.1 short) (plain_before part after plain) there.1 in
    read_cut read.0 part after read.1.now answer cut (sym number.0) ends number.1

-- of some parts, those that are left to read
pub record AreLeft (parts done : List (List ℕ)) (text : List ℕ) : Type 0 where
  pub left : List (List ℕ)
  pub plain : AllByRecursion IsPlainName left
  pub is_text : text ≡ escaped_parts left
  pub are_all : parts ≡ done ++ left

pub all_left : (parts : List (List ℕ)) (text : List ℕ) → AllByRecursion IsPlainName parts → text ≡ escaped_parts parts → AreLeft parts [] text
all_left parts text plain is = record { left = parts; plain = plain; is_text = is; are_all = refl }

none_left : (left parts done : List (List ℕ)) → [] ≡ escaped_parts left → parts ≡ done ++ left → parts ≡ done
none_left [] parts done is are_all = are_all ∙ append-nil done
none_left (part ∷ left) parts done is are_all = cc

pub all_done : (parts done : List (List ℕ)) → AreLeft parts done [] → parts ≡ done
all_done parts done left = none_left left.left parts done left.is_text left.are_all

one_read : (left parts done : List (List ℕ)) (more : List ℕ) (answer : Option (List ℕ × Option (Bor (List ℕ)))) → IsFirstPart more answer → AllByRecursion IsPlainName left → 95 ∷ more ≡ escaped_parts left
    → (part : List ℕ) × (rest : List (List ℕ)) × (left ≡ part ∷ rest) × AllByRecursion IsPlainName rest × IsRead part (escaped_parts rest) answer
one_read [] parts done more answer reads plain is = cc
one_read (part ∷ rest) parts done more answer reads plain is =
    let inner : more ≡ escaped part ++ escaped_parts rest = cc in
    (part, rest, refl, plain.1, reads part (escaped_parts rest) plain.0 (parts_Ends rest) inner)

-- one part more was read
pub one_more : (parts done : List (List ℕ)) (more part : List ℕ) (after : Option (Bor (List ℕ))) → IsFirstPart more (Some (part, after)) → AreLeft parts done (95 ∷ more) → AreLeft parts (done ++ part ∷ []) (behind after)
one_more parts done more part after reads left =
    let next = one_read left.left parts done more (Some (part, after)) reads left.plain left.is_text in
    let same : next.0 ≡ part = sym next.4.0 in
    record {
      left = next.1;
      plain = next.3;
      is_text = next.4.1;
      are_all = left.are_all ∙ ap (λ l. done ++ l) (next.2 ∙ ap (λ p. p ∷ next.1) same) ∙ sym (append_assoc done (part ∷ []) next.1);
    }

pub no_more : (parts done : List (List ℕ)) (more : List ℕ) → IsFirstPart more None → AreLeft parts done (95 ∷ more) → ⊥
no_more parts done more reads left = (one_read left.left parts done more None reads left.plain left.is_text).4

pub weaker : {X E : Type 0} (P Q : X → Type 0) (r : Result X E) → ((x : X) → P x → Q x) → IfOk r P → IfOk r Q
weaker P Q (Ok x) step holds = step x holds
weaker P Q (Err e) step holds = tt
