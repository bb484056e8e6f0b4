-- The rows as they are read are the rows that are listed.
use Rattle.std.proofs.Common.{◌≡◌, ◌∙◌, refl, sym, ap, ℕ, zero, suc, ◌+◌, ◌-◌, ◌<◌, ◌≤◌, Bool, true, false, nat_lt, ◌==◌, ◌&&◌, if◌then◌else◌, List, [], ◌∷◌, map, length, inl, inr, arith, slice_index, slice_range, cond, drop, get_or, drop-cons, add-one, Some}
use Rattle.std.specs.Prelude.{nat_le}
use Rattle.std.proofs.lemmas.Bool.{eqb-true, leb-true, and_parts, lt-ltb, le-ltb, cases_lt}
use Rattle.std.proofs.lemmas.List.{length-map}
use Rattle.wgsl_grammar_tables.specs.Grammars.{Symbol, Rule}
use Rattle.wgsl_grammar_tables.specs.Listed.{code, member, rule_at, finals_at, first_before}
use Rattle.wgsl_grammar_tables.specs.Tests.{all_below}
use Rattle.wgsl_grammar_tables.proofs.Facts.{given, each_below, code_is}
use Rattle.wgsl_parser_table.specs.declared.table.TheConstants.{LAST, PATTERNS, PATTERNS_STARTS, RULE_COUNT, STATE_COUNT, NONTERMINAL_COUNT, FINALS, FINALS_STARTS, FOLLOW, FOLLOW_STARTS, LEFT, RIGHT, RIGHT_STARTS}
use Rattle.wgsl_grammar_tables.specs.Rows.{AreStarts, row_between}
use Rattle.wgsl_grammar_tables.specs.Starts.{start}
use Rattle.wgsl_grammar_tables.specs.Decoded.{nth, listed, symbol_of, groups, number_at}

-- ---- lists that are the same

module _ {X : Type 0} (same : X → X → Bool) where
  abbrev pub all_same : List X → List X → Bool
  all_same [] [] = true
  all_same [] (y ∷ ys) = false
  all_same (x ∷ xs) [] = false
  all_same (x ∷ xs) (y ∷ ys) = same x y && all_same xs ys

  module _ (sound : (x y : X) → same x y ≡ true → x ≡ y) where
    pub lists_same : (xs ys : List X) → all_same xs ys ≡ true → xs ≡ ys
    lists_same [] [] e = refl
    lists_same [] (y ∷ ys) e = absurd cc
    lists_same (x ∷ xs) [] e = absurd cc
    lists_same (x ∷ xs) (y ∷ ys) e =
        let parts = and_parts (same x y) (all_same xs ys) e in
        ap (λ z. z ∷ xs) (sound x y parts.0) ∙ ap (λ z. y ∷ z) (lists_same xs ys parts.1)

    -- rows are the same if they are below a count and from there on
    pub rows_same : (f h : ℕ → List X) (n : ℕ) → all_below n (λ i. all_same (f i) (h i)) ≡ true → ((i : ℕ) → n ≤ i → f i ≡ h i) → (i : ℕ) → f i ≡ h i
    rows_same f h n e beyond i =
        elim (cases_lt i n) [
          | inl lt ↦ lists_same (f i) (h i) (each_below n (λ i. all_same (f i) (h i)) i e (lt-ltb i n lt))
          | inr le ↦ beyond i le
        ]

abbrev pub same_symbol : Symbol → Symbol → Bool
same_symbol x y = code x == code y

pub symbol_same : (x y : Symbol) → same_symbol x y ≡ true → x ≡ y
symbol_same x y e = code_is x y (eqb-true (code x) (code y) e)

none_beyond : {X : Type 0} (xs : List X) (i n : ℕ) → n ≤ i → (if nat_lt i n then xs else []) ≡ []
none_beyond xs i n le = ap (λ z. if z then xs else []) (le-ltb i n le)

dropped : (xs : List ℕ) (i d : ℕ) → i < length xs → drop i xs ≡ get_or xs i d ∷ drop (i + 1) xs
dropped xs i d lt = drop-cons xs i d lt ∙ ap (λ n. get_or xs i d ∷ drop n xs) (sym (add-one i))

more_beyond : (i n : ℕ) → n ≤ i → n + 1 ≤ i + 1
more_beyond i n le = omega arith

-- ---- places

abbrev start_fits : List ℕ → ℕ → ℕ → Bool
start_fits starts n i = nat_le (slice_index starts i) (slice_index starts (i + 1)) && nat_le (slice_index starts (i + 1)) n

are_starts : (starts : List ℕ) (n : ℕ) → all_below (length starts - 1) (start_fits starts n) ≡ true → AreStarts starts n
are_starts starts n e =
    let at : (i : ℕ) → i + 1 < length starts → start_fits starts n i ≡ true = λ i lt. each_below (length starts - 1) (start_fits starts n) i e (lt-ltb i (length starts - 1) (omega arith)) in
    let parts = λ (i : ℕ) (lt : i + 1 < length starts). and_parts (nat_le (slice_index starts i) (slice_index starts (i + 1))) (nat_le (slice_index starts (i + 1)) n) (at i lt) in
    record {
      in_order = λ i lt. leb-true (slice_index starts i) (slice_index starts (i + 1)) (parts i lt).0;
      within = λ i lt. leb-true (slice_index starts (i + 1)) n (parts i lt).1;
    }

pub finals_starts : AreStarts FINALS_STARTS (length FINALS)
finals_starts = are_starts FINALS_STARTS (length FINALS) refl

pub follow_starts : AreStarts FOLLOW_STARTS (length FOLLOW)
follow_starts = are_starts FOLLOW_STARTS (length FOLLOW) refl

pub right_starts : AreStarts RIGHT_STARTS (length RIGHT)
right_starts = are_starts RIGHT_STARTS (length RIGHT) refl

pub parts_starts : AreStarts PATTERNS_STARTS (length PATTERNS)
parts_starts = are_starts PATTERNS_STARTS (length PATTERNS) refl

-- ---- rows

finals_test : all_below STATE_COUNT (λ s. all_same ◌==◌ (row_between FINALS_STARTS FINALS s) (finals_at listed s)) ≡ true
unfolding listed
finals_test = refl

follow_test : all_below NONTERMINAL_COUNT (λ n. all_same ◌==◌ (row_between FOLLOW_STARTS FOLLOW n) (listed.follow n)) ≡ true
unfolding listed
follow_test = refl

right_test : all_below RULE_COUNT (λ p. all_same same_symbol (map symbol_of (row_between RIGHT_STARTS RIGHT p)) (listed.rule p).right) ≡ true
unfolding listed
right_test = refl

finals_beyond : (s : ℕ) → STATE_COUNT ≤ s → row_between FINALS_STARTS FINALS s ≡ finals_at listed s
unfolding listed
finals_beyond s le =
    none_beyond (slice_range FINALS (slice_index FINALS_STARTS s) (slice_index FINALS_STARTS (s + 1))) (s + 1) (length FINALS_STARTS) (more_beyond s STATE_COUNT le)
    ∙ sym (none_beyond (listed.finals s) s STATE_COUNT le)

pub finals_row : (s : ℕ) → row_between FINALS_STARTS FINALS s ≡ finals_at listed s
finals_row = rows_same ◌==◌ eqb-true (λ s. row_between FINALS_STARTS FINALS s) (λ s. finals_at listed s) STATE_COUNT finals_test finals_beyond

follow_beyond : (n : ℕ) → NONTERMINAL_COUNT ≤ n → row_between FOLLOW_STARTS FOLLOW n ≡ listed.follow n
unfolding listed
follow_beyond n le =
    none_beyond (slice_range FOLLOW (slice_index FOLLOW_STARTS n) (slice_index FOLLOW_STARTS (n + 1))) (n + 1) (length FOLLOW_STARTS) (more_beyond n NONTERMINAL_COUNT le)
    ∙ sym (none_beyond _ n NONTERMINAL_COUNT le)

pub follow_row : (n : ℕ) → row_between FOLLOW_STARTS FOLLOW n ≡ listed.follow n
follow_row = rows_same ◌==◌ eqb-true (λ n. row_between FOLLOW_STARTS FOLLOW n) (λ n. listed.follow n) NONTERMINAL_COUNT follow_test follow_beyond

right_beyond : (p : ℕ) → RULE_COUNT ≤ p → map symbol_of (row_between RIGHT_STARTS RIGHT p) ≡ (listed.rule p).right
unfolding listed
right_beyond p le =
    ap (map symbol_of) (none_beyond (slice_range RIGHT (slice_index RIGHT_STARTS p) (slice_index RIGHT_STARTS (p + 1))) (p + 1) (length RIGHT_STARTS) (more_beyond p RULE_COUNT le))
    ∙ sym (none_beyond _ p RULE_COUNT le)

pub right_row : (p : ℕ) → map symbol_of (row_between RIGHT_STARTS RIGHT p) ≡ (listed.rule p).right
right_row = rows_same same_symbol symbol_same (λ p. map symbol_of (row_between RIGHT_STARTS RIGHT p)) (λ p. (listed.rule p).right) RULE_COUNT right_test right_beyond

pub right_length : (p : ℕ) → length (row_between RIGHT_STARTS RIGHT p) ≡ length (listed.rule p).right
right_length p = sym (length-map (row_between RIGHT_STARTS RIGHT p) symbol_of) ∙ ap length (right_row p)

-- ---- left sides

left_test : all_below RULE_COUNT (λ p. slice_index LEFT p == (listed.rule p).left) ≡ true
unfolding listed
left_test = refl

pub left_is : (p : ℕ) → p < RULE_COUNT → slice_index LEFT p ≡ (listed.rule p).left
left_is p lt = eqb-true (slice_index LEFT p) (listed.rule p).left (each_below RULE_COUNT (λ p. slice_index LEFT p == (listed.rule p).left) p left_test (lt-ltb p RULE_COUNT lt))

pub left_beyond : (p : ℕ) → RULE_COUNT ≤ p → 0 ≡ (listed.rule p).left
unfolding listed
left_beyond p le = sym (ap (λ z. if z then number_at (groups 22 LEFT) p else 0) (le-ltb p RULE_COUNT le))

-- ---- which rule is reduced by

pub first_step : (c i : ℕ) (ps : List ℕ) (left : ℕ) (row : List ℕ) (found : Bool) → i < length ps → left ≡ (listed.rule (get_or ps i 0)).left → row ≡ row_between FOLLOW_STARTS FOLLOW left
    → found ≡ member c row → first_before listed c (drop i ps) ≡ cond found (Some (get_or ps i 0)) (first_before listed c (drop (i + 1) ps))
first_step c i ps left row found lt is rows may =
    let same : member c (listed.follow (listed.rule (get_or ps i 0)).left) ≡ found = sym (may ∙ ap (member c) (rows ∙ follow_row left ∙ ap listed.follow is)) in
    ap (first_before listed c) (dropped ps i 0 lt) ∙ ap (λ z. cond z (Some (get_or ps i 0)) (first_before listed c (drop (i + 1) ps))) same

-- ---- rules and starts

nth_is : (xs : List ℕ) (i : ℕ) → slice_index xs i ≡ nth xs i
nth_is [] zero = refl
nth_is [] (suc i) = refl
nth_is (x ∷ xs) zero = refl
nth_is (x ∷ xs) (suc i) = nth_is xs i

pub rule_known : (p : ℕ) (r : Rule) → rule_at listed p ≡ Some r → listed.rule p ≡ r
rule_known p r e = (given (nat_lt p listed.rule_count) (listed.rule p) r e).1

pub from_is : (i : ℕ) → (start i).from ≡ i
unfolding start
from_is i = refl

pub last_is : (i : ℕ) → slice_index LAST i ≡ (start i).last
unfolding start
last_is i = nth_is LAST i

pub parts_beyond : (p : ℕ) → RULE_COUNT ≤ p → row_between PATTERNS_STARTS PATTERNS p ≡ []
parts_beyond p le = none_beyond (slice_range PATTERNS (slice_index PATTERNS_STARTS p) (slice_index PATTERNS_STARTS (p + 1))) (p + 1) (length PATTERNS_STARTS) (more_beyond p RULE_COUNT le)
