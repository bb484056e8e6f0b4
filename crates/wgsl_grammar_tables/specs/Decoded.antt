-- The tables as they are listed.
use Rattle.std.specs.Prelude.{ℕ, zero, suc, nat_lt, ◌-◌, ◌/◌, ◌%◌, if◌then◌else◌, ◌==◌, List, [], ◌∷◌, take, drop, map}
use Rattle.wgsl_grammar_tables.specs.Grammars.{Symbol, token, phrase, Rule}
use Rattle.wgsl_grammar_tables.specs.Listed.{Listed}
use Rattle.wgsl_parser_table.specs.declared.table.TheConstants.{CLASS_COUNT, RULE_COUNT, STATE_COUNT, NONTERMINAL_COUNT, STEPS, STEPS_STARTS, FINALS, FINALS_STARTS, KERNEL, KERNEL_STARTS, CORNERS, CORNERS_STARTS, WAYS, WAYS_STARTS, RULES, RULES_STARTS, FOLLOW, FOLLOW_STARTS, FIRST, FIRST_STARTS, ORDER, LEFT, RIGHT, RIGHT_STARTS}

module _ {X : Type 0} where
  abbrev pub cut : ℕ → List ℕ → List X → List (List X)
  cut at [] xs = []
  cut at (e ∷ es) xs = take (e - at) xs ∷ cut e es (drop (e - at) xs)

  -- rows behind one another, which begin at these places
  abbrev pub rows : List ℕ → List X → List (List X)
  rows [] xs = []
  rows (at ∷ es) xs = cut at es xs

  abbrev pub groups : ℕ → List X → List (List X)
  groups zero xs = []
  groups (suc n) xs = take 32 xs ∷ groups n (drop 32 xs)

  abbrev pub list_at : List (List X) → ℕ → List X
  list_at [] i = []
  list_at (x ∷ xs) zero = x
  list_at (x ∷ xs) (suc i) = list_at xs i

  abbrev pub first_list : List (List X) → List X
  first_list [] = []
  first_list (x ∷ xs) = x

  abbrev pub group_at : List (List (List X)) → ℕ → List (List X)
  group_at [] i = []
  group_at (x ∷ xs) zero = x
  group_at (x ∷ xs) (suc i) = group_at xs i

  -- the row of this number in groups of rows
  abbrev pub row_at : List (List (List X)) → ℕ → List X
  row_at gs i = list_at (group_at gs (i / 32)) (i % 32)

abbrev pub nth : List ℕ → ℕ → ℕ
nth [] i = zero
nth (x ∷ xs) zero = x
nth (x ∷ xs) (suc i) = nth xs i

abbrev pub number_at : List (List ℕ) → ℕ → ℕ
number_at gs i = nth (list_at gs (i / 32)) (i % 32)

abbrev pub symbol_of : ℕ → Symbol
symbol_of code = if code % 2 == 0 then token (code / 2) else phrase (code / 2)

abbrev pub step_of : ℕ → ℕ × ℕ
step_of x = (x / 1024, x % 1024)

abbrev pub item_of : ℕ → ℕ × ℕ
item_of x = (x / 16, x % 16)

-- the same below a count, and an empty row from there on
abbrev pub row_below : {X : Type 0} → ℕ → List (List (List X)) → ℕ → List X
row_below n gs i = if nat_lt i n then row_at gs i else []

abbrev pub rule_of : List (List ℕ) → List (List (List Symbol)) → ℕ → Rule
rule_of lefts rights p = record { left = if nat_lt p RULE_COUNT then number_at lefts p else 0; right = row_below RULE_COUNT rights p }

abbrev pub listed_as : List (List ℕ) → List (List (List Symbol)) → List (List (List (ℕ × ℕ))) → List (List (List ℕ)) → List (List (List (ℕ × ℕ))) → List (List (List ℕ)) → List (List (List ℕ))
    → List (List (List ℕ)) → List (List (List ℕ)) → List (List (List ℕ)) → Listed
listed_as lefts rights steps finals kernels corners ways rules follow first = record {
  class_count = CLASS_COUNT;
  rule_count = RULE_COUNT;
  rule = rule_of lefts rights;
  state_count = STATE_COUNT;
  steps = row_below STATE_COUNT steps;
  finals = row_below STATE_COUNT finals;
  kernel = row_below STATE_COUNT kernels;
  nonterminal_count = NONTERMINAL_COUNT;
  corners = row_below NONTERMINAL_COUNT corners;
  ways = row_below NONTERMINAL_COUNT ways;
  rules_of = row_below NONTERMINAL_COUNT rules;
  follow = row_below NONTERMINAL_COUNT follow;
  first = row_below NONTERMINAL_COUNT first;
  order = ORDER;
}

-- 22 groups of 32 hold every state, and so every rule and nonterminal
abbrev pub grouped : {X : Type 0} → List ℕ → List X → List (List (List X))
grouped starts xs = groups 22 (rows starts xs)

unfoldable pub listed : Listed
listed =
    listed_as (groups 22 LEFT) (grouped RIGHT_STARTS (map symbol_of RIGHT)) (grouped STEPS_STARTS (map step_of STEPS)) (grouped FINALS_STARTS FINALS) (grouped KERNEL_STARTS (map item_of KERNEL))
    (grouped CORNERS_STARTS CORNERS) (grouped WAYS_STARTS WAYS) (grouped RULES_STARTS RULES) (grouped FOLLOW_STARTS FOLLOW) (grouped FIRST_STARTS FIRST)
