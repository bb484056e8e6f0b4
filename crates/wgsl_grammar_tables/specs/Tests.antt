-- The tests that show that listed tables fit their rules.
use Rattle.std.specs.Prelude.{◌≡◌, ℕ, zero, suc, Bool, true, false, not, nat_lt, ◌==◌, ◌&&◌, ◌||◌, List, [], ◌∷◌, length, Option, Some, None}
use Rattle.std.specs.List.{list_all, list_any}
use Rattle.wgsl_grammar_tables.specs.Grammars.{Symbol, token, phrase, Rule}
use Rattle.wgsl_grammar_tables.specs.declared.shift_reduce.machine.Action.{Action}
use Rattle.wgsl_grammar_tables.specs.declared.shift_reduce.machine.Action.TheVariants.{Shift, Reduce, Accept, Stop}
use Rattle.wgsl_grammar_tables.specs.Machine.{action}
use Rattle.wgsl_grammar_tables.specs.Listed.{Listed, Start, code, member, rule_at, rest_at, kernel_at, corners_at, step_at, follow_at, tables}

abbrev pub all_below : ℕ → (ℕ → Bool) → Bool
all_below zero f = true
all_below (suc n) f = f n && all_below n f

abbrev pub has_item : ℕ → ℕ → List (ℕ × ℕ) → Bool
has_item p d [] = false
has_item p d (q ∷ qs) = ((q.0 == p) && (q.1 == d)) || has_item p d qs

abbrev pub is_only_item : ℕ → ℕ → List (ℕ × ℕ) → Bool
is_only_item p d [] = false
is_only_item p d (q ∷ []) = (q.0 == p) && (q.1 == d)
is_only_item p d (q ∷ o ∷ qs) = false

abbrev pub is_only_phrase : ℕ → List Symbol → Bool
is_only_phrase n [] = false
is_only_phrase n (token c ∷ ss) = false
is_only_phrase n (phrase m ∷ []) = m == n
is_only_phrase n (phrase m ∷ x ∷ ss) = false

abbrev pub is_sentence_rule : ℕ → ℕ → Option Rule → Bool
is_sentence_rule n m None = false
is_sentence_rule n m (Some r) = (r.left == n) && is_only_phrase m r.right

abbrev pub has_some : List (ℕ × ℕ) → Bool
has_some [] = false
has_some (q ∷ qs) = true

abbrev pub begins_with : ℕ → List Symbol → Bool
begins_with a [] = false
begins_with a (x ∷ ss) = code x == a

abbrev pub begins_phrase : ℕ → List Symbol → Bool
begins_phrase m [] = false
begins_phrase m (token c ∷ ss) = false
begins_phrase m (phrase n ∷ ss) = n == m

abbrev pub is_some_symbol : List Symbol → Bool
is_some_symbol [] = false
is_some_symbol (x ∷ ss) = true

abbrev pub is_reduce : ℕ → Action → Bool
is_reduce p (Shift t) = false
is_reduce p (Reduce q) = q == p
is_reduce p Accept = false
is_reduce p Stop = false

module _ (l : Listed) where
  -- ---- steps

  -- a step leads to a state in which the rule has read one symbol more
  abbrev pub leads : Option ℕ → ℕ → ℕ → Bool
  leads None p d = false
  leads (Some t) p d = has_item p (suc d) (kernel_at l t)

  abbrev pub first_steps : ℕ → ℕ → List Symbol → Bool
  first_steps s p [] = true
  first_steps s p (x ∷ ss) = leads (step_at l s x) p zero

  abbrev pub rule_steps : ℕ → ℕ → Bool
  rule_steps s p = first_steps s p (rest_at l p zero)

  abbrev pub corner_steps : ℕ → ℕ → Bool
  corner_steps s m = list_all (rule_steps s) (l.rules_of m)

  abbrev pub opened_steps : ℕ → Symbol → Bool
  opened_steps s (token c) = true
  opened_steps s (phrase n) = list_all (corner_steps s) (corners_at l n)

  abbrev pub rest_steps : ℕ → ℕ → ℕ → List Symbol → Bool
  rest_steps s p d [] = true
  rest_steps s p d (x ∷ ss) = leads (step_at l s x) p d && opened_steps s x

  abbrev pub item_steps : ℕ → ℕ × ℕ → Bool
  item_steps s q = rest_steps s q.0 q.1 (rest_at l q.0 q.1)

  abbrev pub steps_of : ℕ → Bool
  steps_of s = list_all (item_steps s) (kernel_at l s)

  abbrev pub test_steps : Bool
  test_steps = all_below l.state_count steps_of

  abbrev pub is_of_left : ℕ → Bool
  is_of_left p = member p (l.rules_of (l.rule p).left)

  abbrev pub test_rules_of : Bool
  test_rules_of = all_below l.rule_count is_of_left

  -- ---- where a state comes from

  abbrev pub rest_opens : ℕ → List Symbol → Bool
  rest_opens m [] = false
  rest_opens m (token c ∷ ss) = false
  rest_opens m (phrase n ∷ ss) = member m (corners_at l n)

  abbrev pub item_opens : ℕ → ℕ × ℕ → Bool
  item_opens m q = rest_opens m (rest_at l q.0 q.1)

  abbrev pub is_held : ℕ → ℕ → ℕ → Bool
  is_held s p zero = has_item p zero (kernel_at l s) || list_any (item_opens (l.rule p).left) (kernel_at l s)
  is_held s p (suc d) = has_item p (suc d) (kernel_at l s)

  abbrev pub came_by : ℕ → ℕ → ℕ → ℕ → Bool
  came_by s a p zero = false
  came_by s a p (suc d) = begins_with a (rest_at l p d) && is_held s p d

  abbrev pub item_came : ℕ → ℕ → ℕ × ℕ → Bool
  item_came s a q = came_by s a q.0 q.1

  abbrev pub step_came : ℕ → ℕ × ℕ → Bool
  step_came s e = list_all (item_came s e.0) (kernel_at l e.1)

  abbrev pub came_to : ℕ → Bool
  came_to s = list_all (step_came s) (l.steps s)

  abbrev pub test_came : Bool
  test_came = all_below l.state_count came_to

  abbrev pub step_to_some : ℕ → ℕ × ℕ → Bool
  step_to_some s e = has_some (kernel_at l e.1)

  abbrev pub steps_to_some : ℕ → Bool
  steps_to_some s = list_all (step_to_some s) (l.steps s)

  abbrev pub test_some_item : Bool
  test_some_item = all_below l.state_count steps_to_some

  -- ---- rules in states

  abbrev pub item_known : ℕ → ℕ × ℕ → Bool
  item_known s q = nat_lt q.0 l.rule_count

  abbrev pub items_known : ℕ → Bool
  items_known s = list_all (item_known s) (kernel_at l s)

  abbrev pub test_known : Bool
  test_known = all_below l.state_count items_known

  abbrev pub is_ended : ℕ → ℕ → Bool
  is_ended s p = nat_lt p l.rule_count && has_item p (length (l.rule p).right) (kernel_at l s)

  abbrev pub all_ended : ℕ → Bool
  all_ended s = list_all (is_ended s) (l.finals s)

  abbrev pub test_reduces : Bool
  test_reduces = all_below l.state_count all_ended

  -- ---- corners

  abbrev pub is_own_corner : Symbol → Bool
  is_own_corner (token c) = true
  is_own_corner (phrase n) = member n (corners_at l n)

  abbrev pub all_own_corners : ℕ → Bool
  all_own_corners p = list_all is_own_corner (l.rule p).right

  abbrev pub test_itself : Bool
  test_itself = all_below l.rule_count all_own_corners

  abbrev pub first_corner : ℕ → List Symbol → Bool
  first_corner n [] = true
  first_corner n (token c ∷ ss) = true
  first_corner n (phrase k ∷ ss) = member k (corners_at l n)

  abbrev pub rule_corner : ℕ → ℕ → Bool
  rule_corner n p = first_corner n (l.rule p).right

  abbrev pub deeper_corner : ℕ → ℕ → Bool
  deeper_corner n m = list_all (rule_corner n) (l.rules_of m)

  abbrev pub deeper_corners : ℕ → Bool
  deeper_corners n = list_all (deeper_corner n) (corners_at l n)

  abbrev pub test_deeper : Bool
  test_deeper = all_below l.nonterminal_count deeper_corners

  -- each of these is what a rule begins with of an earlier one
  abbrev pub is_chain : List ℕ → List ℕ → List ℕ → Bool
  is_chain earlier [] ps = true
  is_chain earlier (m ∷ ms) [] = false
  is_chain earlier (m ∷ ms) (p ∷ ps) = nat_lt p l.rule_count && (begins_phrase m (l.rule p).right && (member (l.rule p).left earlier && is_chain (m ∷ earlier) ms ps))

  abbrev pub is_chain_from : ℕ → List ℕ → List ℕ → Bool
  is_chain_from n [] ps = true
  is_chain_from n (m ∷ ms) ps = (m == n) && is_chain (m ∷ []) ms ps

  abbrev pub corners_reach : ℕ → Bool
  corners_reach n = is_chain_from n (corners_at l n) (l.ways n)

  abbrev pub test_reaches : Bool
  test_reaches = all_below l.nonterminal_count corners_reach

  -- ---- phrases that there are

  abbrev pub has_phrase : List ℕ → Symbol → Bool
  has_phrase earlier (token c) = nat_lt c l.class_count
  has_phrase earlier (phrase n) = member n earlier

  abbrev pub is_order : List ℕ → List ℕ → Bool
  is_order earlier [] = true
  is_order earlier (p ∷ ps) = nat_lt p l.rule_count && (list_all (has_phrase earlier) (l.rule p).right && is_order ((l.rule p).left ∷ earlier) ps)

  abbrev pub test_order : Bool
  test_order = is_order [] l.order

  abbrev pub all_lefts : List ℕ → List ℕ → List ℕ
  all_lefts earlier [] = earlier
  all_lefts earlier (p ∷ ps) = all_lefts ((l.rule p).left ∷ earlier) ps

  abbrev pub rule_has_phrases : List ℕ → ℕ → Bool
  rule_has_phrases lefts p = list_all (has_phrase lefts) (l.rule p).right

  abbrev pub test_inhabited : Bool
  test_inhabited = all_below l.rule_count (rule_has_phrases (all_lefts [] l.order))

  abbrev pub rule_nonempty : ℕ → Bool
  rule_nonempty p = is_some_symbol (l.rule p).right

  abbrev pub test_nonempty : Bool
  test_nonempty = all_below l.rule_count rule_nonempty

  -- ---- what phrases begin with

  abbrev pub first_within : ℕ → Symbol → Bool
  first_within n (token c) = member c (l.first n)
  first_within n (phrase m) = list_all (λ c. member c (l.first n)) (l.first m)

  abbrev pub firsts_within : ℕ → List Symbol → Bool
  firsts_within n [] = true
  firsts_within n (x ∷ ss) = first_within n x

  abbrev pub rule_first : ℕ → Bool
  rule_first p = firsts_within (l.rule p).left (l.rule p).right

  abbrev pub test_first : Bool
  test_first = all_below l.rule_count rule_first

  -- ---- what depends on the start

  module _ (b : Start) where
    abbrev pub test_begins : Bool
    test_begins = is_only_item b.rule zero (kernel_at l b.from)

    abbrev pub test_starts : Bool
    test_starts = is_sentence_rule b.sentence b.goal (rule_at l b.rule)

    abbrev pub reduces_before : ℕ → ℕ → ℕ → Bool
    reduces_before s p c = is_reduce p (action (tables l b) s c)

    abbrev pub rest_ends : ℕ → ℕ → List Symbol → Bool
    rest_ends s p [] = (p == b.rule) || list_all (reduces_before s p) (follow_at l b (l.rule p).left)
    rest_ends s p (x ∷ ss) = true

    abbrev pub item_ends : ℕ → ℕ × ℕ → Bool
    item_ends s q = rest_ends s q.0 (rest_at l q.0 q.1)

    abbrev pub items_end : ℕ → Bool
    items_end s = list_all (item_ends s) (kernel_at l s)

    abbrev pub test_ends : Bool
    test_ends = all_below l.state_count items_end

    abbrev pub rest_last : ℕ → ℕ → List Symbol → Bool
    rest_last s p [] = not (p == b.rule) || (s == b.last)
    rest_last s p (x ∷ ss) = true

    abbrev pub item_last : ℕ → ℕ × ℕ → Bool
    item_last s q = rest_last s q.0 (rest_at l q.0 q.1)

    abbrev pub items_last : ℕ → Bool
    items_last s = list_all (item_last s) (kernel_at l s)

    abbrev pub test_ends_all : Bool
    test_ends_all = all_below l.state_count items_last

    abbrev pub test_accepts : Bool
    test_accepts = has_item b.rule (suc zero) (kernel_at l b.last)

    abbrev pub is_no_start : ℕ → Bool
    is_no_start p = not ((l.rule p).left == b.sentence) || (p == b.rule)

    abbrev pub test_no_start : Bool
    test_no_start = all_below l.rule_count is_no_start

    abbrev pub is_no_sentence : ℕ → Bool
    is_no_sentence m = not (m == b.sentence)

    abbrev pub corners_no_sentence : ℕ → Bool
    corners_no_sentence n = list_all is_no_sentence (corners_at l n)

    abbrev pub test_no_sentence : Bool
    test_no_sentence = all_below l.nonterminal_count corners_no_sentence

    abbrev pub is_behind : ℕ → Symbol → List Symbol → Bool
    is_behind m (token c) ss = true
    is_behind m (phrase n) [] = list_all (λ c. member c (follow_at l b n)) (follow_at l b m)
    is_behind m (phrase n) (token c ∷ ss) = member (suc c) (follow_at l b n)
    is_behind m (phrase n) (phrase k ∷ ss) = list_all (λ c. member (suc c) (follow_at l b n)) (l.first k)

    abbrev pub all_behind : ℕ → List Symbol → Bool
    all_behind m [] = true
    all_behind m (x ∷ ss) = is_behind m x ss && all_behind m ss

    abbrev pub rule_behind : ℕ → Bool
    rule_behind p = all_behind (l.rule p).left (l.rule p).right

    abbrev pub test_follow : Bool
    test_follow = all_below l.rule_count rule_behind

-- All tests pass.
pub record Passes (l : Listed) (b : Start) : Type 0 where
  pub begins : test_begins l b ≡ true
  pub starts : test_starts l b ≡ true
  pub steps : test_steps l ≡ true
  pub rules_of : test_rules_of l ≡ true
  pub came : test_came l ≡ true
  pub some_item : test_some_item l ≡ true
  pub known : test_known l ≡ true
  pub ends : test_ends l b ≡ true
  pub ends_all : test_ends_all l b ≡ true
  pub reduces : test_reduces l ≡ true
  pub accepts : test_accepts l b ≡ true
  pub no_start : test_no_start l b ≡ true
  pub itself : test_itself l ≡ true
  pub deeper : test_deeper l ≡ true
  pub reaches : test_reaches l ≡ true
  pub no_sentence : test_no_sentence l b ≡ true
  pub order : test_order l ≡ true
  pub inhabited : test_inhabited l ≡ true
  pub nonempty : test_nonempty l ≡ true
  pub first : test_first l ≡ true
  pub follow : test_follow l b ≡ true
