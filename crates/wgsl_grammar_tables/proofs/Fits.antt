-- The tables fit each grammar that has their rules, from each start.
use Rattle.std.proofs.Common.{◌≡◌, refl, ℕ, true, nat_lt}
use Rattle.wgsl_grammar_tables.specs.Grammars.{Grammar}
use Rattle.wgsl_grammar_tables.specs.Fit.{IsFit}
use Rattle.wgsl_grammar_tables.specs.Listed.{rule_at, tables, account}
use Rattle.wgsl_grammar_tables.specs.Tests.{all_below, Passes, test_begins, test_starts, test_ends, test_ends_all, test_accepts, test_no_start, test_no_sentence, test_follow}
use Rattle.wgsl_grammar_tables.proofs.Facts.{each_below}
use Rattle.wgsl_grammar_tables.proofs.Fitting.{fits}
use Rattle.wgsl_grammar_tables.specs.Decoded.{listed}
use Rattle.wgsl_grammar_tables.specs.Starts.{start}
use Rattle.wgsl_grammar_tables.proofs.Passing as passing

begin_each : all_below 7 (λ i. test_begins listed (start i)) ≡ true
unfolding listed start
begin_each = refl

start_each : all_below 7 (λ i. test_starts listed (start i)) ≡ true
unfolding listed start
start_each = refl

end_each : all_below 7 (λ i. test_ends listed (start i)) ≡ true
unfolding listed start
end_each = refl

end_last : all_below 7 (λ i. test_ends_all listed (start i)) ≡ true
unfolding listed start
end_last = refl

accept_each : all_below 7 (λ i. test_accepts listed (start i)) ≡ true
unfolding listed start
accept_each = refl

no_start : all_below 7 (λ i. test_no_start listed (start i)) ≡ true
unfolding listed start
no_start = refl

no_sentence : all_below 7 (λ i. test_no_sentence listed (start i)) ≡ true
unfolding listed start
no_sentence = refl

follow_each : all_below 7 (λ i. test_follow listed (start i)) ≡ true
unfolding listed start
follow_each = refl

pub passes : (i : ℕ) → nat_lt i 7 ≡ true → Passes listed (start i)
passes i lt = record {
  begins = each_below 7 (λ i. test_begins listed (start i)) i begin_each lt;
  starts = each_below 7 (λ i. test_starts listed (start i)) i start_each lt;
  steps = passing.steps;
  rules_of = passing.rules_of;
  came = passing.came;
  some_item = passing.some_item;
  known = passing.known;
  ends = each_below 7 (λ i. test_ends listed (start i)) i end_each lt;
  ends_all = each_below 7 (λ i. test_ends_all listed (start i)) i end_last lt;
  reduces = passing.reduces;
  accepts = each_below 7 (λ i. test_accepts listed (start i)) i accept_each lt;
  no_start = each_below 7 (λ i. test_no_start listed (start i)) i no_start lt;
  itself = passing.itself;
  deeper = passing.deeper;
  reaches = passing.reaches;
  no_sentence = each_below 7 (λ i. test_no_sentence listed (start i)) i no_sentence lt;
  order = passing.order;
  inhabited = passing.inhabited;
  nonempty = passing.nonempty;
  first = passing.first;
  follow = each_below 7 (λ i. test_follow listed (start i)) i follow_each lt;
}

-- for a grammar that has these rules and a token of each class
module _ {T V : Type 0} (g : Grammar T V) (rules : (p : ℕ) → g.rule p ≡ rule_at listed p) (classes : (c : ℕ) → nat_lt c listed.class_count ≡ true → (k : T) × (g.class_of k ≡ c)) where
  pub tables_fit : (i : ℕ) → nat_lt i 7 ≡ true
      → IsFit g (tables listed (start i)) (account listed (start i)) (start i).from (start i).rule (start i).sentence (start i).goal
  tables_fit i lt = fits g listed (start i) (passes i lt) rules classes
