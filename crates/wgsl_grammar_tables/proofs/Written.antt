-- The tables' rules are those of the grammar's lines.
use Rattle.std.proofs.Common.{nat_lt, ◌≡◌, ◌∙◌, refl, sym, ap, ℕ, zero, suc, ◌≤◌, Bool, true, false, ◌==◌, ◌&&◌, if◌then◌else◌, List, [], ◌∷◌, map, length, get_or, inl, inr, Option, Some, None, arith}
use Rattle.std.proofs.lemmas.Bool.{eqb-true, and_parts, lt-ltb, le-ltb, cases_lt}
use Rattle.wgsl_grammar_tables.specs.Grammars.{Rule, Grammar}
use Rattle.wgsl_grammar_tables.specs.Fit.{IsFit}
use Rattle.wgsl_grammar_tables.specs.Listed.{rule_at, tables, account}
use Rattle.wgsl_grammar_tables.specs.Tests.{all_below}
use Rattle.wgsl_grammar_tables.proofs.Facts.{each_below}
use Rattle.wgsl_parser_table.specs.Label.TheVariants.{Pass}
use Rattle.wgsl_parser_table.specs.declared.table.TheConstants.{RULE_COUNT, LABELS, GOAL, SENTENCE}
use Rattle.wgsl_grammar_tables.specs.Decoded.{listed, nth}
use Rattle.wgsl_grammar_tables.specs.Starts.{start}
use Rattle.wgsl_grammar_tables.specs.Grammar.{begun}
use Rattle.wgsl_grammar_tables.specs.Labels.{label_at, pattern_at}
use Rattle.wgsl_grammar_tables.specs.Expansion.{plain, sentence, Made, made_rules, made_in, rule_in, parts_in, label_of}
use Rattle.wgsl_grammar_tables.proofs.Fits.{tables_fit}
use Rattle.wgsl_grammar_tables.proofs.Read.{all_same, lists_same, rows_same, same_symbol, symbol_same, parts_beyond}

-- ---- rules

abbrev same_rule : Option Rule → Option Rule → Bool
same_rule None None = true
same_rule None (Some b) = false
same_rule (Some a) None = false
same_rule (Some a) (Some b) = (a.left == b.left) && all_same same_symbol a.right b.right

rule_is : (a b : Rule) → a.left ≡ b.left → a.right ≡ b.right → a ≡ b
rule_is a b e h = ap (λ z. let q : Rule = record { left = z; right = a.right } in q) e ∙ ap (λ z. let q : Rule = record { left = b.left; right = z } in q) h

rule_same : (a b : Option Rule) → same_rule a b ≡ true → a ≡ b
rule_same None None e = refl
rule_same None (Some b) e = absurd cc
rule_same (Some a) None e = absurd cc
rule_same (Some a) (Some b) e =
    let parts = and_parts (a.left == b.left) (all_same same_symbol a.right b.right) e in
    ap (λ (z : Rule). Some z) (rule_is a b (eqb-true a.left b.left parts.0) (lists_same same_symbol symbol_same a.right b.right parts.1))

none_behind : (ms : List Made) (p : ℕ) → length ms ≤ p → rule_in ms p ≡ None
none_behind [] p le = refl
none_behind (m ∷ ms) zero le = absurd (omega arith)
none_behind (m ∷ ms) (suc p) le = none_behind ms p (omega arith)

rules_test : all_below RULE_COUNT (λ p. same_rule (rule_at listed p) (rule_in made_rules p)) ≡ true
unfolding listed made_rules
rules_test = refl

count : length made_rules ≡ RULE_COUNT
unfolding made_rules
count = refl

rules_beyond : (p : ℕ) → RULE_COUNT ≤ p → rule_at listed p ≡ None
unfolding listed
rules_beyond p le = ap (λ z. if z then Some (listed.rule p) else None) (le-ltb p RULE_COUNT le)

pub rules_are : (p : ℕ) → rule_at listed p ≡ rule_in made_rules p
rules_are p =
    elim (cases_lt p RULE_COUNT) [
      | inl lt ↦ rule_same (rule_at listed p) (rule_in made_rules p) (each_below RULE_COUNT (λ p. same_rule (rule_at listed p) (rule_in made_rules p)) p rules_test (lt-ltb p RULE_COUNT lt))
      | inr le ↦ rules_beyond p le ∙ sym (none_behind made_rules p (let e = count in omega arith))
    ]

-- ---- labels

labels_are : map label_of made_rules ≡ LABELS
unfolding made_rules
labels_are = refl

label_in : (ms : List Made) (p : ℕ) (m : Made) → made_in ms p ≡ Some m → get_or (map label_of ms) p Pass ≡ m.label
label_in [] p m e = absurd cc
label_in (x ∷ ms) zero m e = let same : x ≡ m = cc in ap label_of same
label_in (x ∷ ms) (suc p) m e = label_in ms p m e

pub label_is : (p : ℕ) (m : Made) → made_in made_rules p ≡ Some m → label_at p ≡ m.label
label_is p m e = ap (λ z. get_or z p Pass) (sym labels_are) ∙ label_in made_rules p m e

-- ---- parts

parts_test : all_below RULE_COUNT (λ p. all_same ◌==◌ (pattern_at p) (parts_in made_rules p)) ≡ true
unfolding made_rules
parts_test = refl

no_parts : (ms : List Made) (p : ℕ) → length ms ≤ p → parts_in ms p ≡ []
no_parts [] p le = refl
no_parts (m ∷ ms) zero le = absurd (omega arith)
no_parts (m ∷ ms) (suc p) le = no_parts ms p (omega arith)

pub parts_are : (p : ℕ) → pattern_at p ≡ parts_in made_rules p
parts_are = rows_same ◌==◌ eqb-true pattern_at (parts_in made_rules) RULE_COUNT parts_test (λ p le. parts_beyond p le ∙ sym (no_parts made_rules p (let e = count in omega arith)))

-- ---- starts

goals_are : GOAL ≡ map plain begun
goals_are = refl

sentences_are : SENTENCE ≡ map sentence begun
sentences_are = refl

pub goal_is : (i : ℕ) → (start i).goal ≡ nth (map plain begun) i
unfolding start
goal_is i = ap (λ l. nth l i) goals_are

pub sentence_is : (i : ℕ) → (start i).sentence ≡ nth (map sentence begun) i
unfolding start
sentence_is i = ap (λ l. nth l i) sentences_are

-- ---- a grammar that has the rules of the lines, and a token of each class

module _ {T V : Type 0} (g : Grammar T V) (rules : (p : ℕ) → g.rule p ≡ rule_in made_rules p) (classes : (c : ℕ) → nat_lt c listed.class_count ≡ true → (k : T) × (g.class_of k ≡ c)) where
  pub written_fit : (i : ℕ) → nat_lt i 7 ≡ true
      → IsFit g (tables listed (start i)) (account listed (start i)) (start i).from (start i).rule (start i).sentence (start i).goal
  written_fit i lt = tables_fit g (λ p. rules p ∙ sym (rules_are p)) classes i lt
