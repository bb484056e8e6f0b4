-- Rules that make nothing new of their one symbol.
use Rattle.std.specs.Prelude.{◌≡◌, ℕ, length, [], ◌∷◌, Some}
use Rattle.wgsl_grammar_tables.specs.Grammars.{Rule}
use Rattle.wgsl_grammar_tables.specs.Listed.{rule_at}
use Rattle.wgsl_parser_table.specs.Label.TheVariants.{Pass}
use Rattle.wgsl_grammar_tables.specs.Decoded.{listed}
use Rattle.wgsl_grammar_tables.specs.Labels.{label_at, pattern_at}

-- A rule makes a phrase of this nonterminal of its one symbol, and nothing new.
pub record IsPassedTo (p left : ℕ) : Type 0 where
  pub rule : Rule
  pub is : rule_at listed p ≡ Some rule
  pub to : rule.left ≡ left
  pub alone : length rule.right ≡ 1
  pub label : label_at p ≡ Pass
  pub pattern : pattern_at p ≡ 2 ∷ []
