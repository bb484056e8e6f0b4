-- What each rule makes, and of which of its symbols.
use Rattle.std.specs.Prelude.{ℕ, List, get_or}
use Rattle.wgsl_parser_table.specs.Label.{Label}
use Rattle.wgsl_parser_table.specs.Label.TheVariants.{Pass}
use Rattle.wgsl_parser_table.specs.declared.table.TheConstants.{LABELS, PATTERNS, PATTERNS_STARTS}
use Rattle.wgsl_grammar_tables.specs.Rows.{row_between}

abbrev pub label_at : ℕ → Label
label_at p = get_or LABELS p Pass

-- the pattern of a rule's parts: 0 for one that is absent, 1 for a symbol that is none, 2 for one that is
abbrev pub pattern_at : ℕ → List ℕ
pattern_at p = row_between PATTERNS_STARTS PATTERNS p
