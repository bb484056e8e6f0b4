-- The starts of the tables: a module (0), an expression, a statement, a declaration, a directive, an import and a kind of declaration (6).
use Rattle.std.specs.Prelude.{ℕ}
use Rattle.wgsl_grammar_tables.specs.Listed.{Start}
use Rattle.wgsl_parser_table.specs.declared.table.TheConstants.{LAST, START_RULE, GOAL, SENTENCE}
use Rattle.wgsl_grammar_tables.specs.Decoded.{nth}

unfoldable pub start : ℕ → Start
start i = record { from = i; last = nth LAST i; rule = nth START_RULE i; sentence = nth SENTENCE i; goal = nth GOAL i }
