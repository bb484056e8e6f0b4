-- The rules that there are.
use Rattle.std.proofs.Common.{◌≡◌, ℕ, ◌<◌, nat_lt, Some}
use Rattle.std.proofs.lemmas.Bool.{lt-ltb}
use Rattle.wgsl_grammar_tables.specs.Listed.{rule_at}
use Rattle.wgsl_grammar_tables.proofs.Facts.{giving}
use Rattle.wgsl_parser_table.specs.declared.table.TheConstants.{RULE_COUNT}
use Rattle.wgsl_grammar_tables.specs.Decoded.{listed}

pub rule_given : (p : ℕ) → p < RULE_COUNT → rule_at listed p ≡ Some (listed.rule p)
unfolding listed
rule_given p lt = giving (nat_lt p RULE_COUNT) (listed.rule p) (lt-ltb p RULE_COUNT lt)
