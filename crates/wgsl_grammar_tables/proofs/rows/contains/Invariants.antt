use Rattle.std.proofs.Common.{◌≡◌, drop}
use Rattle.wgsl_grammar_tables.specs.Listed.{member}
use Rattle.wgsl_grammar_tables.proofs.rows.contains.Given as goal

abbrev pub invariant-loop-other : goal.invariant-loop-other
invariant-loop-other l = member l.number (drop l.other-index l.numbers) ≡ member l.number l.numbers
