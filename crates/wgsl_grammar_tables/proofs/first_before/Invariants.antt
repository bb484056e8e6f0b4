use Rattle.std.proofs.Common.{◌≡◌, drop}
use Rattle.wgsl_grammar_tables.specs.Listed.{first_before}
use Rattle.wgsl_grammar_tables.specs.Decoded.{listed}
use Rattle.wgsl_grammar_tables.proofs.first_before.Given as goal

abbrev pub invariant-loop-rule : goal.invariant-loop-rule
invariant-loop-rule l = first_before listed l.ahead (drop l.rule-index l.rules) ≡ first_before listed l.ahead l.rules
