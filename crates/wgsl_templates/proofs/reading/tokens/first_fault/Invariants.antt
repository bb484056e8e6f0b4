use Rattle.wgsl_templates.proofs.Faults.{IsSearched}
use Rattle.wgsl_templates.proofs.reading.tokens.first_fault.Given as goal

abbrev pub invariant-loop-at : goal.invariant-loop-at
invariant-loop-at l = IsSearched l.tokens l.at
