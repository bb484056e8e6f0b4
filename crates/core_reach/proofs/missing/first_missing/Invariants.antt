use Rattle.core_scopes.specs.Outcomes.{loaded}
use Rattle.core_reach.proofs.FirstLemmas.{held_under, IsAhead, IsLeft}
use Rattle.core_reach.proofs.missing.first_missing.Given as goal

abbrev pub invariant-loop-text : goal.invariant-loop-text
invariant-loop-text l = IsLeft (loaded l.modules) held_under IsAhead l.text-iterator l.held.entries
