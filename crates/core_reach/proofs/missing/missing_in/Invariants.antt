use Rattle.core_scopes.specs.Outcomes.{loaded, home_of}
use Rattle.core_reach.proofs.PresentLemmas.{PresentBelow}
use Rattle.core_reach.proofs.missing.missing_in.Given as goal

abbrev pub invariant-loop-name : goal.invariant-loop-name
invariant-loop-name l = PresentBelow (loaded l.modules) (home_of l.symbol.«module».now) l.name-items l.name-index
