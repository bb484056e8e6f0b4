use Rattle.std.specs.BTreeMap.{keys}
use Rattle.core_scopes.specs.Outcomes.{loaded}
use Rattle.core_reach.specs.Missing.{held_alone}
use Rattle.core_reach.proofs.FirstLemmas.{IsLower, IsLeft}
use Rattle.core_reach.proofs.missing.missing_among.Given as goal

abbrev pub invariant-loop-place : goal.invariant-loop-place
invariant-loop-place l = IsLeft (loaded l.modules) (held_alone l.text) IsLower l.place-iterator (keys l.places)
