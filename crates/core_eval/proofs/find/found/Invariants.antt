use Rattle.std.proofs.Common.{◌≡◌, length}
use Rattle.core_meaning.specs.Names as spec
use Rattle.core_eval.proofs.find.found.Given as goal

abbrev pub invariant-loop-rest : goal.invariant-loop-rest
invariant-loop-rest g l = spec.find l.name l.rest ≡ spec.find l.name l.entries

abbrev pub decreases-loop-rest : goal.decreases-loop-rest
decreases-loop-rest g l = length l.rest
