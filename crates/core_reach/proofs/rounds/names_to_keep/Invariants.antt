use Rattle.std.proofs.Common.{◌≡◌, take}
use Rattle.core_reach.proofs.rounds.names_to_keep.Given as goal

abbrev pub invariant-loop-name : goal.invariant-loop-name
invariant-loop-name l = l.names ≡ take l.name-index l.keep
