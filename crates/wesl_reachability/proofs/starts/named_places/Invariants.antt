use Rattle.std.proofs.Common.{take}
use Rattle.wesl_reachability.specs.Starts.{AreAll, IsNamed}
use Rattle.wesl_reachability.proofs.starts.named_places.Given as goal

abbrev pub invariant-loop-name : goal.invariant-loop-name
invariant-loop-name l = AreAll l.spots.items (IsNamed l.root (take l.name-index l.keep))
