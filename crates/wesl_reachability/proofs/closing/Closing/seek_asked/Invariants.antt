use Rattle.std.proofs.Common.{drop, map}
use Rattle.wesl_reachability.specs.Asking.{waits_for, waiting}
use Rattle.wesl_reachability.specs.Closing.{SeeksAll}
use Rattle.wesl_reachability.proofs.closing.Closing.seek_asked.Given as goal

abbrev pub invariant-loop-pending : goal.invariant-loop-pending
invariant-loop-pending l = SeeksAll l.modules (waiting l.asked) (map waits_for (drop l.pending-index l.asked.pending.items)) l.fn.self l.self
