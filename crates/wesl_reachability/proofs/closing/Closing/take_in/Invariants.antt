use Rattle.wesl_reachability.specs.Taking.{HasTaken}
use Rattle.wesl_reachability.proofs.closing.Closing.take_in.Given as goal

abbrev pub invariant-loop-number : goal.invariant-loop-number
invariant-loop-number l = HasTaken l.modules.list.items 0 l.fn.self → HasTaken l.modules.list.items l.number l.self
