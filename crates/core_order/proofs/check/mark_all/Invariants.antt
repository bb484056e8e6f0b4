use Rattle.core_order.specs.Checks.{AreUsers}
use Rattle.core_order.proofs.check.mark_all.Given as goal

abbrev pub invariant-loop-position : goal.invariant-loop-position
invariant-loop-position l = AreUsers l.rows l.proposal.order.items l.users
