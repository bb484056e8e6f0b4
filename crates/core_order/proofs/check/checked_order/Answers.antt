use Rattle.std.proofs.Common.{rules}
use Rattle.core_order.proofs.Checking.{checked_order}
use Rattle.core_order.proofs.check.checked_order.Goals as goal

pub returns : goal.returns
returns c =
    checked_order c.args.rows.now c.in_ok-proposal.proposal.order.items c.in_ok-proposal.proposal.ranks.items (c.in_ok-is_checked.ensures (search rules))
