use Rattle.wesl_reachability.proofs.links.Links.take_in.Goals as goal

pub returns : goal.returns
returns c = record { row = c.in_ok-row.row; rows = c.in_ok-push.ensures.items; alone = c.in_ok-row.ensures }
