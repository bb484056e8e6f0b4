use Rattle.wesl_reachability.proofs.Onward.{Follows}
use Rattle.wesl_reachability.proofs.links.Links.last.Given as goal

abbrev pub invariant-loop-link : goal.invariant-loop-link
invariant-loop-link l = Follows l.modules l.fn.self.onward.items l.fn.first l.at l.self.onward.items l._link
