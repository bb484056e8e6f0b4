use Rattle.wesl_reachability.proofs.Held.{map_ok}
use Rattle.wesl_reachability.proofs.holding.Holding.arrive.Goals as goal

pub returns : goal.returns
returns c = map_ok c.reach.result (λ r. record { mid = c.pass.new.self; passes = c.in_ok-pass.ensures; reaches = r }) c.reach.ensures
