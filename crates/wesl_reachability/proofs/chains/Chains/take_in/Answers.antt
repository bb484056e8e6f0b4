use Rattle.std.proofs.Common.{refl}
use Rattle.wesl_reachability.proofs.Held.{map_ok}
use Rattle.wesl_reachability.proofs.chains.Chains.take_in.Goals as goal

pub returns : goal.returns
returns c = map_ok c.take_in.result (λ r. record {
  states = (c.in_ok-states.states, c.in_ok-push.ensures.items, c.in_ok-states.ensures);
  before = (c.in_ok-before.before, c.in_ok-push-2.ensures.items, c.in_ok-before.ensures);
  links = r;
}) c.take_in.ensures
