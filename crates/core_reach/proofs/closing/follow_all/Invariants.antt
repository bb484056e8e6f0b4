use Rattle.core_scopes.specs.Outcomes.{loaded}
use Rattle.core_reach.specs.Closing.{IsSound}
use Rattle.core_reach.specs.Following.{Moves, FollowedTo}
use Rattle.core_reach.specs.Stages.{asks, stage}
use Rattle.core_reach.specs.Resolved.{IsKeyed}
use Rattle.core_reach.specs.Underway.{IsConsistent}
use Rattle.core_reach.proofs.closing.follow_all.Given as goal

abbrev pub invariant-loop-at : goal.invariant-loop-at
invariant-loop-at l = record {
  in_order : IsKeyed l.linking.modules.now → IsSound l.linking l.initial.held l.initial.found.reached.items → IsConsistent l.linking l.initial.held l.initial.found.asked → IsConsistent l.linking l.held l.found.asked;
  sound : IsSound l.linking l.initial.held l.initial.found.reached.items → IsSound l.linking l.held l.found.reached.items;
  moves : Moves (stage l.initial.held (asks l.initial.found.asked) l.initial.found.is_missing l.initial.found.reached.items) (stage l.held (asks l.found.asked) l.found.is_missing l.found.reached.items);
  followed : FollowedTo (loaded l.linking.modules.now) (stage l.initial.held (asks l.initial.found.asked) l.initial.found.is_missing l.initial.found.reached.items) 0
      → FollowedTo (loaded l.linking.modules.now) (stage l.held (asks l.found.asked) l.found.is_missing l.found.reached.items) l.at;
}
