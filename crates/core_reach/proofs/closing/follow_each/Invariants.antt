use Rattle.core_scopes.specs.Outcomes.{loaded, home_of}
use Rattle.core_reach.specs.Closing.{IsReached, IsSound}
use Rattle.core_reach.specs.Following.{Moves}
use Rattle.core_reach.specs.Stages.{asks, stage}
use Rattle.core_reach.specs.Resolved.{IsKeyed}
use Rattle.core_reach.specs.Underway.{IsConsistent}
use Rattle.core_reach.proofs.StageLemmas.{HandledBelow}
use Rattle.core_reach.proofs.closing.follow_each.Given as goal

abbrev pub invariant-loop-name : goal.invariant-loop-name
invariant-loop-name l = record {
  in_order : IsKeyed l.linking.modules.now → IsReached l.linking l.symbol → IsConsistent l.linking l.initial.held l.initial.found.asked → IsConsistent l.linking l.held l.found.asked;
  sound : IsReached l.linking l.symbol → IsSound l.linking l.initial.held l.initial.found.reached.items → IsSound l.linking l.held l.found.reached.items;
  moves : Moves (stage l.initial.held (asks l.initial.found.asked) l.initial.found.is_missing l.initial.found.reached.items) (stage l.held (asks l.found.asked) l.found.is_missing l.found.reached.items);
  handled : HandledBelow (loaded l.linking.modules.now) (stage l.held (asks l.found.asked) l.found.is_missing l.found.reached.items) (home_of l.home) l.name-items l.name-index;
}
