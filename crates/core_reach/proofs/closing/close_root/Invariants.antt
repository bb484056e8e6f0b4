use Rattle.std.proofs.Common.{◌≡◌, []}
use Rattle.core_scopes.specs.Outcomes.{loaded}
use Rattle.core_reach.specs.Closing.{IsSound}
use Rattle.core_reach.proofs.StageLemmas.{KeptBelow}
use Rattle.core_reach.specs.Following.{Moves}
use Rattle.core_reach.specs.Stages.{asks, stage}
use Rattle.core_reach.specs.Resolved.{IsKeyed}
use Rattle.core_reach.specs.Underway.{NamesAll}
use Rattle.core_reach.proofs.closing.close_root.Given as goal

abbrev pub invariant-loop-name : goal.invariant-loop-name
invariant-loop-name l = record {
  sound : IsSound l.linking l.held l.found.reached.items;
  moves : Moves (stage l.initial.held (asks l.found.asked) l.found.is_missing []) (stage l.held (asks l.found.asked) l.found.is_missing l.found.reached.items);
  named : IsKeyed l.linking.modules.now → NamesAll l.linking l.initial.held → NamesAll l.linking l.held;
  asked : l.found.asked.entries ≡ [];
  kept : KeptBelow (loaded l.linking.modules.now) l.linking.root.now l.linking.keep.now l.held l.name-index;
}
