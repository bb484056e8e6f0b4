use Rattle.std.specs.Prelude.{string_bytes}
use Rattle.core_reach.specs.Following.{Moves}
use Rattle.core_reach.specs.Stages.{asks, stage}
use Rattle.core_reach.specs.Resolved.{IsKeyed}
use Rattle.core_reach.specs.Closing.{IsSound}
use Rattle.core_reach.specs.Underway.{IsConsistent, LeadsOn, IsSought, EachName}
use Rattle.core_reach.proofs.PresentLemmas.{DoneBut}
use Rattle.core_reach.proofs.SeekLemmas.{AreAmong}
use Rattle.core_reach.proofs.closing.seek_all.Given as goal

abbrev pub invariant-loop-name : goal.invariant-loop-name
invariant-loop-name l = record {
  sound : EachName (LeadsOn l.linking l.text) l.names → IsSound l.linking l.initial.held l.initial.found.reached.items → IsSound l.linking l.held l.found.reached.items;
  in_order : IsKeyed l.linking.modules.now → IsConsistent l.linking l.initial.held l.initial.found.asked → IsConsistent l.linking l.held l.found.asked;
  moves : Moves (stage l.initial.held (asks l.initial.found.asked) l.initial.found.is_missing l.initial.found.reached.items) (stage l.held (asks l.found.asked) l.found.is_missing l.found.reached.items);
  handled : DoneBut (λ k. IsSought l.linking (stage l.held (asks l.found.asked) l.found.is_missing l.found.reached.items) l.text (string_bytes k)) l.name-iterator l.names.keys;
  among : AreAmong l.name-iterator l.names.keys;
}
