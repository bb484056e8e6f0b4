use Rattle.std.proofs.Common.{◌≡◌, [], Some, false}
use Rattle.std.specs.Prelude.{string_bytes}
use Rattle.std.specs.List.{Contains}
use Rattle.std.specs.BTreeMap.{get_by_text}
use Rattle.std.specs.declared.string.String.{String}
use Rattle.std.specs.declared.alloc.Global.{Global}
use Rattle.core_reach.specs.declared.linking.AskedModule.{AskedModule}
use Rattle.core_reach.specs.Following.{Moves}
use Rattle.core_reach.specs.Stages.{asks, stage}
use Rattle.core_reach.specs.Resolved.{IsKeyed}
use Rattle.core_reach.specs.Closing.{AllReached, IsSound}
use Rattle.core_reach.specs.Underway.{NamesAll, IsConsistent}
use Rattle.core_reach.proofs.PresentLemmas.{DoneBut}
use Rattle.core_reach.proofs.AskedLemmas.{AllLead, EntrySought}
use Rattle.core_reach.proofs.closing.close_asked.Given as goal

abbrev pub invariant-loop-text : goal.invariant-loop-text
invariant-loop-text l = record {
  sound : AllLead l.linking l.asked → AllReached l.linking l.initial.held → IsSound l.linking l.held l.found.reached.items;
  in_order : IsKeyed l.linking.modules.now → NamesAll l.linking l.initial.held → IsConsistent l.linking l.held l.found.asked;
  moves : Moves (stage l.initial.held (λ s. false) false []) (stage l.held (asks l.found.asked) l.found.is_missing l.found.reached.items);
  handled : DoneBut (EntrySought l.linking (stage l.held (asks l.found.asked) l.found.is_missing l.found.reached.items)) l.text-iterator l.asked.entries;
  among : (e : String Global × AskedModule) → Contains l.text-iterator e → get_by_text l.asked (string_bytes e.0) ≡ Some e.1;
}
