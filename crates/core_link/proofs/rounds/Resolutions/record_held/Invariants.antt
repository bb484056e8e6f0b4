use Rattle.std.proofs.Common.{◌≡◌}
use Rattle.wesl_resolve.specs.SourceMaps.{decl_at}
use Rattle.core_link.specs.Recording.{records_of}
use Rattle.core_link.proofs.RecordLemmas.{Leads}
use Rattle.core_link.proofs.rounds.Resolutions.record_held.Given as goal

-- what is left to record gives what all gives
abbrev pub invariant-loop-module : goal.invariant-loop-module
invariant-loop-module l = record {
  recorded : Leads (records_of l.self.held l.module-iterator) (decl_at l.map) (records_of l.self.held l.self.modules.entries) (decl_at l.initial.map);
  sources : l.map.sources ≡ l.initial.map.sources;
  default_source : l.map.default_source ≡ l.initial.map.default_source;
}
