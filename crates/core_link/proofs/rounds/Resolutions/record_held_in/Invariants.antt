use Rattle.std.proofs.Common.{◌≡◌, drop}
use Rattle.std.specs.Prelude.{string_bytes}
use Rattle.core_reach.specs.Closing.{held_at}
use Rattle.wesl_resolve.specs.SourceMaps.{decl_at}
use Rattle.core_link.specs.Assembling.{declaration_trees}
use Rattle.core_link.specs.Recording.{records_among, records_in}
use Rattle.core_link.proofs.RecordLemmas.{Leads}
use Rattle.core_link.proofs.rounds.Resolutions.record_held_in.Given as goal

-- what is left to record gives what all gives
abbrev pub invariant-loop-place : goal.invariant-loop-place
invariant-loop-place l = record {
  recorded : Leads (records_among (held_at l.self.held (string_bytes l.«module».printed_path)) l.«module».path l.place (declaration_trees (drop l.place l.«module».unit.global_declarations))) (decl_at l.map)
      (records_in l.self.held l.«module») (decl_at l.initial.map);
  sources : l.map.sources ≡ l.initial.map.sources;
  default_source : l.map.default_source ≡ l.initial.map.default_source;
}
