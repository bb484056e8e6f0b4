use Rattle.std.proofs.Common.{◌∙◌, ℕ, Option}
use Rattle.std.specs.Prelude.{string_bytes}
use Rattle.core_link_spec.specs.Occurrences.{Name}
use Rattle.core_reach.specs.Closing.{held_at}
use Rattle.wesl_resolve.specs.SourceMaps.{decl_at}
use Rattle.core_link.specs.Recording.{records_in}
use Rattle.core_link.proofs.RecordLemmas.{record_step, record_end}
use Rattle.core_link.proofs.rounds.Resolutions.record_held_in.Goals as goal

pub loop-place-preserved : goal.loop-place-preserved
loop-place-preserved c =
    let m = c.args.«module».now in
    let held : ℕ → Option Name = held_at c.args.self.now.held (string_bytes m.printed_path) in
    record {
      recorded = record_step held m.path m.unit.global_declarations c.loop-place.place c.node-item.result (records_in c.args.self.now.held m) (decl_at c.args.map.now) (decl_at c.loop-place.map) (decl_at c.record_symbol.new.map)
          (rw (← c.as_slice-node-items.ensures) c.loop-place-test.true) (rw (← c.as_slice-node-items.ensures) c.node-item.is) c.in_ok-record_symbol.ensures.recorded c.loop-place.invariant.recorded;
      sources = c.record_symbol.ensures.sources ∙ c.loop-place.invariant.sources;
      default_source = c.record_symbol.ensures.default_source ∙ c.loop-place.invariant.default_source;
    }

pub returns-clause-recorded : goal.returns-clause-recorded
returns-clause-recorded c =
    let m = c.args.«module».now in
    let held : ℕ → Option Name = held_at c.args.self.now.held (string_bytes m.printed_path) in
    record_end held m.path m.unit.global_declarations c.loop-place.place (records_in c.args.self.now.held m) (decl_at c.args.map.now) (decl_at c.loop-place.map)
    (rw (← c.as_slice-node-items.ensures) c.loop-place-test.false) c.loop-place.invariant.recorded
