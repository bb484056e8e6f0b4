use Rattle.std.proofs.Common.{◌≡◌, ◌∙◌, ◌∷◌, List, subst}
use Rattle.wesl_resolve.specs.SourceMaps.{decl_at}
use Rattle.core_link.specs.Recording.{records_of}
use Rattle.core_link.proofs.RecordLemmas.{Leads, module_step}
use Rattle.core_link.proofs.SharedLemmas.{Entry}
use Rattle.core_link.proofs.rounds.Resolutions.record_held.Goals as goal

pub loop-module-preserved : goal.loop-module-preserved
loop-module-preserved c =
    let held = c.args.self.now.held in
    let all = records_of held c.args.self.now.modules.entries in
    let e : Entry = (c.in-Some.field-0-0.now, c.in-Some.«module».now) in
    let whole : c.loop-module.module-iterator ≡ e ∷ c.next.new.self = search (c.in-Some.ensures.steps) in
    record {
      recorded = module_step held e c.next.new.self all (decl_at c.args.map.now) (decl_at c.loop-module.map) (decl_at c.record_held_in.new.map) c.in_ok-record_held_in.ensures.recorded
          (subst (λ (es : List Entry). Leads (records_of held es) (decl_at c.loop-module.map) all (decl_at c.args.map.now)) whole c.loop-module.invariant.recorded);
      sources = c.record_held_in.ensures.sources ∙ c.loop-module.invariant.sources;
      default_source = c.record_held_in.ensures.default_source ∙ c.loop-module.invariant.default_source;
    }
