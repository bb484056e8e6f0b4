-- The texts of the loaded modules are recorded, and only want of memory refuses that.
use Rattle.std.proofs.Common.{◌≡◌, map, sym, ap, ◌∙◌, subst, Bor}
use Rattle.wgsl_path.specs.Paths.{path_text}
use Rattle.std.proofs.lemmas.Result.{err_from_is_err_and}
use Rattle.wgsl_path.specs.declared.path.ModulePath.{ModulePath as Path}
use Rattle.weslc_errors.specs.Mapped.{AreAllFound, HaveTexts, AddsOnly}
use Rattle.std.specs.Prelude.{string_bytes}
use Rattle.core_reach.specs.Resolved.{modules_of}
use Rattle.wesl_resolve.specs.declared.source_map.BasicSourceMap.{BasicSourceMap}
use Rattle.weslc_errors.proofs.Mapping.{text_kept, no_names, names_kept, only_added, only_kept, found_moved, refused_for_memory}
use Rattle.weslc_errors.proofs.Recorded.{told_kept}
use Rattle.weslc_errors.proofs.linking.source_map.Goals as goal

pub returns-in_err-add_sources-clause-memory : goal.returns-in_err-add_sources-clause-memory
returns-in_err-add_sources-clause-memory g c found =
    let p = err_from_is_err_and c.from_residual-in_err-add_sources.result c.from_residual-in_err-add_sources.ensures.1 in
    let paths : map (λ (p : Bor Path). p.now) c.as_slice.result.now ≡ map (λ e. e.1.path) c.args.resolutions.now.modules.entries
    = ap (map (λ (p : Bor Path). p.now)) c.as_slice.ensures.value ∙ c.in_ok-paths.ensures in
    rw (p.1, p.2) (c.in_err-add_sources.ensures.memory (subst (AreAllFound (g.R.Resolver.answers c.args.resolver.now)) (sym paths) found.1))

pub returns-in_err-resolve_source-clause-memory : goal.returns-in_err-resolve_source-clause-memory
returns-in_err-resolve_source-clause-memory g c found =
    let p = err_from_is_err_and c.from_residual-in_err-resolve_source.result c.from_residual-in_err-resolve_source.ensures.1 in
    let resolver = c.add_sources.new.resolver in
    let root = path_text c.args.root.now in
    let here = found_moved (g.R.Resolver.answers c.args.resolver.now) (g.R.Resolver.answers resolver) c.in_ok-add_sources.ensures.same_answers root found.0 in
    rw p.1
    (p.2 ∙ refused_for_memory (g.R.Resolver.answers resolver root) (g.R.Resolver.texts resolver root) c.args.root.now here.0 here.1 (g.met.R.Resolver.one_answer resolver root)
    c.in_err-resolve_source.field-0.0 c.in_err-resolve_source.ensures.text)

pub returns-clause-texts : goal.returns-clause-texts
returns-clause-texts g c p among =
    let paths : map (λ (p : Bor Path). p.now) c.as_slice.result.now ≡ map (λ e. e.1.path) c.args.resolutions.now.modules.entries
    = ap (map (λ (p : Bor Path). p.now)) c.as_slice.ensures.value ∙ c.in_ok-paths.ensures in
    let texts = subst (HaveTexts (g.R.Resolver.texts c.args.resolver.now) c.add_sources.new.recorded) paths c.in_ok-add_sources.ensures.texts in
    text_kept (g.R.Resolver.texts c.args.resolver.now) c.add_sources.new.recorded c.set_default_source.new.self c.in_ok-resolve_source.field-0 c.set_default_source.ensures p (texts p among)

pub returns-clause-decls : goal.returns-clause-decls
returns-clause-decls g c keep r =
    told_kept (modules_of c.args.resolutions.now.modules) (string_bytes c.args.resolutions.now.root) keep c.new-map.result c.add_decls.new.map c.set_default_source.new.self c.new-map.ensures.decls
    (ap (λ (m : BasicSourceMap). m.decls) c.set_default_source.ensures ∙ c.in_ok-add_sources.ensures.decls) (c.in_ok-add_decls.ensures.told keep r)

pub returns-clause-only : goal.returns-clause-only
returns-clause-only g c =
    let listed = map (λ e. e.1.path) c.args.resolutions.now.modules.entries in
    let paths : map (λ (p : Bor Path). p.now) c.as_slice.result.now ≡ map (λ e. e.1.path) c.args.resolutions.now.modules.entries
    = ap (map (λ (p : Bor Path). p.now)) c.as_slice.ensures.value ∙ c.in_ok-paths.ensures in
    let adds = subst (λ ps. AddsOnly ps c.add_decls.new.map c.add_sources.new.recorded) paths c.in_ok-add_sources.ensures.only in
    only_kept c.add_sources.new.recorded c.set_default_source.new.self listed (ap (λ (m : BasicSourceMap). m.sources) c.set_default_source.ensures)
    (only_added c.new-map.result c.add_decls.new.map c.add_sources.new.recorded listed c.new-map.ensures.sources c.in_ok-add_decls.ensures.sources adds)

pub returns-clause-names : goal.returns-clause-names
returns-clause-names g c =
    let names = g.R.Resolver.display_names c.args.resolver.now in
    names_kept names c.add_sources.new.recorded c.set_default_source.new.self (ap (λ (m : BasicSourceMap). m.sources) c.set_default_source.ensures)
    (c.in_ok-add_sources.ensures.names (names_kept names c.new-map.result c.add_decls.new.map c.in_ok-add_decls.ensures.sources (no_names names c.new-map.result c.new-map.ensures.sources)))
