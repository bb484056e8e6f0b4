-- Once the modules are loaded and free of clashes, only want of memory refuses the map.
use Rattle.std.proofs.Common.{◌≡◌, sym, subst}
use Rattle.std.proofs.lemmas.Result.{err_from_is_err_and}
use Rattle.wgsl_path.specs.Paths.{path_text}
use Rattle.weslc_errors.specs.declared.error.CompileError.TheVariants.{OutOfMemory}
use Rattle.weslc_errors.proofs.Loading.{paths_found, texts_mapped}
use Rattle.weslc_errors.proofs.Mapping.{found_moved, text_moved, default_moved}
use Rattle.weslc_errors.specs.Mapped.{HasNames}
use Rattle.weslc_errors.specs.Asked.{AreAsked, AreAskedAsLoaded}
use Rattle.core_reach.specs.Alone.{only, AsksInside}
use Rattle.weslc_errors.proofs.linking.load_and_map.Goals as goal

pub returns-in_err-map-clause-refusal : goal.returns-in_err-map-clause-refusal
returns-in_err-map-clause-refusal g c =
    let p = err_from_is_err_and c.from_residual-in_err-map.result c.from_residual-in_err-map.ensures.1 in
    let found = g.R.Resolver.answers c.args.resolver.now in
    let after = g.R.Resolver.answers c.loaded.new.resolver in
    let same = c.in_ok-resolutions.ensures.same_answers in
    let all = paths_found found (path_text c.args.root.now) c.args.options.now.keep c.args.options.now.max_modules c.in_ok-resolutions.resolutions c.in_ok-resolutions.ensures.tables in
    let memory : c.in_err-map.field-0.0 ≡ OutOfMemory = c.in_err-map.ensures.memory (found_moved found after same (path_text c.args.root.now) all.0, λ p among. found_moved found after same (path_text p) (all.1 p among)) in
    rw (p.1, p.2, memory) tt

pub returns-clause-map : goal.returns-clause-map
returns-clause-map g c =
    let texts = g.R.Resolver.texts c.args.resolver.now in
    let after = g.R.Resolver.texts c.loaded.new.resolver in
    let same = c.in_ok-resolutions.ensures.same_texts in
    texts_mapped (g.R.Resolver.answers c.args.resolver.now) (path_text c.args.root.now) c.args.options.now.keep c.args.options.now.max_modules texts c.in_ok-map.map c.in_ok-resolutions.resolutions c.in_ok-resolutions.ensures.tables
    (λ p among. text_moved texts after same c.in_ok-map.map p (c.in_ok-map.ensures.texts p among))
    c.in_ok-map.ensures.only
    (default_moved texts after same (path_text c.args.root.now) c.in_ok-map.map c.in_ok-map.ensures.default_source)
    c.in_ok-map.ensures.decls

pub returns-clause-names : goal.returns-clause-names
returns-clause-names g c = subst (λ names. HasNames names c.in_ok-map.map) c.in_ok-resolutions.ensures.same_names c.in_ok-map.ensures.names

pub returns-in_err-map-clause-asked : goal.returns-in_err-map-clause-asked
returns-in_err-map-clause-asked g c =
    subst (AreAsked (g.R.Resolver.answers c.args.resolver.now) (path_text c.args.root.now) c.args.options.now.keep c.args.options.now.max_modules (g.R.Resolver.asked c.args.resolver.now))
    (sym c.in_err-map.ensures.same_asked) c.in_ok-resolutions.ensures.asked

pub returns-clause-asked : goal.returns-clause-asked
returns-clause-asked g c =
    subst (AreAsked (g.R.Resolver.answers c.args.resolver.now) (path_text c.args.root.now) c.args.options.now.keep c.args.options.now.max_modules (g.R.Resolver.asked c.args.resolver.now))
    (sym c.in_ok-map.ensures.same_asked) c.in_ok-resolutions.ensures.asked

pub returns-clause-all_asked : goal.returns-clause-all_asked
returns-clause-all_asked g c =
    subst (AreAskedAsLoaded (g.R.Resolver.answers c.args.resolver.now) (path_text c.args.root.now) c.args.options.now.keep c.args.options.now.max_modules (g.R.Resolver.asked c.args.resolver.now))
    (sym c.in_ok-map.ensures.same_asked) c.in_ok-resolutions.ensures.all_asked

pub returns-in_err-map-clause-alone_refusal : goal.returns-in_err-map-clause-alone_refusal
returns-in_err-map-clause-alone_refusal g c = λ inside within.
    let p = err_from_is_err_and c.from_residual-in_err-map.result c.from_residual-in_err-map.ensures.1 in
    let found = g.R.Resolver.answers c.args.resolver.now in
    let after = g.R.Resolver.answers c.loaded.new.resolver in
    let same = c.in_ok-resolutions.ensures.same_answers in
    let all = paths_found found (path_text c.args.root.now) c.args.options.now.keep c.args.options.now.max_modules c.in_ok-resolutions.resolutions c.in_ok-resolutions.ensures.tables in
    let memory : c.in_err-map.field-0.0 ≡ OutOfMemory = c.in_err-map.ensures.memory (found_moved found after same (path_text c.args.root.now) all.0, λ p among. found_moved found after same (path_text p) (all.1 p among)) in
    rw (p.1, p.2, memory) tt

pub returns-clause-alone_tables : goal.returns-clause-alone_tables
returns-clause-alone_tables g c = λ inside within.
    c.in_ok-resolutions.ensures.alone_tables inside (subst (AsksInside inside (g.R.Resolver.asked c.args.resolver.now)) c.in_ok-map.ensures.same_asked within)

pub returns-clause-alone_map : goal.returns-clause-alone_map
returns-clause-alone_map g c = λ inside within.
    let texts = g.R.Resolver.texts c.args.resolver.now in
    let after = g.R.Resolver.texts c.loaded.new.resolver in
    let same = c.in_ok-resolutions.ensures.same_texts in
    let tables = c.in_ok-resolutions.ensures.alone_tables inside (subst (AsksInside inside (g.R.Resolver.asked c.args.resolver.now)) c.in_ok-map.ensures.same_asked within) in
    texts_mapped (only inside (g.R.Resolver.answers c.args.resolver.now)) (path_text c.args.root.now) c.args.options.now.keep c.args.options.now.max_modules texts c.in_ok-map.map c.in_ok-resolutions.resolutions tables
    (λ p among. text_moved texts after same c.in_ok-map.map p (c.in_ok-map.ensures.texts p among))
    c.in_ok-map.ensures.only
    (default_moved texts after same (path_text c.args.root.now) c.in_ok-map.map c.in_ok-map.ensures.default_source)
    c.in_ok-map.ensures.decls
