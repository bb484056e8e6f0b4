use Rattle.std.proofs.Common.{◌≡◌, List, ◌<◌, refl, sym, subst, ap, ◌∙◌, Err, arith}
use Rattle.std.specs.Prelude.{OnOk, string_bytes}
use Rattle.std.proofs.lemmas.Result.{err_from_is_err_and}
use Rattle.wgsl_path.specs.Paths.{path_text}
use Rattle.core_syntax.specs.View.{unit_tree}
use Rattle.core_link_spec.specs.Occurrences.{Name}
use Rattle.core_link_spec.specs.Modules.{Path}
use Rattle.core_link_spec.specs.Kept.{kept_names}
use Rattle.core_reach.specs.Missing.{refusal_of}
use Rattle.core_reach.specs.Answers.{Loading}
use Rattle.core_reach.proofs.LoadLemmas.{one_more, module_refused, is_root}
use Rattle.core_reach.proofs.GoesLemmas.{root_not_loaded}
use Rattle.core_reach.proofs.rounds.load_reached.Goals as goal
use Rattle.core_reach.specs.Asking.{AreAskedBehind, AreThoseLoaded}
use Rattle.core_reach.proofs.AskingLemmas.{none_behind}
use Rattle.core_reach.specs.Alone.{only}
use Rattle.core_reach.proofs.AloneLemmas.{no_more}
use Rattle.core_link_spec.specs.Rounds.{too_many_modules}
use Rattle.std.proofs.Common.{Some}

pub returns-then-max_modules-eq0-clause-loading : goal.returns-then-max_modules-eq0-clause-loading
returns-then-max_modules-eq0-clause-loading g c = λ found.
    let sources = g.R.Resolver.answers c.args.resolver.now in
    root_not_loaded sources c.args.max_modules (path_text c.args.path.now) (kept_names c.args.keep.now (unit_tree c.args.unit)) (Some (too_many_modules (path_text c.in_ok-clone_in.field-0)))
    (one_more sources c.args.max_modules 0 c.args.path.now (path_text c.args.path.now) refl c.in_ok-clone_in.field-0 c.in_ok-clone_in.ensures (omega (arith, c.if-max_modules-eq0.true)))

pub returns-in_err-module-clause-loading : goal.returns-in_err-module-clause-loading
returns-in_err-module-clause-loading g c = λ found.
    let sources = g.R.Resolver.answers c.args.resolver.now in
    let p = err_from_is_err_and c.from_residual-in_err-module.result c.from_residual-in_err-module.ensures.1 in
    let less : 0 < c.args.max_modules = omega (arith, c.if-max_modules-eq0.false) in
    subst (Loading sources (path_text c.args.path.now) (kept_names c.args.keep.now (unit_tree c.args.unit)) c.args.max_modules) (sym (p.1 ∙ ap Err p.2))
    (root_not_loaded sources c.args.max_modules (path_text c.args.path.now) (kept_names c.args.keep.now (unit_tree c.args.unit)) (refusal_of c.in_err-module.field-0.0)
    (module_refused sources c.args.max_modules 0 c.args.path.now (path_text c.args.path.now) refl c.args.unit c.in_err-module.field-0.0 less found c.in_err-module.ensures))

pub returns-clause-loading : goal.returns-clause-loading
returns-clause-loading g c = λ found.
    let sources = g.R.Resolver.answers c.args.resolver.now in
    let root : Path = string_bytes c.in_ok-root.root in
    let keep : List Name = kept_names c.args.keep.now (unit_tree c.args.unit) in
    let printed : path_text c.args.path.now ≡ root = sym c.in_ok-root.ensures.ok in
    let less : 0 < c.args.max_modules = omega (arith, c.if-max_modules-eq0.false) in
    let is = is_root sources c.args.max_modules 0 c.args.path.now root printed c.args.unit c.in_ok-module.«module» less found c.in_ok-module.ensures in
    let kept : c.as_slice.result.now ≡ keep = c.as_slice.ensures ∙ c.in_ok-names.ensures in
    subst (λ q. Loading sources q keep c.args.max_modules c.load_from_root.result) (sym printed)
    (subst (λ k. Loading sources root k c.args.max_modules c.load_from_root.result) kept (c.load_from_root.ensures.loading is))

pub returns-clause-asked : goal.returns-clause-asked
returns-clause-asked g c = λ found.
    let sources = g.R.Resolver.answers c.args.resolver.now in
    let root : Path = string_bytes c.in_ok-root.root in
    let keep : List Name = kept_names c.args.keep.now (unit_tree c.args.unit) in
    let printed : path_text c.args.path.now ≡ root = sym c.in_ok-root.ensures.ok in
    let less : 0 < c.args.max_modules = omega (arith, c.if-max_modules-eq0.false) in
    let is = is_root sources c.args.max_modules 0 c.args.path.now root printed c.args.unit c.in_ok-module.«module» less found c.in_ok-module.ensures in
    let kept : c.as_slice.result.now ≡ keep = c.as_slice.ensures ∙ c.in_ok-names.ensures in
    let before = g.R.Resolver.asked c.args.resolver.now in
    let after = g.R.Resolver.asked c.load_from_root.new.resolver in
    subst (λ q. AreAskedBehind sources q keep c.args.max_modules before after) (sym printed)
    (subst (λ k. AreAskedBehind sources root k c.args.max_modules before after) kept (c.load_from_root.ensures.asked is))

pub returns-clause-all_asked : goal.returns-clause-all_asked
returns-clause-all_asked g c = λ found.
    let sources = g.R.Resolver.answers c.args.resolver.now in
    let root : Path = string_bytes c.in_ok-root.root in
    let keep : List Name = kept_names c.args.keep.now (unit_tree c.args.unit) in
    let printed : path_text c.args.path.now ≡ root = sym c.in_ok-root.ensures.ok in
    let less : 0 < c.args.max_modules = omega (arith, c.if-max_modules-eq0.false) in
    let is = is_root sources c.args.max_modules 0 c.args.path.now root printed c.args.unit c.in_ok-module.«module» less found c.in_ok-module.ensures in
    let kept : c.as_slice.result.now ≡ keep = c.as_slice.ensures ∙ c.in_ok-names.ensures in
    let before = g.R.Resolver.asked c.args.resolver.now in
    let after = g.R.Resolver.asked c.load_from_root.new.resolver in
    subst (λ q. OnOk c.load_from_root.result (AreThoseLoaded sources q keep c.args.max_modules before after)) (sym printed)
    (subst (λ k. OnOk c.load_from_root.result (AreThoseLoaded sources root k c.args.max_modules before after)) kept (c.load_from_root.ensures.all_asked is))

pub returns-then-max_modules-eq0-clause-asked : goal.returns-then-max_modules-eq0-clause-asked
returns-then-max_modules-eq0-clause-asked g c = λ found.
    let before = g.R.Resolver.asked c.args.resolver.now in
    none_behind (g.R.Resolver.answers c.args.resolver.now) c.args.max_modules (path_text c.args.path.now) (kept_names c.args.keep.now (unit_tree c.args.unit)) before before refl

pub returns-in_err-root-clause-asked : goal.returns-in_err-root-clause-asked
returns-in_err-root-clause-asked g c = λ found.
    let before = g.R.Resolver.asked c.args.resolver.now in
    none_behind (g.R.Resolver.answers c.args.resolver.now) c.args.max_modules (path_text c.args.path.now) (kept_names c.args.keep.now (unit_tree c.args.unit)) before before refl

pub returns-in_err-names-clause-asked : goal.returns-in_err-names-clause-asked
returns-in_err-names-clause-asked g c = λ found.
    let before = g.R.Resolver.asked c.args.resolver.now in
    none_behind (g.R.Resolver.answers c.args.resolver.now) c.args.max_modules (path_text c.args.path.now) (kept_names c.args.keep.now (unit_tree c.args.unit)) before before refl

pub returns-in_err-module-clause-asked : goal.returns-in_err-module-clause-asked
returns-in_err-module-clause-asked g c = λ found.
    let before = g.R.Resolver.asked c.args.resolver.now in
    none_behind (g.R.Resolver.answers c.args.resolver.now) c.args.max_modules (path_text c.args.path.now) (kept_names c.args.keep.now (unit_tree c.args.unit)) before before refl

pub returns-in_err-clone_in-clause-asked : goal.returns-in_err-clone_in-clause-asked
returns-in_err-clone_in-clause-asked g c = λ found.
    let before = g.R.Resolver.asked c.args.resolver.now in
    none_behind (g.R.Resolver.answers c.args.resolver.now) c.args.max_modules (path_text c.args.path.now) (kept_names c.args.keep.now (unit_tree c.args.unit)) before before refl

pub returns-then-max_modules-eq0-clause-alone : goal.returns-then-max_modules-eq0-clause-alone
returns-then-max_modules-eq0-clause-alone g c = λ inside within found.
    let sources = only inside (g.R.Resolver.answers c.args.resolver.now) in
    root_not_loaded sources c.args.max_modules (path_text c.args.path.now) (kept_names c.args.keep.now (unit_tree c.args.unit)) (Some (too_many_modules (path_text c.in_ok-clone_in.field-0)))
    (one_more sources c.args.max_modules 0 c.args.path.now (path_text c.args.path.now) refl c.in_ok-clone_in.field-0 c.in_ok-clone_in.ensures (omega (arith, c.if-max_modules-eq0.true)))

pub returns-in_err-module-clause-alone : goal.returns-in_err-module-clause-alone
returns-in_err-module-clause-alone g c = λ inside within found.
    let sources = only inside (g.R.Resolver.answers c.args.resolver.now) in
    let p = err_from_is_err_and c.from_residual-in_err-module.result c.from_residual-in_err-module.ensures.1 in
    let less : 0 < c.args.max_modules = omega (arith, c.if-max_modules-eq0.false) in
    subst (Loading sources (path_text c.args.path.now) (kept_names c.args.keep.now (unit_tree c.args.unit)) c.args.max_modules) (sym (p.1 ∙ ap Err p.2))
    (root_not_loaded sources c.args.max_modules (path_text c.args.path.now) (kept_names c.args.keep.now (unit_tree c.args.unit)) (refusal_of c.in_err-module.field-0.0)
    (module_refused sources c.args.max_modules 0 c.args.path.now (path_text c.args.path.now) refl c.args.unit c.in_err-module.field-0.0 less found c.in_err-module.ensures))

pub returns-clause-alone : goal.returns-clause-alone
returns-clause-alone g c = λ inside within found.
    let sources = only inside (g.R.Resolver.answers c.args.resolver.now) in
    let root : Path = string_bytes c.in_ok-root.root in
    let keep : List Name = kept_names c.args.keep.now (unit_tree c.args.unit) in
    let printed : path_text c.args.path.now ≡ root = sym c.in_ok-root.ensures.ok in
    let less : 0 < c.args.max_modules = omega (arith, c.if-max_modules-eq0.false) in
    let is = is_root sources c.args.max_modules 0 c.args.path.now root printed c.args.unit c.in_ok-module.«module» less found c.in_ok-module.ensures in
    let kept : c.as_slice.result.now ≡ keep = c.as_slice.ensures ∙ c.in_ok-names.ensures in
    subst (λ q. Loading sources q keep c.args.max_modules c.load_from_root.result) (sym printed)
    (subst (λ k. Loading sources root k c.args.max_modules c.load_from_root.result) kept (c.load_from_root.ensures.alone inside within is))

pub returns-then-max_modules-eq0-clause-more : goal.returns-then-max_modules-eq0-clause-more
returns-then-max_modules-eq0-clause-more g c = no_more (g.R.Resolver.asked c.args.resolver.now)

pub returns-in_err-clone_in-clause-more : goal.returns-in_err-clone_in-clause-more
returns-in_err-clone_in-clause-more g c = no_more (g.R.Resolver.asked c.args.resolver.now)

pub returns-in_err-root-clause-more : goal.returns-in_err-root-clause-more
returns-in_err-root-clause-more g c = no_more (g.R.Resolver.asked c.args.resolver.now)

pub returns-in_err-names-clause-more : goal.returns-in_err-names-clause-more
returns-in_err-names-clause-more g c = no_more (g.R.Resolver.asked c.args.resolver.now)

pub returns-in_err-module-clause-more : goal.returns-in_err-module-clause-more
returns-in_err-module-clause-more g c = no_more (g.R.Resolver.asked c.args.resolver.now)
