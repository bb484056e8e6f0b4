use Rattle.std.proofs.Common.{List, refl, sym, subst, ap, ◌∙◌, Err}
use Rattle.std.specs.Prelude.{string_bytes}
use Rattle.std.proofs.lemmas.Result.{err_from_is_err_and}
use Rattle.wgsl_path.specs.Paths.{path_text}
use Rattle.core_link_spec.specs.Occurrences.{Name}
use Rattle.core_link_spec.specs.Modules.{Path}
use Rattle.core_reach.specs.declared.rounds.Reached.{Reached}
use Rattle.core_reach.specs.Answers.{Loading}
use Rattle.core_reach.specs.Closed.{IsClosed, RefusesRoot}
use Rattle.core_reach.specs.Loading.{IsInsertedAt}
use Rattle.core_reach.proofs.LoadLemmas.{root_loaded}
use Rattle.core_reach.proofs.GoesLemmas.{root_ended, root_stopped, nothing_held, tabled}
use Rattle.core_reach.proofs.AskingLemmas.{none_behind, root_asked}
use Rattle.core_reach.specs.Alone.{only}
use Rattle.core_reach.proofs.AloneLemmas.{no_more}
use Rattle.core_reach.proofs.rounds.load_from_root.Goals as goal

pub returns-in_err-asked-clause-loading : goal.returns-in_err-asked-clause-loading
returns-in_err-asked-clause-loading g c = λ is.
    let sources = g.R.Resolver.answers c.args.resolver.now in
    let root : Path = string_bytes c.args.root in
    let keep : List Name = c.args.keep.now in
    let l = root_loaded sources c.args.max_modules c.args.path.now root c.args.«module» c.new-modules.result c.insert_module.new.modules c.new-modules.ensures.empty is
    (subst (λ q. IsInsertedAt c.new-modules.result q c.args.«module» c.insert_module.new.modules) c.as_str.ensures.value c.in_ok-insert_module.ensures) in
    let t = tabled sources c.args.max_modules root keep c.args.path.now c.new-modules.result c.insert_module.new.modules c.new-modules.ensures.empty l in
    let p = err_from_is_err_and c.from_residual-in_err-asked.result c.from_residual-in_err-asked.ensures.1 in
    subst (Loading sources root keep c.args.max_modules) (sym (p.1 ∙ ap Err p.2))
    (root_stopped sources c.args.max_modules root keep c.args.path.now c.new-modules.result c.insert_module.new.modules c.new-modules.ensures.empty l c.close_root.new.held c.in_err-asked.field-0.0
    (subst (λ q. RefusesRoot c.insert_module.new.modules q keep c.close_root.new.held c.in_err-asked.field-0.0) c.as_str-2.ensures.value
    (c.in_err-asked.ensures.refused t.keyed (ap path_text (sym is.named) ∙ is.printed ∙ sym c.as_str-2.ensures.value) (nothing_held c.new-held.result c.new-held.ensures.empty))))

pub returns-clause-loading : goal.returns-clause-loading
returns-clause-loading g c = λ is.
    let sources = g.R.Resolver.answers c.args.resolver.now in
    let root : Path = string_bytes c.args.root in
    let keep : List Name = c.args.keep.now in
    let l = root_loaded sources c.args.max_modules c.args.path.now root c.args.«module» c.new-modules.result c.insert_module.new.modules c.new-modules.ensures.empty is
    (subst (λ q. IsInsertedAt c.new-modules.result q c.args.«module» c.insert_module.new.modules) c.as_str.ensures.value c.in_ok-insert_module.ensures) in
    let t = tabled sources c.args.max_modules root keep c.args.path.now c.new-modules.result c.insert_module.new.modules c.new-modules.ensures.empty l in
    let reached : Reached = record { modules = c.insert_module.new.modules; root = c.args.root; held = c.close_root.new.held } in
    c.load_rounds.ensures.loading
    (root_ended sources c.args.max_modules root keep c.args.path.now c.new-modules.result c.insert_module.new.modules c.new-modules.ensures.empty l reached c.in_ok-asked.asked refl
    (subst (λ q. IsClosed c.insert_module.new.modules q keep c.close_root.new.held c.in_ok-asked.asked) c.as_str-2.ensures.value
    (c.in_ok-asked.ensures.closed t.keyed (nothing_held c.new-held.result c.new-held.ensures.empty))))

pub returns-clause-asked : goal.returns-clause-asked
returns-clause-asked g c = λ is.
    let sources = g.R.Resolver.answers c.args.resolver.now in
    let before = g.R.Resolver.asked c.args.resolver.now in
    let root : Path = string_bytes c.args.root in
    let keep : List Name = c.args.keep.now in
    let l = root_loaded sources c.args.max_modules c.args.path.now root c.args.«module» c.new-modules.result c.insert_module.new.modules c.new-modules.ensures.empty is
    (subst (λ q. IsInsertedAt c.new-modules.result q c.args.«module» c.insert_module.new.modules) c.as_str.ensures.value c.in_ok-insert_module.ensures) in
    let t = tabled sources c.args.max_modules root keep c.args.path.now c.new-modules.result c.insert_module.new.modules c.new-modules.ensures.empty l in
    let reached : Reached = record { modules = c.insert_module.new.modules; root = c.args.root; held = c.close_root.new.held } in
    c.load_rounds.ensures.asked
    (root_asked sources c.args.max_modules root keep before before refl c.args.path.now c.new-modules.result c.insert_module.new.modules c.new-modules.ensures.empty l reached c.in_ok-asked.asked refl
    (subst (λ q. IsClosed c.insert_module.new.modules q keep c.close_root.new.held c.in_ok-asked.asked) c.as_str-2.ensures.value
    (c.in_ok-asked.ensures.closed t.keyed (nothing_held c.new-held.result c.new-held.ensures.empty))))

pub returns-clause-all_asked : goal.returns-clause-all_asked
returns-clause-all_asked g c = λ is.
    let sources = g.R.Resolver.answers c.args.resolver.now in
    let before = g.R.Resolver.asked c.args.resolver.now in
    let root : Path = string_bytes c.args.root in
    let keep : List Name = c.args.keep.now in
    let l = root_loaded sources c.args.max_modules c.args.path.now root c.args.«module» c.new-modules.result c.insert_module.new.modules c.new-modules.ensures.empty is
    (subst (λ q. IsInsertedAt c.new-modules.result q c.args.«module» c.insert_module.new.modules) c.as_str.ensures.value c.in_ok-insert_module.ensures) in
    let t = tabled sources c.args.max_modules root keep c.args.path.now c.new-modules.result c.insert_module.new.modules c.new-modules.ensures.empty l in
    let reached : Reached = record { modules = c.insert_module.new.modules; root = c.args.root; held = c.close_root.new.held } in
    c.load_rounds.ensures.all_asked
    (root_asked sources c.args.max_modules root keep before before refl c.args.path.now c.new-modules.result c.insert_module.new.modules c.new-modules.ensures.empty l reached c.in_ok-asked.asked refl
    (subst (λ q. IsClosed c.insert_module.new.modules q keep c.close_root.new.held c.in_ok-asked.asked) c.as_str-2.ensures.value
    (c.in_ok-asked.ensures.closed t.keyed (nothing_held c.new-held.result c.new-held.ensures.empty))))

pub returns-in_err-insert_module-clause-asked : goal.returns-in_err-insert_module-clause-asked
returns-in_err-insert_module-clause-asked g c = λ is.
    let before = g.R.Resolver.asked c.args.resolver.now in
    none_behind (g.R.Resolver.answers c.args.resolver.now) c.args.max_modules (string_bytes c.args.root) c.args.keep.now before before refl

pub returns-in_err-asked-clause-asked : goal.returns-in_err-asked-clause-asked
returns-in_err-asked-clause-asked g c = λ is.
    let before = g.R.Resolver.asked c.args.resolver.now in
    none_behind (g.R.Resolver.answers c.args.resolver.now) c.args.max_modules (string_bytes c.args.root) c.args.keep.now before before refl

pub returns-in_err-asked-clause-alone : goal.returns-in_err-asked-clause-alone
returns-in_err-asked-clause-alone g c = λ inside within is.
    let sources = only inside (g.R.Resolver.answers c.args.resolver.now) in
    let root : Path = string_bytes c.args.root in
    let keep : List Name = c.args.keep.now in
    let l = root_loaded sources c.args.max_modules c.args.path.now root c.args.«module» c.new-modules.result c.insert_module.new.modules c.new-modules.ensures.empty is
    (subst (λ q. IsInsertedAt c.new-modules.result q c.args.«module» c.insert_module.new.modules) c.as_str.ensures.value c.in_ok-insert_module.ensures) in
    let t = tabled sources c.args.max_modules root keep c.args.path.now c.new-modules.result c.insert_module.new.modules c.new-modules.ensures.empty l in
    let p = err_from_is_err_and c.from_residual-in_err-asked.result c.from_residual-in_err-asked.ensures.1 in
    subst (Loading sources root keep c.args.max_modules) (sym (p.1 ∙ ap Err p.2))
    (root_stopped sources c.args.max_modules root keep c.args.path.now c.new-modules.result c.insert_module.new.modules c.new-modules.ensures.empty l c.close_root.new.held c.in_err-asked.field-0.0
    (subst (λ q. RefusesRoot c.insert_module.new.modules q keep c.close_root.new.held c.in_err-asked.field-0.0) c.as_str-2.ensures.value
    (c.in_err-asked.ensures.refused t.keyed (ap path_text (sym is.named) ∙ is.printed ∙ sym c.as_str-2.ensures.value) (nothing_held c.new-held.result c.new-held.ensures.empty))))

pub returns-clause-alone : goal.returns-clause-alone
returns-clause-alone g c = λ inside within is.
    let sources = only inside (g.R.Resolver.answers c.args.resolver.now) in
    let root : Path = string_bytes c.args.root in
    let keep : List Name = c.args.keep.now in
    let l = root_loaded sources c.args.max_modules c.args.path.now root c.args.«module» c.new-modules.result c.insert_module.new.modules c.new-modules.ensures.empty is
    (subst (λ q. IsInsertedAt c.new-modules.result q c.args.«module» c.insert_module.new.modules) c.as_str.ensures.value c.in_ok-insert_module.ensures) in
    let t = tabled sources c.args.max_modules root keep c.args.path.now c.new-modules.result c.insert_module.new.modules c.new-modules.ensures.empty l in
    let reached : Reached = record { modules = c.insert_module.new.modules; root = c.args.root; held = c.close_root.new.held } in
    c.load_rounds.ensures.alone inside within
    (root_ended sources c.args.max_modules root keep c.args.path.now c.new-modules.result c.insert_module.new.modules c.new-modules.ensures.empty l reached c.in_ok-asked.asked refl
    (subst (λ q. IsClosed c.insert_module.new.modules q keep c.close_root.new.held c.in_ok-asked.asked) c.as_str-2.ensures.value
    (c.in_ok-asked.ensures.closed t.keyed (nothing_held c.new-held.result c.new-held.ensures.empty))))

pub returns-in_err-insert_module-clause-more : goal.returns-in_err-insert_module-clause-more
returns-in_err-insert_module-clause-more g c = no_more (g.R.Resolver.asked c.args.resolver.now)

pub returns-in_err-asked-clause-more : goal.returns-in_err-asked-clause-more
returns-in_err-asked-clause-more g c = no_more (g.R.Resolver.asked c.args.resolver.now)
