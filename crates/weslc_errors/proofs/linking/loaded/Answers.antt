-- What is loaded, and the first refusal.
use Rattle.std.proofs.Common.{Ok, refl, subst}
use Rattle.std.proofs.lemmas.Result.{err_from_is_err_and}
use Rattle.wgsl_path.specs.Paths.{path_text}
use Rattle.core_syntax.specs.View.{unit_tree}
use Rattle.core_link_spec.specs.Kept.{kept_names}
use Rattle.wesl_resolve.specs.Found.{unit_of}
use Rattle.core_reach.specs.Missing.{refusal_of}
use Rattle.core_reach.specs.Answers.{Refuses}
use Rattle.core_link.specs.Answers.{Resolves}
use Rattle.weslc_errors.proofs.Loading.{loading_told, tables, none_clashes, first_clashes}
use Rattle.core_reach.specs.Asking.{AreAskedBehind, AreThoseLoaded}
use Rattle.weslc_errors.proofs.Asking.{root_asked, behind_asked, loaded_asked}
use Rattle.std.proofs.Common.{◌≡◌, ◌∷◌, [], true}
use Rattle.core_reach.specs.Alone.{only}
use Rattle.core_reach.proofs.LoadLemmas.{one_in}
use Rattle.core_reach.proofs.AloneLemmas.{inside_first, inside_then, same_only}
use Rattle.weslc_errors.proofs.linking.loaded.Goals as goal

pub returns-in_err-unit-clause-refusal : goal.returns-in_err-unit-clause-refusal
returns-in_err-unit-clause-refusal g c =
    let p = err_from_is_err_and c.from_residual.result c.from_residual.ensures.1 in
    rw (p.1, p.2) (c.in_err-unit.ensures.refusal c.args.options.now.keep)

pub returns-in_err-resolutions-clause-refusal : goal.returns-in_err-resolutions-clause-refusal
returns-in_err-resolutions-clause-refusal g c =
    let p = err_from_is_err_and c.from_residual-in_err-resolutions.result c.from_residual-in_err-resolutions.ensures.1 in
    let found = g.R.Resolver.answers c.args.resolver.now in
    let after = g.R.Resolver.answers c.root_unit.new.resolver in
    let root = path_text c.args.root.now in
    let unit = unit_tree c.in_ok-unit.unit in
    let max = c.args.options.now.max_modules in
    let e = c.in_err-resolutions.field-0.0 in
    let is = (c.in_ok-unit.ensures.same_answers root (unit_of unit)).0 c.in_ok-unit.ensures.unit in
    let refused = subst (λ k. Refuses after root (kept_names k unit) max (refusal_of e)) c.as_slice-keep.ensures (c.in_err-resolutions.ensures.resolves is) in
    rw (p.1, p.2) (loading_told found root c.args.options.now.keep max after c.in_ok-unit.ensures.same_answers unit c.in_ok-unit.ensures.unit e refused)

pub returns-in-Some-clause-refusal : goal.returns-in-Some-clause-refusal
returns-in-Some-clause-refusal g c =
    let found = g.R.Resolver.answers c.args.resolver.now in
    let after = g.R.Resolver.answers c.root_unit.new.resolver in
    let root = path_text c.args.root.now in
    let unit = unit_tree c.in_ok-unit.unit in
    let max = c.args.options.now.max_modules in
    let r = c.in_ok-resolutions.resolutions in
    let is = (c.in_ok-unit.ensures.same_answers root (unit_of unit)).0 c.in_ok-unit.ensures.unit in
    let resolved = subst (λ k. Resolves after root (kept_names k unit) max (Ok r)) c.as_slice-keep.ensures (c.in_ok-resolutions.ensures.resolves is) in
    let t = tables found root c.args.options.now.keep max after c.in_ok-unit.ensures.same_answers unit c.in_ok-unit.ensures.unit r resolved in
    let first = first_clashes found root c.args.options.now.keep max (kept_names c.args.options.now.keep unit) r t c.in_ok-name.field-0 c.in-Some.name c.in-Some.is c.in_ok-name.ensures.first in
    rw c.name_clash.ensures (c.in-Some.name, refl, first)

pub returns-in-None-clause-tables : goal.returns-in-None-clause-tables
returns-in-None-clause-tables g c =
    let found = g.R.Resolver.answers c.args.resolver.now in
    let after = g.R.Resolver.answers c.root_unit.new.resolver in
    let root = path_text c.args.root.now in
    let unit = unit_tree c.in_ok-unit.unit in
    let max = c.args.options.now.max_modules in
    let r = c.in_ok-resolutions.resolutions in
    let is = (c.in_ok-unit.ensures.same_answers root (unit_of unit)).0 c.in_ok-unit.ensures.unit in
    let resolved = subst (λ k. Resolves after root (kept_names k unit) max (Ok r)) c.as_slice-keep.ensures (c.in_ok-resolutions.ensures.resolves is) in
    let t = tables found root c.args.options.now.keep max after c.in_ok-unit.ensures.same_answers unit c.in_ok-unit.ensures.unit r resolved in
    none_clashes found root c.args.options.now.keep max (kept_names c.args.options.now.keep unit) r t c.in_ok-name.field-0 c.in-None.is c.in_ok-name.ensures.free

pub returns-in_err-unit-clause-asked : goal.returns-in_err-unit-clause-asked
returns-in_err-unit-clause-asked g c =
    root_asked (g.R.Resolver.answers c.args.resolver.now) (path_text c.args.root.now) c.args.options.now.keep c.args.options.now.max_modules
    (g.R.Resolver.asked c.args.resolver.now) (g.R.Resolver.asked c.root_unit.new.resolver) c.in_err-unit.ensures.asks

pub returns-in_err-resolutions-clause-asked : goal.returns-in_err-resolutions-clause-asked
returns-in_err-resolutions-clause-asked g c =
    let found = g.R.Resolver.answers c.args.resolver.now in
    let other = g.R.Resolver.answers c.root_unit.new.resolver in
    let between = g.R.Resolver.asked c.root_unit.new.resolver in
    let after = g.R.Resolver.asked c.resolve_lazy.new.resolver in
    let root = path_text c.args.root.now in
    let unit = unit_tree c.in_ok-unit.unit in
    let max = c.args.options.now.max_modules in
    let is = (c.in_ok-unit.ensures.same_answers root (unit_of unit)).0 c.in_ok-unit.ensures.unit in
    let asked = subst (λ k. AreAskedBehind other root (kept_names k unit) max between after) c.as_slice-keep.ensures (c.in_err-resolutions.ensures.asked is) in
    behind_asked found root c.args.options.now.keep max other c.in_ok-unit.ensures.same_answers unit c.in_ok-unit.ensures.unit (g.R.Resolver.asked c.args.resolver.now) between after c.in_ok-unit.ensures.asked asked

pub returns-in_err-name-clause-asked : goal.returns-in_err-name-clause-asked
returns-in_err-name-clause-asked g c =
    let found = g.R.Resolver.answers c.args.resolver.now in
    let other = g.R.Resolver.answers c.root_unit.new.resolver in
    let between = g.R.Resolver.asked c.root_unit.new.resolver in
    let after = g.R.Resolver.asked c.resolve_lazy.new.resolver in
    let root = path_text c.args.root.now in
    let unit = unit_tree c.in_ok-unit.unit in
    let max = c.args.options.now.max_modules in
    let is = (c.in_ok-unit.ensures.same_answers root (unit_of unit)).0 c.in_ok-unit.ensures.unit in
    let asked = subst (λ k. AreAskedBehind other root (kept_names k unit) max between after) c.as_slice-keep.ensures (c.in_ok-resolutions.ensures.asked is) in
    behind_asked found root c.args.options.now.keep max other c.in_ok-unit.ensures.same_answers unit c.in_ok-unit.ensures.unit (g.R.Resolver.asked c.args.resolver.now) between after c.in_ok-unit.ensures.asked asked

pub returns-in-Some-clause-asked : goal.returns-in-Some-clause-asked
returns-in-Some-clause-asked g c =
    let found = g.R.Resolver.answers c.args.resolver.now in
    let other = g.R.Resolver.answers c.root_unit.new.resolver in
    let between = g.R.Resolver.asked c.root_unit.new.resolver in
    let after = g.R.Resolver.asked c.resolve_lazy.new.resolver in
    let root = path_text c.args.root.now in
    let unit = unit_tree c.in_ok-unit.unit in
    let max = c.args.options.now.max_modules in
    let is = (c.in_ok-unit.ensures.same_answers root (unit_of unit)).0 c.in_ok-unit.ensures.unit in
    let asked = subst (λ k. AreAskedBehind other root (kept_names k unit) max between after) c.as_slice-keep.ensures (c.in_ok-resolutions.ensures.asked is) in
    behind_asked found root c.args.options.now.keep max other c.in_ok-unit.ensures.same_answers unit c.in_ok-unit.ensures.unit (g.R.Resolver.asked c.args.resolver.now) between after c.in_ok-unit.ensures.asked asked

pub returns-in-None-clause-asked : goal.returns-in-None-clause-asked
returns-in-None-clause-asked g c =
    let found = g.R.Resolver.answers c.args.resolver.now in
    let other = g.R.Resolver.answers c.root_unit.new.resolver in
    let between = g.R.Resolver.asked c.root_unit.new.resolver in
    let after = g.R.Resolver.asked c.resolve_lazy.new.resolver in
    let root = path_text c.args.root.now in
    let unit = unit_tree c.in_ok-unit.unit in
    let max = c.args.options.now.max_modules in
    let is = (c.in_ok-unit.ensures.same_answers root (unit_of unit)).0 c.in_ok-unit.ensures.unit in
    let asked = subst (λ k. AreAskedBehind other root (kept_names k unit) max between after) c.as_slice-keep.ensures (c.in_ok-resolutions.ensures.asked is) in
    behind_asked found root c.args.options.now.keep max other c.in_ok-unit.ensures.same_answers unit c.in_ok-unit.ensures.unit (g.R.Resolver.asked c.args.resolver.now) between after c.in_ok-unit.ensures.asked asked

pub returns-in-None-clause-all_asked : goal.returns-in-None-clause-all_asked
returns-in-None-clause-all_asked g c =
    let found = g.R.Resolver.answers c.args.resolver.now in
    let other = g.R.Resolver.answers c.root_unit.new.resolver in
    let between = g.R.Resolver.asked c.root_unit.new.resolver in
    let after = g.R.Resolver.asked c.resolve_lazy.new.resolver in
    let root = path_text c.args.root.now in
    let unit = unit_tree c.in_ok-unit.unit in
    let max = c.args.options.now.max_modules in
    let is = (c.in_ok-unit.ensures.same_answers root (unit_of unit)).0 c.in_ok-unit.ensures.unit in
    let asked = subst (λ k. AreThoseLoaded other root (kept_names k unit) max between after) c.as_slice-keep.ensures (c.in_ok-resolutions.ensures.all_asked is) in
    loaded_asked found root c.args.options.now.keep max other c.in_ok-unit.ensures.same_answers unit c.in_ok-unit.ensures.unit (g.R.Resolver.asked c.args.resolver.now) between after c.in_ok-unit.ensures.asked asked

pub returns-in_err-unit-clause-alone_refusal : goal.returns-in_err-unit-clause-alone_refusal
returns-in_err-unit-clause-alone_refusal g c = λ inside within.
    let p = err_from_is_err_and c.from_residual.result c.from_residual.ensures.1 in
    rw (p.1, p.2) (c.in_err-unit.ensures.alone inside within c.args.options.now.keep)

pub returns-in_err-resolutions-clause-alone_refusal : goal.returns-in_err-resolutions-clause-alone_refusal
returns-in_err-resolutions-clause-alone_refusal g c = λ inside within.
    let p = err_from_is_err_and c.from_residual-in_err-resolutions.result c.from_residual-in_err-resolutions.ensures.1 in
    let before = g.R.Resolver.asked c.args.resolver.now in
    let between = g.R.Resolver.asked c.root_unit.new.resolver in
    let end = g.R.Resolver.asked c.resolve_lazy.new.resolver in
    let root = path_text c.args.root.now in
    let here = inside_first inside before between end within c.resolve_lazy.ensures.more in
    let then = inside_then inside before between end within (root ∷ [], c.in_ok-unit.ensures.asked.1) in
    let asked : inside root ≡ true = here (root ∷ []) c.in_ok-unit.ensures.asked.1 root (one_in root) in
    let found = only inside (g.R.Resolver.answers c.args.resolver.now) in
    let after = only inside (g.R.Resolver.answers c.root_unit.new.resolver) in
    let same = same_only inside (g.R.Resolver.answers c.args.resolver.now) (g.R.Resolver.answers c.root_unit.new.resolver) c.in_ok-unit.ensures.same_answers in
    let unit = unit_tree c.in_ok-unit.unit in
    let max = c.args.options.now.max_modules in
    let there : found root (unit_of unit) = (asked, c.in_ok-unit.ensures.unit) in
    let is = (same root (unit_of unit)).0 there in
    let e = c.in_err-resolutions.field-0.0 in
    let refused = subst (λ k. Refuses after root (kept_names k unit) max (refusal_of e)) c.as_slice-keep.ensures (c.in_err-resolutions.ensures.alone inside then is) in
    rw (p.1, p.2) (loading_told found root c.args.options.now.keep max after same unit there e refused)

pub returns-in-Some-clause-alone_refusal : goal.returns-in-Some-clause-alone_refusal
returns-in-Some-clause-alone_refusal g c = λ inside within.
    let before = g.R.Resolver.asked c.args.resolver.now in
    let between = g.R.Resolver.asked c.root_unit.new.resolver in
    let end = g.R.Resolver.asked c.resolve_lazy.new.resolver in
    let root = path_text c.args.root.now in
    let here = inside_first inside before between end within c.resolve_lazy.ensures.more in
    let then = inside_then inside before between end within (root ∷ [], c.in_ok-unit.ensures.asked.1) in
    let asked : inside root ≡ true = here (root ∷ []) c.in_ok-unit.ensures.asked.1 root (one_in root) in
    let found = only inside (g.R.Resolver.answers c.args.resolver.now) in
    let after = only inside (g.R.Resolver.answers c.root_unit.new.resolver) in
    let same = same_only inside (g.R.Resolver.answers c.args.resolver.now) (g.R.Resolver.answers c.root_unit.new.resolver) c.in_ok-unit.ensures.same_answers in
    let unit = unit_tree c.in_ok-unit.unit in
    let max = c.args.options.now.max_modules in
    let there : found root (unit_of unit) = (asked, c.in_ok-unit.ensures.unit) in
    let is = (same root (unit_of unit)).0 there in
    let r = c.in_ok-resolutions.resolutions in
    let resolved = subst (λ k. Resolves after root (kept_names k unit) max (Ok r)) c.as_slice-keep.ensures (c.in_ok-resolutions.ensures.alone inside then is) in
    let t = tables found root c.args.options.now.keep max after same unit there r resolved in
    let first = first_clashes found root c.args.options.now.keep max (kept_names c.args.options.now.keep unit) r t c.in_ok-name.field-0 c.in-Some.name c.in-Some.is c.in_ok-name.ensures.first in
    rw c.name_clash.ensures (c.in-Some.name, refl, first)

pub returns-in-None-clause-alone_tables : goal.returns-in-None-clause-alone_tables
returns-in-None-clause-alone_tables g c = λ inside within.
    let before = g.R.Resolver.asked c.args.resolver.now in
    let between = g.R.Resolver.asked c.root_unit.new.resolver in
    let end = g.R.Resolver.asked c.resolve_lazy.new.resolver in
    let root = path_text c.args.root.now in
    let here = inside_first inside before between end within c.resolve_lazy.ensures.more in
    let then = inside_then inside before between end within (root ∷ [], c.in_ok-unit.ensures.asked.1) in
    let asked : inside root ≡ true = here (root ∷ []) c.in_ok-unit.ensures.asked.1 root (one_in root) in
    let found = only inside (g.R.Resolver.answers c.args.resolver.now) in
    let after = only inside (g.R.Resolver.answers c.root_unit.new.resolver) in
    let same = same_only inside (g.R.Resolver.answers c.args.resolver.now) (g.R.Resolver.answers c.root_unit.new.resolver) c.in_ok-unit.ensures.same_answers in
    let unit = unit_tree c.in_ok-unit.unit in
    let max = c.args.options.now.max_modules in
    let there : found root (unit_of unit) = (asked, c.in_ok-unit.ensures.unit) in
    let is = (same root (unit_of unit)).0 there in
    let r = c.in_ok-resolutions.resolutions in
    let resolved = subst (λ k. Resolves after root (kept_names k unit) max (Ok r)) c.as_slice-keep.ensures (c.in_ok-resolutions.ensures.alone inside then is) in
    let t = tables found root c.args.options.now.keep max after same unit there r resolved in
    none_clashes found root c.args.options.now.keep max (kept_names c.args.options.now.keep unit) r t c.in_ok-name.field-0 c.in-None.is c.in_ok-name.ensures.free
