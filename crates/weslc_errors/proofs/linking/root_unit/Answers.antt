-- The root is one module too many, not found or at fault.
use Rattle.std.proofs.Common.{◌<◌, ◌≤◌, inr, refl, arith, Err}
use Rattle.std.proofs.lemmas.Result.{err_from_is_err_and}
use Rattle.wgsl_path.specs.Paths.{path_text}
use Rattle.core_link_spec.specs.Rounds.{one_too_many}
use Rattle.weslc_errors.specs.Answers.{of_the_root}
use Rattle.weslc_errors.proofs.Loading.{root_told}
use Rattle.core_reach.specs.Alone.{only}
use Rattle.core_reach.proofs.AskingLemmas.{asked_it, asks_for_one}
use Rattle.core_reach.proofs.AloneLemmas.{told_inside}
use Rattle.weslc_errors.proofs.linking.root_unit.Goals as goal

pub returns-then-max_modules-eq0-clause-refusal : goal.returns-then-max_modules-eq0-clause-refusal
returns-then-max_modules-eq0-clause-refusal g c asked =
    let zero : c.args.max_modules ≤ 0 = omega (arith, c.if-max_modules-eq0.true) in
    rw c.in_ok-too_many_modules.ensures (c.args.root.now, refl, of_the_root (one_too_many zero))

pub returns-in_err-resolve_module-clause-refusal : goal.returns-in_err-resolve_module-clause-refusal
returns-in_err-resolve_module-clause-refusal g c =
    let p = err_from_is_err_and c.from_residual-in_err-resolve_module.result c.from_residual-in_err-resolve_module.ensures.1 in
    let some : 0 < c.args.max_modules = omega (arith, c.if-max_modules-eq0.false) in
    rw (p.1, p.2) (λ asked. root_told (g.R.Resolver.answers c.args.resolver.now) (path_text c.args.root.now) asked c.args.max_modules some c.args.root.now refl c.in_err-resolve_module.field-0.0 c.in_err-resolve_module.ensures.unit)

pub returns-in_err-resolve_module-clause-asks : goal.returns-in_err-resolve_module-clause-asks
returns-in_err-resolve_module-clause-asks g c =
    let some : 0 < c.args.max_modules = omega (arith, c.if-max_modules-eq0.false) in
    asks_for_one (g.R.Resolver.asked c.args.resolver.now) 0 c.args.max_modules (path_text c.args.root.now) (Err c.in_err-resolve_module.field-0.0) (g.R.Resolver.asked c.resolve_module.new.self) some c.in_err-resolve_module.ensures.asked

pub returns-clause-asks : goal.returns-clause-asks
returns-clause-asks g c =
    let some : 0 < c.args.max_modules = omega (arith, c.if-max_modules-eq0.false) in
    inr (some, asked_it (g.R.Resolver.asked c.args.resolver.now) (path_text c.args.root.now) c.in_ok-resolve_module.field-0 (g.R.Resolver.asked c.resolve_module.new.self) c.in_ok-resolve_module.ensures.asked)

pub returns-clause-asked : goal.returns-clause-asked
returns-clause-asked g c =
    let some : 0 < c.args.max_modules = omega (arith, c.if-max_modules-eq0.false) in
    (some, asked_it (g.R.Resolver.asked c.args.resolver.now) (path_text c.args.root.now) c.in_ok-resolve_module.field-0 (g.R.Resolver.asked c.resolve_module.new.self) c.in_ok-resolve_module.ensures.asked)

pub returns-then-max_modules-eq0-clause-alone : goal.returns-then-max_modules-eq0-clause-alone
returns-then-max_modules-eq0-clause-alone g c inside within asked =
    let zero : c.args.max_modules ≤ 0 = omega (arith, c.if-max_modules-eq0.true) in
    rw c.in_ok-too_many_modules.ensures (c.args.root.now, refl, of_the_root (one_too_many zero))

pub returns-in_err-resolve_module-clause-alone : goal.returns-in_err-resolve_module-clause-alone
returns-in_err-resolve_module-clause-alone g c = λ inside within.
    let p = err_from_is_err_and c.from_residual-in_err-resolve_module.result c.from_residual-in_err-resolve_module.ensures.1 in
    let some : 0 < c.args.max_modules = omega (arith, c.if-max_modules-eq0.false) in
    let told = told_inside inside (g.R.Resolver.answers c.args.resolver.now) c.args.root.now (g.R.Resolver.asked c.args.resolver.now) (g.R.Resolver.asked c.resolve_module.new.self) within
    (Err c.in_err-resolve_module.field-0.0) c.in_err-resolve_module.ensures.asked c.in_err-resolve_module.ensures.unit in
    rw (p.1, p.2) (λ asked. root_told (only inside (g.R.Resolver.answers c.args.resolver.now)) (path_text c.args.root.now) asked c.args.max_modules some c.args.root.now refl c.in_err-resolve_module.field-0.0 told)
