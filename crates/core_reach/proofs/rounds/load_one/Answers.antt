use Rattle.std.proofs.Common.{◌<◌, length, refl, sym, subst, ap, ◌∙◌, inr, Ok, Err, arith}
use Rattle.std.proofs.lemmas.Result.{err_from_is_err_and}
use Rattle.wgsl_path.specs.Paths.{path_text}
use Rattle.core_reach.specs.Loading.{LoadsOne}
use Rattle.core_reach.proofs.LoadLemmas.{one_more, unit_refused, module_refused, module_loaded}
use Rattle.core_reach.specs.Alone.{only}
use Rattle.core_reach.proofs.AskingLemmas.{asked_it, asks_for_one}
use Rattle.core_reach.proofs.AloneLemmas.{told_inside}
use Rattle.core_reach.proofs.rounds.load_one.Goals as goal

pub returns-then-len-max_modules-clause-loads : goal.returns-then-len-max_modules-clause-loads
returns-then-len-max_modules-clause-loads g c = λ is.
    one_more (g.R.Resolver.answers c.args.resolver.now) c.args.max_modules (length c.args.modules.now.entries) c.args.path.now c.args.text.now is
    c.in_ok-clone_in.field-0 c.in_ok-clone_in.ensures (omega (arith, c.len.ensures.len, c.if-len-max_modules.true))

pub returns-in_err-unit-clause-loads : goal.returns-in_err-unit-clause-loads
returns-in_err-unit-clause-loads g c = λ is.
    let p = err_from_is_err_and c.from_residual-in_err-unit.result c.from_residual-in_err-unit.ensures.1 in
    let less : length c.args.modules.now.entries < c.args.max_modules = omega (arith, c.len.ensures.len, c.if-len-max_modules.false) in
    subst (LoadsOne (g.R.Resolver.answers c.args.resolver.now) c.args.max_modules c.args.modules.now c.args.path.now c.args.text.now c.args.modules.now) (sym p.1)
    (unit_refused (g.R.Resolver.answers c.args.resolver.now) c.args.max_modules (length c.args.modules.now.entries) c.args.path.now c.args.text.now is
    c.in_err-unit.field-0.0 p.0 less c.in_err-unit.ensures.unit p.2)

pub returns-in_err-module-clause-loads : goal.returns-in_err-module-clause-loads
returns-in_err-module-clause-loads g c = λ is.
    let p = err_from_is_err_and c.from_residual-in_err-module.result c.from_residual-in_err-module.ensures.1 in
    let less : length c.args.modules.now.entries < c.args.max_modules = omega (arith, c.len.ensures.len, c.if-len-max_modules.false) in
    subst (LoadsOne (g.R.Resolver.answers c.args.resolver.now) c.args.max_modules c.args.modules.now c.args.path.now c.args.text.now c.args.modules.now) (sym (p.1 ∙ ap Err p.2))
    (module_refused (g.R.Resolver.answers c.args.resolver.now) c.args.max_modules (length c.args.modules.now.entries) c.args.path.now c.args.text.now is
    c.in_ok-unit.unit c.in_err-module.field-0.0 less c.in_ok-unit.ensures.unit c.in_err-module.ensures)

pub returns-clause-loads : goal.returns-clause-loads
returns-clause-loads g c = λ is.
    let less : length c.args.modules.now.entries < c.args.max_modules = omega (arith, c.len.ensures.len, c.if-len-max_modules.false) in
    module_loaded (g.R.Resolver.answers c.args.resolver.now) c.args.max_modules (length c.args.modules.now.entries) c.args.path.now c.args.text.now is
    c.args.modules.now c.insert_module.new.modules c.in_ok-unit.unit c.in_ok-module.«module» refl less c.in_ok-unit.ensures.unit c.in_ok-module.ensures c.in_ok-insert_module.ensures

pub returns-in_err-module-clause-asks : goal.returns-in_err-module-clause-asks
returns-in_err-module-clause-asks g c =
    let less : length c.args.modules.now.entries < c.args.max_modules = omega (arith, c.len.ensures.len, c.if-len-max_modules.false) in
    inr (less, asked_it (g.R.Resolver.asked c.args.resolver.now) (path_text c.args.path.now) c.in_ok-unit.unit (g.R.Resolver.asked c.resolve_module.new.self) c.in_ok-unit.ensures.asked)

pub returns-in_err-insert_module-clause-asks : goal.returns-in_err-insert_module-clause-asks
returns-in_err-insert_module-clause-asks g c =
    let less : length c.args.modules.now.entries < c.args.max_modules = omega (arith, c.len.ensures.len, c.if-len-max_modules.false) in
    inr (less, asked_it (g.R.Resolver.asked c.args.resolver.now) (path_text c.args.path.now) c.in_ok-unit.unit (g.R.Resolver.asked c.resolve_module.new.self) c.in_ok-unit.ensures.asked)

pub returns-clause-asks : goal.returns-clause-asks
returns-clause-asks g c =
    let less : length c.args.modules.now.entries < c.args.max_modules = omega (arith, c.len.ensures.len, c.if-len-max_modules.false) in
    inr (less, asked_it (g.R.Resolver.asked c.args.resolver.now) (path_text c.args.path.now) c.in_ok-unit.unit (g.R.Resolver.asked c.resolve_module.new.self) c.in_ok-unit.ensures.asked)

pub returns-in_err-unit-clause-asks : goal.returns-in_err-unit-clause-asks
returns-in_err-unit-clause-asks g c =
    let less : length c.args.modules.now.entries < c.args.max_modules = omega (arith, c.len.ensures.len, c.if-len-max_modules.false) in
    asks_for_one (g.R.Resolver.asked c.args.resolver.now) (length c.args.modules.now.entries) c.args.max_modules (path_text c.args.path.now) (Err c.in_err-unit.field-0.0) (g.R.Resolver.asked c.resolve_module.new.self)
    less c.in_err-unit.ensures.asked

pub returns-clause-asked : goal.returns-clause-asked
returns-clause-asked g c = asked_it (g.R.Resolver.asked c.args.resolver.now) (path_text c.args.path.now) c.in_ok-unit.unit (g.R.Resolver.asked c.resolve_module.new.self) c.in_ok-unit.ensures.asked

pub returns-then-len-max_modules-clause-alone : goal.returns-then-len-max_modules-clause-alone
returns-then-len-max_modules-clause-alone g c = λ inside within is.
    one_more (only inside (g.R.Resolver.answers c.args.resolver.now)) c.args.max_modules (length c.args.modules.now.entries) c.args.path.now c.args.text.now is
    c.in_ok-clone_in.field-0 c.in_ok-clone_in.ensures (omega (arith, c.len.ensures.len, c.if-len-max_modules.true))

pub returns-in_err-unit-clause-alone : goal.returns-in_err-unit-clause-alone
returns-in_err-unit-clause-alone g c = λ inside within is.
    let sources = only inside (g.R.Resolver.answers c.args.resolver.now) in
    let p = err_from_is_err_and c.from_residual-in_err-unit.result c.from_residual-in_err-unit.ensures.1 in
    let less : length c.args.modules.now.entries < c.args.max_modules = omega (arith, c.len.ensures.len, c.if-len-max_modules.false) in
    let told = told_inside inside (g.R.Resolver.answers c.args.resolver.now) c.args.path.now (g.R.Resolver.asked c.args.resolver.now) (g.R.Resolver.asked c.resolve_module.new.self) within
    (Err c.in_err-unit.field-0.0) c.in_err-unit.ensures.asked c.in_err-unit.ensures.unit in
    subst (LoadsOne sources c.args.max_modules c.args.modules.now c.args.path.now c.args.text.now c.args.modules.now) (sym p.1)
    (unit_refused sources c.args.max_modules (length c.args.modules.now.entries) c.args.path.now c.args.text.now is c.in_err-unit.field-0.0 p.0 less told p.2)

pub returns-in_err-module-clause-alone : goal.returns-in_err-module-clause-alone
returns-in_err-module-clause-alone g c = λ inside within is.
    let sources = only inside (g.R.Resolver.answers c.args.resolver.now) in
    let p = err_from_is_err_and c.from_residual-in_err-module.result c.from_residual-in_err-module.ensures.1 in
    let less : length c.args.modules.now.entries < c.args.max_modules = omega (arith, c.len.ensures.len, c.if-len-max_modules.false) in
    let told = told_inside inside (g.R.Resolver.answers c.args.resolver.now) c.args.path.now (g.R.Resolver.asked c.args.resolver.now) (g.R.Resolver.asked c.resolve_module.new.self) within
    (Ok c.in_ok-unit.unit) c.in_ok-unit.ensures.asked c.in_ok-unit.ensures.unit in
    subst (LoadsOne sources c.args.max_modules c.args.modules.now c.args.path.now c.args.text.now c.args.modules.now) (sym (p.1 ∙ ap Err p.2))
    (module_refused sources c.args.max_modules (length c.args.modules.now.entries) c.args.path.now c.args.text.now is
    c.in_ok-unit.unit c.in_err-module.field-0.0 less told c.in_err-module.ensures)

pub returns-clause-alone : goal.returns-clause-alone
returns-clause-alone g c = λ inside within is.
    let less : length c.args.modules.now.entries < c.args.max_modules = omega (arith, c.len.ensures.len, c.if-len-max_modules.false) in
    let told = told_inside inside (g.R.Resolver.answers c.args.resolver.now) c.args.path.now (g.R.Resolver.asked c.args.resolver.now) (g.R.Resolver.asked c.resolve_module.new.self) within
    (Ok c.in_ok-unit.unit) c.in_ok-unit.ensures.asked c.in_ok-unit.ensures.unit in
    module_loaded (only inside (g.R.Resolver.answers c.args.resolver.now)) c.args.max_modules (length c.args.modules.now.entries) c.args.path.now c.args.text.now is
    c.args.modules.now c.insert_module.new.modules c.in_ok-unit.unit c.in_ok-module.«module» refl less told c.in_ok-module.ensures c.in_ok-insert_module.ensures
