use Rattle.std.proofs.Common.{rules, sym, subst, Err}
use Rattle.std.specs.List.{flat_map}
use Rattle.std.proofs.lemmas.Result.{err_from_is_err_and}
use Rattle.std.proofs.lemmas.List.{take_all}
use Rattle.wgsl_declarations.specs.ImportsView.{importing_tree}
use Rattle.wesl_linking_spec.specs.Outlining.{items_of}
use Rattle.wesl_module_index.specs.Naming.{declared_from, IsNamed, AreNamed}
use Rattle.wesl_module_index.proofs.Gathering.{none_named, statement_items, statement_more, statement_refused, place_more_at, place_stops_at}
use Rattle.wesl_module_index.proofs.module.names_of.Goals as goal

pub loop-statement-init : goal.loop-statement-init
loop-statement-init c = (c.in_ok-clone_in.ensures, none_named _ (search rules) (search rules) (λ x. search rules))

pub returns-in_err-add_import : goal.returns-in_err-add_import
returns-in_err-add_import c =
    let p = err_from_is_err_and c.from_residual-in_err-add_import.result c.from_residual-in_err-add_import.ensures.1 in
    rw (p.1, p.2)
    (statement_refused c.args.path.now c.args.imports.now c.loop-statement.names c.loop-statement.statement-index c.statement-item.result c.in_err-add_import.field-0.0
    (declared_from c.args.list.now.names.keys 0 c.args.places.now) c.loop-statement-test.true c.statement-item.is c.loop-statement.invariant.0 c.loop-statement.invariant.1 c.in_err-add_import.ensures)

pub loop-statement-preserved : goal.loop-statement-preserved
loop-statement-preserved c =
    statement_more c.args.path.now c.args.imports.now c.loop-statement.names c.add_import.new.self c.loop-statement.statement-index c.statement-item.result
    c.loop-statement-test.true c.statement-item.is c.loop-statement.invariant.0 c.loop-statement.invariant.1 c.in_ok-add_import.ensures

pub returns-in_err-add_declared : goal.returns-in_err-add_declared
returns-in_err-add_declared c =
    let p = err_from_is_err_and c.from_residual-in_err-add_declared.result c.from_residual-in_err-add_declared.ensures.1 in
    rw (p.1, p.2)
    (subst (λ is. AreNamed c.args.path.now is (declared_from c.args.list.now.names.keys 0 c.args.places.now) (Err c.in_err-add_declared.field-0.0)) (sym (statement_items c.args.path.now c.args.imports.now))
    (place_stops_at c.args.path.now (flat_map (λ s. items_of c.args.path.now (importing_tree s)) c.args.imports.now) c.args.list.now.names.keys c.args.places.now
    c.loop-at.names c.add_declared.new.names c.loop-at.at _ c.in_err-add_declared.field-0.0 c.loop-at-test.true c.loop-at.invariant c.in_err-add_declared.ensures))

pub loop-at-preserved : goal.loop-at-preserved
loop-at-preserved c =
    place_more_at c.args.path.now (flat_map (λ s. items_of c.args.path.now (importing_tree s)) c.args.imports.now) c.args.list.now.names.keys c.args.places.now
    c.loop-at.names c.add_declared.new.names c.loop-at.at _ c.in_ok-add_declared.field-0 c.loop-at-test.true c.loop-at.invariant c.in_ok-add_declared.ensures

pub returns : goal.returns
returns c =
    subst (λ is. IsNamed c.args.path.now is (declared_from c.args.list.now.names.keys 0 c.args.places.now) c.loop-at.names) (sym (statement_items c.args.path.now c.args.imports.now))
    (subst (λ ps. IsNamed c.args.path.now (flat_map (λ s. items_of c.args.path.now (importing_tree s)) c.args.imports.now) (declared_from c.args.list.now.names.keys 0 ps) c.loop-at.names)
    (take_all c.loop-at.at c.args.places.now c.loop-at-test.false) c.loop-at.invariant)
