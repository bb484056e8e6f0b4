use Rattle.std.proofs.Common.{refl, ap, ◌∙◌, Ok, Err}
use Rattle.std.proofs.lemmas.Result.{err_from_is_err_and}
use Rattle.core_syntax.specs.View.{declaration_tree}
use Rattle.core_syntax.specs.declared.declaration.GlobalDeclaration.{GlobalDeclaration}
use Rattle.core_link_spec.specs.Occurrences.{Name, declared_name}
use Rattle.core_scopes.proofs.TableLemmas.{import_step, value_step, whole_table}
use Rattle.core_scopes.proofs.table.meanings_of.Goals as goal

abbrev declared_in : GlobalDeclaration → Name
declared_in d = declared_name (declaration_tree d)

pub returns-in_err-add_meaning : goal.returns-in_err-add_meaning
returns-in_err-add_meaning c =
    let p = err_from_is_err_and c.from_residual-in_err-add_meaning.result c.from_residual-in_err-add_meaning.ensures.1 in
    rw (p.1, p.2)
    (import_step c.args.path.now c.loop-import.meanings c.add_meaning.new.meanings c.args.unit.now c.loop-import.import-index c.import-item.result _ _
    (Err c.in_err-add_meaning.field-0.0) c.loop-import.invariant (rw (← c.as_slice-import-items.ensures) c.loop-import-test.true) (rw (← c.as_slice-import-items.ensures) c.import-item.is)
    c.local_name.ensures c.in_ok-meaning.ensures c.in_err-add_meaning.ensures)

pub loop-import-preserved : goal.loop-import-preserved
loop-import-preserved c =
    import_step c.args.path.now c.loop-import.meanings c.add_meaning.new.meanings c.args.unit.now c.loop-import.import-index c.import-item.result _ _
    (Ok c.in_ok-add_meaning.field-0) c.loop-import.invariant (rw (← c.as_slice-import-items.ensures) c.loop-import-test.true) (rw (← c.as_slice-import-items.ensures) c.import-item.is)
    c.local_name.ensures c.in_ok-meaning.ensures c.in_ok-add_meaning.ensures

pub returns-in_err-add_meaning-2 : goal.returns-in_err-add_meaning-2
returns-in_err-add_meaning-2 c =
    let p = err_from_is_err_and c.from_residual-in_err-add_meaning-2.result c.from_residual-in_err-add_meaning-2.ensures.1 in
    rw (p.1, p.2)
    (value_step c.args.path.now c.loop-place.meanings c.add_meaning-in-loop-place.new.meanings c.args.unit.now c.loop-place.place c.declaration-item.result _ _
    (Err c.in_err-add_meaning-2.field-0.0) c.loop-place.invariant (rw (← c.as_slice-declaration-items.ensures) c.loop-place-test.true) (rw (← c.as_slice-declaration-items.ensures) c.declaration-item.is)
    (c.declared_name-name.ensures ∙ ap declared_in c.node.ensures) refl c.in_err-add_meaning-2.ensures)

pub loop-place-preserved : goal.loop-place-preserved
loop-place-preserved c =
    value_step c.args.path.now c.loop-place.meanings c.add_meaning-in-loop-place.new.meanings c.args.unit.now c.loop-place.place c.declaration-item.result _ _
    (Ok c.in_ok-add_meaning-2.field-0) c.loop-place.invariant (rw (← c.as_slice-declaration-items.ensures) c.loop-place-test.true) (rw (← c.as_slice-declaration-items.ensures) c.declaration-item.is)
    (c.declared_name-name.ensures ∙ ap declared_in c.node.ensures) refl c.in_ok-add_meaning-2.ensures

pub returns : goal.returns
returns c =
    whole_table c.loop-place.meanings c.args.unit.now c.loop-place.place (rw (← c.as_slice-declaration-items.ensures) c.loop-place-test.false)
    (rw (← c.as_slice-declaration-items.ensures) c.loop-place.auto.place-end) c.loop-place.invariant
