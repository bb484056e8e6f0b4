-- Each declaration up to the first that no text derives.
use Rattle.std.proofs.Common.{Decides, IfOk, subst}
use Rattle.wgsl_declarations.specs.declared.declaration.GlobalDeclaration.{GlobalDeclaration}
use Rattle.wgsl_declarations.specs.View.{declaration_tree}
use Rattle.wgsl_read_back.specs.Alone.{at_most_one}
use Rattle.wgsl_read_back.specs.Derivable.{IsDerivable}
use Rattle.wgsl_check_unit.specs.Telling.{IsToldIn}
use Rattle.wgsl_check_unit.proofs.Telling.{told_here, told_later, told_none, if_ok}
use Rattle.wgsl_check_unit.proofs.told.told.Goals as goal

pub returns-then-not-branch : goal.returns-then-not-branch
returns-then-not-branch c =
    let P : GlobalDeclaration → Type 0 = λ z. IfOk c.told_in.result (IsToldIn (declaration_tree z)) in
    if_ok c.told_in.result (told_here c.args.declarations.now c.loop-declaration.declaration-index c.declaration-item.result c.loop-declaration-test.true c.declaration-item.is c.loop-declaration.invariant
    c.in_ok-is_declaration_derivable.field-0 (let Q : GlobalDeclaration → Type 0 = λ z. Decides c.in_ok-is_declaration_derivable.field-0 (IsDerivable (at_most_one (declaration_tree z))) in subst Q c.node.ensures c.in_ok-is_declaration_derivable.ensures) c.if-not-branch.true) (subst P c.node-then-not-branch.ensures c.told_in.ensures)

pub loop-declaration-preserved : goal.loop-declaration-preserved
loop-declaration-preserved c =
    told_later c.args.declarations.now c.loop-declaration.declaration-index c.declaration-item.result c.loop-declaration-test.true c.declaration-item.is c.loop-declaration.invariant
    c.in_ok-is_declaration_derivable.field-0 (let Q : GlobalDeclaration → Type 0 = λ z. Decides c.in_ok-is_declaration_derivable.field-0 (IsDerivable (at_most_one (declaration_tree z))) in subst Q c.node.ensures c.in_ok-is_declaration_derivable.ensures) c.if-not-branch.false

pub returns : goal.returns
returns c = told_none c.args.declarations.now c.loop-declaration.declaration-index c.loop-declaration.invariant c.loop-declaration-test.false
