use Rattle.std.proofs.Common.{◌≡◌, rules, Err}
use Rattle.wesl_visit_children.specs.Turns.{called_none}
use Rattle.wesl_visit_children.proofs.Loops.{met_more, met_refusal_at}
use Rattle.wesl_visit_children.specs.Parts.{in_declaration_node}
use Rattle.wesl_visit_children.proofs.meet_modules.meet_declarations.Goals as goal

pub loop-declaration-init : goal.loop-declaration-init
loop-declaration-init g c = (search rules, called_none)

pub loop-declaration-preserved : goal.loop-declaration-preserved
loop-declaration-preserved g c = (c.in_ok-meet_declaration.ensures.ready, met_more g.W.ReadParts.at in_declaration_node c.args.w.now c.loop-declaration.w c.meet_declaration.new.w c.args.declarations.now c.loop-declaration.declaration-index c.declaration-item.result c.loop-declaration-test.true c.declaration-item.is c.loop-declaration.invariant.1 (rw c.node.ensures at c.in_ok-meet_declaration.ensures.met))

pub returns-in_err-meet_declaration-clause-met : goal.returns-in_err-meet_declaration-clause-met
returns-in_err-meet_declaration-clause-met g c =
    let same : c.from_residual.result ≡ Err c.in_err-meet_declaration.field-0.0 = search rules in
    rw same (met_refusal_at g.W.ReadParts.at in_declaration_node c.args.w.now c.loop-declaration.w c.meet_declaration.new.w c.in_err-meet_declaration.field-0.0 c.args.declarations.now c.loop-declaration.declaration-index c.declaration-item.result c.loop-declaration-test.true c.declaration-item.is c.loop-declaration.invariant.1 (rw c.node.ensures at c.in_err-meet_declaration.ensures.met))
