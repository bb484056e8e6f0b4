use Rattle.std.proofs.Common.{rules, ◌≡◌, Err}
use Rattle.std.specs.Fn.{CalledAt}
use Rattle.wesl_visit_children.specs.Turns.{deep_none}
use Rattle.wesl_visit.specs.Statements.{in_declaration_node, statements_inside}
use Rattle.wesl_visit_children.proofs.DeepLoops.{met_more, met_refusal_at}
use Rattle.wesl_visit.proofs.meet.meet_declarations.Goals as goal

pub loop-declaration-init : goal.loop-declaration-init
loop-declaration-init g c = (search rules, deep_none)

pub loop-declaration-preserved : goal.loop-declaration-preserved
loop-declaration-preserved g c = (c.in_ok-meet_declaration_node.ensures.callable, met_more statements_inside (CalledAt g.F.FnMut) in_declaration_node c.args.f.now c.loop-declaration.f c.meet_declaration_node.new.f c.args.declarations.now c.loop-declaration.declaration-index c.declaration-item.result c.loop-declaration-test.true c.declaration-item.is c.loop-declaration.invariant.1 c.in_ok-meet_declaration_node.ensures.met)

pub returns-in_err-meet_declaration_node-clause-met : goal.returns-in_err-meet_declaration_node-clause-met
returns-in_err-meet_declaration_node-clause-met g c =
    let same : c.from_residual.result ≡ Err c.in_err-meet_declaration_node.field-0.0 = search rules in
    rw same (met_refusal_at statements_inside (CalledAt g.F.FnMut) in_declaration_node c.args.f.now c.loop-declaration.f c.meet_declaration_node.new.f c.in_err-meet_declaration_node.field-0.0 c.args.declarations.now c.loop-declaration.declaration-index c.declaration-item.result c.loop-declaration-test.true c.declaration-item.is c.loop-declaration.invariant.1 c.in_err-meet_declaration_node.ensures.met)
