use Rattle.std.proofs.Common.{ap}
use Rattle.core_narrowing.specs.Places as part
use Rattle.core_narrowing.specs.ModulePlaces as places
use Rattle.core_narrowing.proofs.Steps.{statement_more, statement_skipped}
use Rattle.core_narrowing.proofs.PlaceSteps.{one_placed, one_skipped, some_at, none_at}
use Rattle.core_narrowing.proofs.declarations.narrow_statements.Goals.{in-Some+in_ok-new-in-Some+in_ok-push-in-Some, in-None}
use Rattle.core_narrowing.proofs.declarations.narrow_statements.Goals as goal

pub loop-node-preserved : goal.loop-node-preserved
loop-node-preserved c = elim c.match-branch-2.branch [
  | in-Some+in_ok-new-in-Some+in_ok-push-in-Some w ↦ rw w.narrowed-is (
    statement_more c.args.nodes.now c.loop-node.node-index c.node-item.result c.loop-node-test.true c.node-item.is c.loop-node.narrowed _ c.node.result.now c.node.ensures c.in_ok-statement.field-0 c.in_ok-statement.ensures.tree c.loop-node.invariant.0
        w.push.new.self w.in_ok-new-in-Some.field-0 w.in-Some.statement w.in_ok-push-in-Some.ensures.ok (ap (λ x. x.node) w.in_ok-new-in-Some.ensures) w.in-Some.is,
    one_placed (places.at_some places.in_statement) (part.at part.in_statement) c.args.nodes.now c.loop-node.node-index c.node-item.result c.loop-node.narrowed w.push.new.self w.in_ok-new-in-Some.field-0 _ c.loop-node-test.true c.node-item.is w.in_ok-push-in-Some.ensures.ok
        (some_at places.in_statement part.in_statement c.node-item.result w.in_ok-new-in-Some.field-0 c.node.result.now c.in_ok-statement.field-0 w.in-Some.statement c.node.ensures c.in_ok-statement.ensures.places w.in-Some.is w.in_ok-new-in-Some.ensures) c.loop-node.invariant.1,
  )
  | in-None w ↦ rw w.narrowed-is (
    statement_skipped c.args.nodes.now c.loop-node.node-index c.node-item.result c.loop-node-test.true c.node-item.is c.loop-node.narrowed _ c.node.result.now c.node.ensures c.in_ok-statement.field-0 c.in_ok-statement.ensures.tree c.loop-node.invariant.0 w.in-None.is,
    one_skipped (places.at_some places.in_statement) (part.at part.in_statement) c.args.nodes.now c.loop-node.node-index c.node-item.result c.loop-node.narrowed _ c.loop-node-test.true c.node-item.is
        (none_at places.in_statement part.in_statement c.node-item.result c.node.result.now c.in_ok-statement.field-0 c.node.ensures c.in_ok-statement.ensures.places w.in-None.is) c.loop-node.invariant.1,
  )
]
