use Rattle.std.proofs.Common.{rules, ◌≡◌, sym, ap, ◌∙◌, subst, ◌∷◌, drop, ◌+◌, ◌⊎◌, Some, drop_of_length-le}
use Rattle.std.proofs.lemmas.List.{drop_more}
use Rattle.wgsl_statements.specs.View.{statements_tree}
use Rattle.wesl_conditions.specs.declared.features.error.CondCompError.TheVariants.{OutOfMemory}
use Rattle.wesl_conditions.specs.Told.{TellsFault}
use Rattle.wesl_conditions.specs.Seen.{list_fault}
use Rattle.wesl_conditions.specs.Faults.{seen_statements}
use Rattle.wesl_cond.proofs.Passing.{refused_block, ended_block}
use Rattle.wesl_cond.proofs.statements.check.+check.Goals as goal

pub check_block-returns-in_err-check_node : goal.check_block-returns-in_err-check_node
check_block-returns-in_err-check_node t c =
    let items = c.as_slice-node-items.result.now in
    let f = c.args.features.now in
    let told : (list_fault f (seen_statements f (statements_tree c.args.block.now.statements)) ≡ Some c.in_err-check_node.field-0.0) ⊎ (c.in_err-check_node.field-0.0 ≡ OutOfMemory) =
    subst (λ ns. (list_fault f (seen_statements f (statements_tree ns)) ≡ Some c.in_err-check_node.field-0.0) ⊎ (c.in_err-check_node.field-0.0 ≡ OutOfMemory)) c.as_slice-node-items.ensures
    (refused_block f c.loop-node.check.chain c.loop-node.check.inside items (drop c.loop-node.node-index items) (drop (c.loop-node.node-index + 1) items) c.node-item.result
    c.in_err-check_node.field-0.0 c.in_err-check_node.ensures
    (drop_more items c.loop-node.node-index c.node-item.result c.loop-node-test.true ∙ ap (λ y. y ∷ drop (c.loop-node.node-index + 1) items) (sym c.node-item.is)) c.loop-node.invariant) in
    search (rules, told)

pub check_block-returns : goal.check_block-returns
check_block-returns t c =
    let items = c.as_slice-node-items.result.now in
    let f = c.args.features.now in
    subst (λ ns. TellsFault (list_fault f (seen_statements f (statements_tree ns))) c.end.result) c.as_slice-node-items.ensures
    (ended_block f c.loop-node.check.chain c.loop-node.check.inside items (drop c.loop-node.node-index items) c.end.result
    (drop_of_length-le items c.loop-node-test.false) c.loop-node.invariant c.end.ensures)
