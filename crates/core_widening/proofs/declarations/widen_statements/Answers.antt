use Rattle.std.proofs.Common.{ap, ◌∙◌, map, Some}
use Rattle.wgsl_statements.specs.View as whole
use Rattle.wgsl_statements.specs.View.{stms}
use Rattle.core_syntax.specs.View.{statement_tree}
use Rattle.core_narrowing.specs.Widening.{widen_stm}
use Rattle.core_widening.proofs.Widened.{all_of, stms_of}
use Rattle.core_widening.proofs.declarations.widen_statements.Goals as goal

pub returns : goal.returns
returns c =
    ap stms (all_of (λ s. Some (widen_stm s)) (λ n. statement_tree n.node) (λ n. whole.statement_tree n.node) c.args.nodes.now c.loop-node.node-index c.loop-node.widened c.loop-node-test.false c.loop-node.invariant)
    ∙ stms_of (map (λ n. statement_tree n.node) c.args.nodes.now)
