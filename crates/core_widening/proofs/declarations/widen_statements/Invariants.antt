use Rattle.std.proofs.Common.{◌≡◌, take, map, Some}
use Rattle.wgsl_statements.specs.View as whole
use Rattle.core_syntax.specs.View.{statement_tree}
use Rattle.core_narrowing.specs.Widening.{widen_stm}
use Rattle.core_widening.proofs.declarations.widen_statements.Given as goal

abbrev pub invariant-loop-node : goal.invariant-loop-node
invariant-loop-node l = map (λ n. whole.statement_tree n.node) l.widened ≡ map (λ n. Some (widen_stm (statement_tree n.node))) (take l.node-index l.nodes)
