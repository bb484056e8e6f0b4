use Rattle.std.proofs.Common.{Some, map}
use Rattle.wgsl_declarations.specs.View as whole
use Rattle.core_syntax.specs.View.{declaration_tree}
use Rattle.core_narrowing.specs.Widening.{widen_decl}
use Rattle.core_widening.proofs.Widened.{all_of, all_there}
use Rattle.core_widening.proofs.declarations.widen_declarations.Goals as goal

pub returns : goal.returns
returns c =
    all_there (λ n. whole.declaration_tree n.node) widen_decl c.loop-node.widened (map (λ n. declaration_tree n.node) c.args.nodes.now)
    (all_of (λ d. Some (widen_decl d)) (λ n. declaration_tree n.node) (λ n. whole.declaration_tree n.node) c.args.nodes.now c.loop-node.node-index c.loop-node.widened c.loop-node-test.false c.loop-node.invariant)
