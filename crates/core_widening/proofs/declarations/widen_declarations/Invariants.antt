use Rattle.std.proofs.Common.{◌≡◌, take, map, Some}
use Rattle.wgsl_declarations.specs.View as whole
use Rattle.core_syntax.specs.View.{declaration_tree}
use Rattle.core_narrowing.specs.Widening.{widen_decl}
use Rattle.core_widening.proofs.declarations.widen_declarations.Given as goal

abbrev pub invariant-loop-node : goal.invariant-loop-node
invariant-loop-node l = map (λ n. whole.declaration_tree n.node) l.widened ≡ map (λ n. Some (widen_decl (declaration_tree n.node))) (take l.node-index l.nodes)
