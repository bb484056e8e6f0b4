use Rattle.std.proofs.Common.{◌≡◌, drop}
use Rattle.core_syntax.specs.View.{attributes_tree}
use Rattle.core_eval.specs.Scopes.{scope_of}
use Rattle.core_lower_expressions.specs.Computed as spec
use Rattle.core_lower.proofs.function.lowered_attributes.Given as goal

abbrev pub invariant-loop-node : goal.invariant-loop-node
invariant-loop-node l =
    spec.prepended (attributes_tree l.done) (spec.lowered_attributes (scope_of l.scope) (attributes_tree (drop l.node-index l.nodes))) ≡ spec.lowered_attributes (scope_of l.scope) (attributes_tree l.nodes)
