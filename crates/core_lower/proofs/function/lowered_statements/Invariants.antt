use Rattle.std.proofs.Common.{◌≡◌, drop, map}
use Rattle.std.specs.Option.{option_map}
use Rattle.core_syntax.specs.View.{statement_tree, type_tree}
use Rattle.core_eval.specs.Scopes.{scope_of}
use Rattle.core_lower_expressions.specs.Computed as spec
use Rattle.core_lower.proofs.function.lowered_statements.Given as goal

abbrev pub invariant-loop-node : goal.invariant-loop-node
invariant-loop-node l =
    spec.prepended (map (λ n. statement_tree n.node) l.done) (spec.lowered_statements (scope_of l.scope) (option_map type_tree l.ty) (map (λ n. statement_tree n.node) (drop l.node-index l.nodes)))
    ≡ spec.lowered_statements (scope_of l.scope) (option_map type_tree l.ty) (map (λ n. statement_tree n.node) l.nodes)
