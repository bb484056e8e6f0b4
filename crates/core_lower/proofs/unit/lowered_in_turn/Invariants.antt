use Rattle.std.proofs.Common.{◌≡◌, drop, []}
use Rattle.core_eval.specs.Scopes.{decls, scope_of}
use Rattle.core_lower_expressions.specs.Computed as spec
use Rattle.core_lower.proofs.unit.lowered_in_turn.Given as goal

abbrev pub invariant-loop-node : goal.invariant-loop-node
invariant-loop-node l =
    spec.all_pushed (scope_of l.scope) (decls l.done) (decls (drop l.node-index l.nodes)) ≡ spec.all_pushed (scope_of l.scope) [] (decls l.nodes)
