use Rattle.std.proofs.Common.{◌≡◌, ◌+◌, ◌*◌, map, drop}
use Rattle.core_syntax.specs.Tree.{exps}
use Rattle.core_syntax.specs.View.{node_tree}
use Rattle.core_meaning.specs.Meaning as spec
use Rattle.core_meaning.specs.ConstStage.{stage}
use Rattle.core_eval.specs.Ends.{first_these}
use Rattle.core_eval.specs.Scopes.{scope_of}
use Rattle.core_eval.proofs.typing.+typing.Given as goal

abbrev pub invariant-types-loop-node : goal.invariant-types-loop-node
invariant-types-loop-node l =
    first_these l.done (spec.all_typed (stage (scope_of l.scope)) l.scope.parameters.now (exps (map node_tree (drop l.node-index l.nodes))))
    ≡ spec.all_typed (stage (scope_of l.scope)) l.scope.parameters.now (exps (map node_tree l.nodes))

abbrev pub decreases-eval_ty : goal.decreases-eval_ty
decreases-eval_ty l = 3 * goal.size-eval_ty l

abbrev pub decreases-typed_call : goal.decreases-typed_call
decreases-typed_call l = 3 * goal.size-typed_call l + 2

abbrev pub decreases-types : goal.decreases-types
decreases-types l = 3 * goal.size-types l + 1
