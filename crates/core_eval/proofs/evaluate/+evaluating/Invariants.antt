use Rattle.std.proofs.Common.{◌≡◌, ◌+◌, ◌*◌, [], map, drop}
use Rattle.core_syntax.specs.Tree.{exps}
use Rattle.core_syntax.specs.View.{node_tree}
use Rattle.core_meaning.specs.Meaning as spec
use Rattle.core_meaning.specs.ConstStage.{stage}
use Rattle.core_eval.specs.Ends.{first_these}
use Rattle.core_eval.specs.Scopes.{scope_of}
use Rattle.core_eval.proofs.evaluate.+evaluating.Given as goal

abbrev pub invariant-values-loop-node : goal.invariant-values-loop-node
invariant-values-loop-node l =
    first_these l.done (spec.values (stage (scope_of l.scope)) [] (exps (map node_tree (drop l.node-index l.nodes))))
    ≡ spec.values (stage (scope_of l.scope)) [] (exps (map node_tree l.nodes))

abbrev pub decreases-eval_value : goal.decreases-eval_value
decreases-eval_value l = 3 * goal.size-eval_value l

abbrev pub decreases-call_value : goal.decreases-call_value
decreases-call_value l = 3 * goal.size-call_value l + 2

abbrev pub decreases-values : goal.decreases-values
decreases-values l = 3 * goal.size-values l + 1
