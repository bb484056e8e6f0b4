use Rattle.std.proofs.Common.{◌≡◌, drop}
use Rattle.core_syntax.specs.View.{attributes_tree}
use Rattle.core_lower_expressions.specs.Runs.{has_stage}
use Rattle.core_lower.proofs.function.has_stage.Given as goal

abbrev pub invariant-loop-node : goal.invariant-loop-node
invariant-loop-node l = has_stage (attributes_tree (drop l.node-index l.nodes)) ≡ has_stage (attributes_tree l.nodes)
