use Rattle.std.proofs.Common.{◌≡◌, ◌++◌, drop}
use Rattle.wesl_visit_children.specs.Turns.{pointed}
use Rattle.wesl_visit.proofs.find.find_nodes.Given as goal

abbrev pub invariant-loop-node : goal.invariant-loop-node
invariant-loop-node l = pointed l.found.items ++ drop l.node-index l.nodes ≡ pointed l.initial.found.items ++ l.nodes
