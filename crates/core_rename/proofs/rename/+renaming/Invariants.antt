use Rattle.std.proofs.Common.{◌≡◌, ◌+◌, ◌*◌, map, take, []}
use Rattle.core_syntax.specs.View.{node_tree}
use Rattle.core_link_spec.specs.Linked.{renamed}
use Rattle.core_rename.proofs.rename.+renaming.Given as goal

abbrev pub decreases-renamed_expression : goal.decreases-renamed_expression
decreases-renamed_expression g l = 8 * goal.size-renamed_expression g l

abbrev pub decreases-renamed_node : goal.decreases-renamed_node
decreases-renamed_node g l = 8 * goal.size-renamed_node g l + 1

abbrev pub decreases-renamed_nodes : goal.decreases-renamed_nodes
decreases-renamed_nodes g l = 8 * goal.size-renamed_nodes g l + 2

abbrev pub decreases-renamed_binary : goal.decreases-renamed_binary
decreases-renamed_binary g l = 8 * goal.size-renamed_binary g l + 2

abbrev pub decreases-renamed_template : goal.decreases-renamed_template
decreases-renamed_template g l = 8 * goal.size-renamed_template g l + 3

abbrev pub decreases-renamed_maybe_template : goal.decreases-renamed_maybe_template
decreases-renamed_maybe_template g l = 8 * goal.size-renamed_maybe_template g l + 4

abbrev pub decreases-renamed_type : goal.decreases-renamed_type
decreases-renamed_type g l = 8 * goal.size-renamed_type g l + 5

abbrev pub decreases-renamed_call : goal.decreases-renamed_call
decreases-renamed_call g l = 8 * goal.size-renamed_call g l + 6

abbrev pub invariant-renamed_nodes-loop-node : goal.invariant-renamed_nodes-loop-node
invariant-renamed_nodes-loop-node g l =
    map node_tree l.renamed ≡ map (λ n. renamed (g.N.Naming.gives l.naming) [] (node_tree n)) (take l.node-index l.nodes)

abbrev pub invariant-renamed_template-loop-argument : goal.invariant-renamed_template-loop-argument
invariant-renamed_template-loop-argument g l =
    map (λ a. node_tree a.expression) l.renamed ≡ map (λ a. renamed (g.N.Naming.gives l.naming) [] (node_tree a.expression)) (take l.argument-index l.arguments)
