use Rattle.std.proofs.Common.{◌≡◌, ◌++◌, drop, map}
use Rattle.wgsl_nodes_in_order.specs.Found.{nodes}
use Rattle.std.specs.List.{flat_map}
use Rattle.wgsl_simple_statements.specs.View.{selector_tree}
use Rattle.wgsl_nodes_in_order.specs.Nodes.{in_selector}
use Rattle.wgsl_nodes_in_order.proofs.find_statements.find_selectors.Given as goal

abbrev pub invariant-loop-selector : goal.invariant-loop-selector
invariant-loop-selector l = nodes l.found.items ++ flat_map in_selector (map selector_tree (drop l.selector-index l.selectors)) ≡ nodes l.initial.found.items ++ flat_map in_selector (map selector_tree l.selectors)
