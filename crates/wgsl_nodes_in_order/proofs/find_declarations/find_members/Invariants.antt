use Rattle.std.proofs.Common.{◌≡◌, ◌++◌, drop}
use Rattle.wgsl_nodes_in_order.specs.Found.{nodes}
use Rattle.std.specs.List.{flat_map}
use Rattle.wgsl_declarations.specs.View.{members_tree}
use Rattle.wgsl_nodes_in_order.specs.Nodes.{in_member}
use Rattle.wgsl_nodes_in_order.proofs.find_declarations.find_members.Given as goal

abbrev pub invariant-loop-member : goal.invariant-loop-member
invariant-loop-member l = nodes l.found.items ++ flat_map in_member (members_tree (drop l.member-index l.members)) ≡ nodes l.initial.found.items ++ flat_map in_member (members_tree l.members)
