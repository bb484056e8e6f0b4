use Rattle.std.proofs.Common.{◌≡◌, ◌++◌, drop}
use Rattle.wesl_visit_children.specs.Listed.{parts}
use Rattle.std.specs.List.{flat_map}
use Rattle.wesl_visit_children.specs.Parts.{in_member_node}
use Rattle.wesl_visit_children.proofs.find_modules.find_members.Given as goal

abbrev pub invariant-loop-member : goal.invariant-loop-member
invariant-loop-member l = parts l.found.items ++ flat_map in_member_node (drop l.member-index l.members) ≡ parts l.initial.found.items ++ flat_map in_member_node l.members
