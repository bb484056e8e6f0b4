use Rattle.std.proofs.Common.{◌≡◌, drop, map}
use Rattle.wgsl_declarations.specs.View.{members_tree}
use Rattle.wesl_cond_left.specs.Open.{members_open}
use Rattle.wesl_cond_left.proofs.unit.in_members.Given as goal

abbrev pub invariant-loop-member : goal.invariant-loop-member
invariant-loop-member l = members_open (members_tree (drop l.member-index l.member-items)) ≡ members_open (members_tree l.member-items)
