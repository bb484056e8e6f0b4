use Rattle.std.proofs.Common.{◌≡◌, ◌+◌, ◌*◌, drop}
use Rattle.std.specs.Cmp.Lexicographic.{pointwise}
use Rattle.wgsl_shader_type.specs.Alike.{same, same_member}
use Rattle.wgsl_shader_type.proofs.alike.+alike.Given as goal

abbrev pub decreases-are_alike : goal.decreases-are_alike
decreases-are_alike l = 8 * goal.size-are_alike l

abbrev pub decreases-is_member_alike : goal.decreases-is_member_alike
decreases-is_member_alike l = 8 * goal.size-is_member_alike l + 2

abbrev pub decreases-are_members_alike : goal.decreases-are_members_alike
decreases-are_members_alike l = 8 * goal.size-are_members_alike l + 3

abbrev pub decreases-are_structs_alike : goal.decreases-are_structs_alike
decreases-are_structs_alike l = 8 * goal.size-are_structs_alike l + 4

abbrev pub invariant-are_members_alike-loop-i : goal.invariant-are_members_alike-loop-i
invariant-are_members_alike-loop-i l =
    pointwise (same_member same) l.a l.b ≡ pointwise (same_member same) (drop l.i l.a) (drop l.i l.b)
