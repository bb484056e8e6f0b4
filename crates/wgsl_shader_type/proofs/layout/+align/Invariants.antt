use Rattle.std.proofs.Common.{◌≡◌, ◌+◌, ◌*◌, drop}
use Rattle.wgsl_shader_type.specs.LayoutOf.{largest_after, align_of}
use Rattle.wgsl_shader_type.proofs.layout.+align.Given as goal

abbrev pub decreases-alignment : goal.decreases-alignment
decreases-alignment l = 8 * goal.size-alignment l

abbrev pub decreases-member_align : goal.decreases-member_align
decreases-member_align l = 8 * goal.size-member_align l + 2

abbrev pub decreases-largest_align : goal.decreases-largest_align
decreases-largest_align l = 8 * goal.size-largest_align l + 3

abbrev pub invariant-largest_align-loop-member : goal.invariant-largest_align-loop-member
invariant-largest_align-loop-member l =
    largest_after align_of 0 l.members ≡ largest_after align_of l.largest (drop l.member-index l.members)
