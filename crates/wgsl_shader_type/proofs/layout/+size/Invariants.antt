use Rattle.std.proofs.Common.{◌≡◌, ◌+◌, ◌*◌, drop}
use Rattle.wgsl_shader_type.specs.LayoutOf.{end_after, align_of, size_of}
use Rattle.wgsl_shader_type.proofs.layout.+size.Given as goal

abbrev pub decreases-size_counting : goal.decreases-size_counting
decreases-size_counting l = 8 * goal.size-size_counting l

abbrev pub decreases-member_end : goal.decreases-member_end
decreases-member_end l = 8 * goal.size-member_end l + 2

abbrev pub decreases-members_end : goal.decreases-members_end
decreases-members_end l = 8 * goal.size-members_end l + 3

abbrev pub invariant-members_end-loop-member : goal.invariant-members_end-loop-member
invariant-members_end-loop-member l =
    end_after align_of (size_of l.unsized_count) 0 l.members ≡ end_after align_of (size_of l.unsized_count) l.end (drop l.member-index l.members)
