use Rattle.std.proofs.Common.{◌≡◌, ◌+◌, ◌*◌, drop}
use Rattle.wgsl_instance.specs.Answer.{IsCollecting}
use Rattle.wgsl_instance.specs.Zero.{zero_member}
use Rattle.wgsl_instance.proofs.+zero.Given as goal

abbrev pub decreases-tree::Instance::zero_value : goal.decreases-tree::Instance::zero_value
decreases-tree::Instance::zero_value l = 8 * goal.size-tree::Instance::zero_value l

abbrev pub decreases-zero::zero_array : goal.decreases-zero::zero_array
decreases-zero::zero_array l = 8 * goal.size-zero::zero_array l + 1

abbrev pub decreases-zero::zero_members : goal.decreases-zero::zero_members
decreases-zero::zero_members l = 8 * goal.size-zero::zero_members l + 3

abbrev pub decreases-zero::zero_struct : goal.decreases-zero::zero_struct
decreases-zero::zero_struct l = 8 * goal.size-zero::zero_struct l + 4

abbrev pub invariant-zero::zero_members-loop-member : goal.invariant-zero::zero_members-loop-member
invariant-zero::zero_members-loop-member l = IsCollecting zero_member l.members l.zeros (drop l.member-index l.members)
