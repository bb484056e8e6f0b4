use Rattle.std.proofs.Common.{◌+◌, ◌*◌, length}
use Rattle.wgsl_memory.proofs.view.+count.Given as goal

abbrev pub decreases-count_at : goal.decreases-count_at
decreases-count_at l = 4 * length l.path.now

abbrev pub decreases-count_at_position : goal.decreases-count_at_position
decreases-count_at_position l = 4 * length l.path.now + 1

abbrev pub decreases-count_in_part : goal.decreases-count_in_part
decreases-count_in_part l = 4 * length l.rest.now + 2
