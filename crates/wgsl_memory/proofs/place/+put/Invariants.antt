use Rattle.std.proofs.Common.{◌+◌, ◌*◌, length}
use Rattle.wgsl_memory.proofs.place.+put.Given as goal

abbrev pub decreases-put : goal.decreases-put
decreases-put l = 4 * length l.path.now

abbrev pub decreases-put_part : goal.decreases-put_part
decreases-put_part l = 4 * length l.path.now + 1

abbrev pub decreases-put_step : goal.decreases-put_step
decreases-put_step l = 4 * length l.rest.now + 3

abbrev pub decreases-put_member : goal.decreases-put_member
decreases-put_member l = 4 * length l.path.now + 2

abbrev pub decreases-put_element : goal.decreases-put_element
decreases-put_element l = 4 * length l.path.now + 2
