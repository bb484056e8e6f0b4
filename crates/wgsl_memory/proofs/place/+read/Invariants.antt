use Rattle.std.proofs.Common.{◌+◌, ◌*◌, length}
use Rattle.wgsl_memory.proofs.place.+read.Given as goal

abbrev pub decreases-read_path : goal.decreases-read_path
decreases-read_path l = 4 * length l.path.now

abbrev pub decreases-read_part : goal.decreases-read_part
decreases-read_part l = 4 * length l.path.now + 1

abbrev pub decreases-read_step : goal.decreases-read_step
decreases-read_step l = 4 * length l.rest.now + 2
