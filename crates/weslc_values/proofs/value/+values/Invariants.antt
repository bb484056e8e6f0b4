use Rattle.std.proofs.Common.{◌+◌, ◌*◌}
use Rattle.weslc_values.proofs.value.+values.Given as goal

abbrev pub decreases-read_value : goal.decreases-read_value
decreases-read_value l = 8 * goal.size-read_value l

abbrev pub decreases-read_values : goal.decreases-read_values
decreases-read_values l = 8 * goal.size-read_values l + 1
