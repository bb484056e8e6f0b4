use Rattle.std.proofs.Common.{◌+◌, ◌*◌}
use Rattle.wgsl_lower.proofs.folding.calls.+quiet.Given as goal

abbrev pub decreases-is_quiet : goal.decreases-is_quiet
decreases-is_quiet l = 8 * goal.size-is_quiet l

abbrev pub decreases-is_quiet_template : goal.decreases-is_quiet_template
decreases-is_quiet_template l = 8 * goal.size-is_quiet_template l + 1

abbrev pub decreases-is_quiet_call : goal.decreases-is_quiet_call
decreases-is_quiet_call l = 8 * goal.size-is_quiet_call l + 2
