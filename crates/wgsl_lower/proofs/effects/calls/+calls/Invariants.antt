use Rattle.std.proofs.Common.{◌+◌, ◌*◌}
use Rattle.wgsl_lower.proofs.effects.calls.+calls.Given as goal

abbrev pub decreases-calls : goal.decreases-calls
decreases-calls l = 8 * goal.size-calls l

abbrev pub decreases-calls_in_any : goal.decreases-calls_in_any
decreases-calls_in_any l = 8 * goal.size-calls_in_any l + 2

abbrev pub decreases-calls_in_template : goal.decreases-calls_in_template
decreases-calls_in_template l = 8 * goal.size-calls_in_template l + 3

abbrev pub decreases-calls_in_call : goal.decreases-calls_in_call
decreases-calls_in_call l = 8 * goal.size-calls_in_call l + 5
