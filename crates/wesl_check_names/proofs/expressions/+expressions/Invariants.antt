use Rattle.std.proofs.Common.{◌+◌, ◌*◌}
use Rattle.wesl_check_names.proofs.expressions.+expressions.Given as goal

abbrev pub decreases-walk_expression : goal.decreases-walk_expression
decreases-walk_expression l = 8 * goal.size-walk_expression l + 0

abbrev pub decreases-walk_values : goal.decreases-walk_values
decreases-walk_values l = 8 * goal.size-walk_values l + 1

abbrev pub decreases-walk_templates : goal.decreases-walk_templates
decreases-walk_templates l = 8 * goal.size-walk_templates l + 2

abbrev pub decreases-walk_type : goal.decreases-walk_type
decreases-walk_type l = 8 * goal.size-walk_type l + 3

abbrev pub decreases-walk_call : goal.decreases-walk_call
decreases-walk_call l = 8 * goal.size-walk_call l + 4
