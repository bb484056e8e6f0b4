use Rattle.std.proofs.Common.{◌+◌, ◌*◌}
use Rattle.wesl_check_names.proofs.statements.+statements.Given as goal

abbrev pub decreases-walk_statement : goal.decreases-walk_statement
decreases-walk_statement l = 8 * goal.size-walk_statement l + 0

abbrev pub decreases-walk_statements : goal.decreases-walk_statements
decreases-walk_statements l = 8 * goal.size-walk_statements l + 1

abbrev pub decreases-walk_part : goal.decreases-walk_part
decreases-walk_part l = 8 * goal.size-walk_part l + 1

abbrev pub decreases-walk_block : goal.decreases-walk_block
decreases-walk_block l = 8 * goal.size-walk_block l + 2

abbrev pub decreases-walk_continuing : goal.decreases-walk_continuing
decreases-walk_continuing l = 8 * goal.size-walk_continuing l + 2

abbrev pub decreases-walk_if : goal.decreases-walk_if
decreases-walk_if l = 8 * goal.size-walk_if l + 3

abbrev pub decreases-walk_switch : goal.decreases-walk_switch
decreases-walk_switch l = 8 * goal.size-walk_switch l + 3

abbrev pub decreases-walk_loop : goal.decreases-walk_loop
decreases-walk_loop l = 8 * goal.size-walk_loop l + 3

abbrev pub decreases-walk_for : goal.decreases-walk_for
decreases-walk_for l = 8 * goal.size-walk_for l + 3

abbrev pub decreases-walk_while : goal.decreases-walk_while
decreases-walk_while l = 8 * goal.size-walk_while l + 3
