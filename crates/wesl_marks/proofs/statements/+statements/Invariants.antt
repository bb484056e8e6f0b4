use Rattle.std.proofs.Common.{◌≡◌, ◌+◌, ◌*◌, ◌++◌, drop}
use Rattle.wesl_mark.specs.Lists.{flats, OnlyGrows}
use Rattle.wgsl_statements.specs.View.{statement_tree, statements_tree, elses_layer, clauses_layer}
use Rattle.wesl_marks.specs.Laid.{in_stms, in_elses, in_clauses}
use Rattle.wesl_marks.proofs.statements.+statements.Given as goal

abbrev pub decreases-mark_statement : goal.decreases-mark_statement
decreases-mark_statement l = 8 * goal.size-mark_statement l + 0

abbrev pub decreases-mark_statements : goal.decreases-mark_statements
decreases-mark_statements l = 8 * goal.size-mark_statements l + 1

abbrev pub decreases-mark_part : goal.decreases-mark_part
decreases-mark_part l = 8 * goal.size-mark_part l + 1

abbrev pub decreases-mark_block : goal.decreases-mark_block
decreases-mark_block l = 8 * goal.size-mark_block l + 2

abbrev pub decreases-mark_continuing : goal.decreases-mark_continuing
decreases-mark_continuing l = 8 * goal.size-mark_continuing l + 2

abbrev pub decreases-mark_if : goal.decreases-mark_if
decreases-mark_if l = 8 * goal.size-mark_if l + 3

abbrev pub decreases-mark_switch : goal.decreases-mark_switch
decreases-mark_switch l = 8 * goal.size-mark_switch l + 3

abbrev pub decreases-mark_loop : goal.decreases-mark_loop
decreases-mark_loop l = 8 * goal.size-mark_loop l + 3

abbrev pub decreases-mark_for : goal.decreases-mark_for
decreases-mark_for l = 8 * goal.size-mark_for l + 3

abbrev pub decreases-mark_while : goal.decreases-mark_while
decreases-mark_while l = 8 * goal.size-mark_while l + 3

abbrev pub invariant-mark_statements-loop-statement : goal.invariant-mark_statements-loop-statement
invariant-mark_statements-loop-statement l = (flats l.list ++ in_stms (statements_tree (drop l.statement-index l.statements)) ≡ flats l.initial.list ++ in_stms (statements_tree l.statements)) × OnlyGrows l.initial.list l.list

abbrev pub invariant-mark_if-loop-clause : goal.invariant-mark_if-loop-clause
invariant-mark_if-loop-clause l = (flats l.list ++ in_elses (elses_layer statement_tree (drop l.clause-index l.x.else_if_clauses) l.x.else_clause) ≡ flats l.initial.list ++ in_elses (elses_layer statement_tree l.x.else_if_clauses l.x.else_clause)) × OnlyGrows l.initial.list l.list

abbrev pub invariant-mark_switch-loop-clause : goal.invariant-mark_switch-loop-clause
invariant-mark_switch-loop-clause l = (flats l.list ++ in_clauses (clauses_layer statement_tree (drop l.clause-index l.x.clauses)) ≡ flats l.initial.list ++ in_clauses (clauses_layer statement_tree l.x.clauses)) × OnlyGrows l.initial.list l.list

abbrev pub decreases-mark_header : goal.decreases-mark_header
decreases-mark_header l = 8 * goal.size-mark_header l + 2
