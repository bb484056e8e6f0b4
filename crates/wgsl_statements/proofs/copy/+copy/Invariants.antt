use Rattle.std.proofs.Common.{◌≡◌, ◌+◌, ◌*◌, take}
use Rattle.wgsl_statements.proofs.copy.+copy.Given as goal

abbrev pub decreases-StatementCloneIn::clone_in : goal.decreases-StatementCloneIn::clone_in
decreases-StatementCloneIn::clone_in l = 8 * goal.size-StatementCloneIn::clone_in l

abbrev pub decreases-copied_nodes : goal.decreases-copied_nodes
decreases-copied_nodes l = 8 * goal.size-copied_nodes l + 1

abbrev pub decreases-copied_part : goal.decreases-copied_part
decreases-copied_part l = 8 * goal.size-copied_part l + 1

abbrev pub decreases-CompoundStatementCloneIn::clone_in : goal.decreases-CompoundStatementCloneIn::clone_in
decreases-CompoundStatementCloneIn::clone_in l = 8 * goal.size-CompoundStatementCloneIn::clone_in l + 2

abbrev pub decreases-IfClauseCloneIn::clone_in : goal.decreases-IfClauseCloneIn::clone_in
decreases-IfClauseCloneIn::clone_in l = 8 * goal.size-IfClauseCloneIn::clone_in l + 3

abbrev pub decreases-ElseIfClauseCloneIn::clone_in : goal.decreases-ElseIfClauseCloneIn::clone_in
decreases-ElseIfClauseCloneIn::clone_in l = 8 * goal.size-ElseIfClauseCloneIn::clone_in l + 3

abbrev pub decreases-copied_else_ifs : goal.decreases-copied_else_ifs
decreases-copied_else_ifs l = 8 * goal.size-copied_else_ifs l + 4

abbrev pub decreases-ElseClauseCloneIn::clone_in : goal.decreases-ElseClauseCloneIn::clone_in
decreases-ElseClauseCloneIn::clone_in l = 8 * goal.size-ElseClauseCloneIn::clone_in l + 3

abbrev pub decreases-copied_else : goal.decreases-copied_else
decreases-copied_else l = 8 * goal.size-copied_else l + 4

abbrev pub decreases-IfStatementCloneIn::clone_in : goal.decreases-IfStatementCloneIn::clone_in
decreases-IfStatementCloneIn::clone_in l = 8 * goal.size-IfStatementCloneIn::clone_in l + 5

abbrev pub decreases-SwitchClauseCloneIn::clone_in : goal.decreases-SwitchClauseCloneIn::clone_in
decreases-SwitchClauseCloneIn::clone_in l = 8 * goal.size-SwitchClauseCloneIn::clone_in l + 3

abbrev pub decreases-copied_clauses : goal.decreases-copied_clauses
decreases-copied_clauses l = 8 * goal.size-copied_clauses l + 4

abbrev pub decreases-SwitchStatementCloneIn::clone_in : goal.decreases-SwitchStatementCloneIn::clone_in
decreases-SwitchStatementCloneIn::clone_in l = 8 * goal.size-SwitchStatementCloneIn::clone_in l + 5

abbrev pub decreases-ContinuingStatementCloneIn::clone_in : goal.decreases-ContinuingStatementCloneIn::clone_in
decreases-ContinuingStatementCloneIn::clone_in l = 8 * goal.size-ContinuingStatementCloneIn::clone_in l + 3

abbrev pub decreases-copied_continuing : goal.decreases-copied_continuing
decreases-copied_continuing l = 8 * goal.size-copied_continuing l + 4

abbrev pub decreases-LoopStatementCloneIn::clone_in : goal.decreases-LoopStatementCloneIn::clone_in
decreases-LoopStatementCloneIn::clone_in l = 8 * goal.size-LoopStatementCloneIn::clone_in l + 5

abbrev pub decreases-ForStatementCloneIn::clone_in : goal.decreases-ForStatementCloneIn::clone_in
decreases-ForStatementCloneIn::clone_in l = 8 * goal.size-ForStatementCloneIn::clone_in l + 3

abbrev pub decreases-WhileStatementCloneIn::clone_in : goal.decreases-WhileStatementCloneIn::clone_in
decreases-WhileStatementCloneIn::clone_in l = 8 * goal.size-WhileStatementCloneIn::clone_in l + 3

abbrev pub invariant-copied_nodes-loop-node : goal.invariant-copied_nodes-loop-node
invariant-copied_nodes-loop-node l = l.copies ≡ take l.node-index l.nodes

abbrev pub invariant-copied_else_ifs-loop-clause : goal.invariant-copied_else_ifs-loop-clause
invariant-copied_else_ifs-loop-clause l = l.copies ≡ take l.clause-index l.clauses

abbrev pub invariant-copied_clauses-loop-clause : goal.invariant-copied_clauses-loop-clause
invariant-copied_clauses-loop-clause l = l.copies ≡ take l.clause-index l.clauses
