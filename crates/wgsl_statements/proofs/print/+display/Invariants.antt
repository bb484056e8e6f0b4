use Rattle.std.proofs.Common.{◌+◌, ◌*◌, ◌++◌, map, take, codes}
use Rattle.std.specs.List.{flat_map}
use Rattle.std.specs.Fmt.{HasWritten, IsPlainFormatter}
use Rattle.wgsl_simple_statements.specs.ExpressionsView.{node_tree}
use Rattle.wgsl_simple_statements.specs.ExpressionsPrint.{indent}
use Rattle.wgsl_simple_statements.specs.View.{selector_tree}
use Rattle.wgsl_simple_statements.specs.Print.{case_head}
use Rattle.wgsl_statements.specs.View.{statement_tree, block_tree}
use Rattle.wgsl_statements.specs.Print.{head_text, block_text, lines_text}
use Rattle.wgsl_statements.proofs.print.+display.Given as goal

abbrev pub decreases-write_bare : goal.decreases-write_bare
decreases-write_bare g l = 8 * goal.size-write_bare g l

abbrev pub decreases-write_statement : goal.decreases-write_statement
decreases-write_statement g l = 8 * goal.size-write_statement g l + 1

abbrev pub decreases-write_part : goal.decreases-write_part
decreases-write_part g l = 8 * goal.size-write_part g l + 1

abbrev pub decreases-write_statements : goal.decreases-write_statements
decreases-write_statements g l = 8 * goal.size-write_statements g l + 2

abbrev pub decreases-write_block_pieces : goal.decreases-write_block_pieces
decreases-write_block_pieces g l = 8 * goal.size-write_block_pieces g l + 3

abbrev pub decreases-write_block : goal.decreases-write_block
decreases-write_block g l = 8 * goal.size-write_block g l + 4

abbrev pub decreases-write_continuing : goal.decreases-write_continuing
decreases-write_continuing g l = 8 * goal.size-write_continuing g l + 5

abbrev pub decreases-write_optional_continuing : goal.decreases-write_optional_continuing
decreases-write_optional_continuing g l = 8 * goal.size-write_optional_continuing g l + 6

abbrev pub decreases-write_else : goal.decreases-write_else
decreases-write_else g l = 8 * goal.size-write_else g l + 5

abbrev pub decreases-write_loop : goal.decreases-write_loop
decreases-write_loop g l = 8 * goal.size-write_loop g l + 7

abbrev pub decreases-write_else_ifs : goal.decreases-write_else_ifs
decreases-write_else_ifs g l = 8 * goal.size-write_else_ifs g l + 5

abbrev pub decreases-write_if : goal.decreases-write_if
decreases-write_if g l = 8 * goal.size-write_if g l + 6

abbrev pub decreases-write_clauses : goal.decreases-write_clauses
decreases-write_clauses g l = 8 * goal.size-write_clauses g l + 5

abbrev pub decreases-write_switch : goal.decreases-write_switch
decreases-write_switch g l = 8 * goal.size-write_switch g l + 6

abbrev pub decreases-write_for : goal.decreases-write_for
decreases-write_for g l = 8 * goal.size-write_for g l + 5

abbrev pub decreases-write_while : goal.decreases-write_while
decreases-write_while g l = 8 * goal.size-write_while g l + 5

abbrev pub invariant-write_statements-loop-statement : goal.invariant-write_statements-loop-statement
invariant-write_statements-loop-statement g l =
    IsPlainFormatter l.initial.f
    → HasWritten g.W.Write.write_str_gives l.initial.f (flat_map (λ n. lines_text l.level (statement_tree n.node)) (take l.statement-index l.statements)) l.f

abbrev pub invariant-write_else_ifs-loop-clause : goal.invariant-write_else_ifs-loop-clause
invariant-write_else_ifs-loop-clause g l =
    IsPlainFormatter l.initial.f
    → HasWritten g.W.Write.write_str_gives l.initial.f (flat_map (λ c. codes " " ++ head_text (codes "else if ") (node_tree c.expression) ++ block_text l.level (block_tree c.body)) (take l.clause-index l.clauses)) l.f

abbrev pub invariant-write_clauses-loop-clause : goal.invariant-write_clauses-loop-clause
invariant-write_clauses-loop-clause g l =
    IsPlainFormatter l.initial.f
    → HasWritten g.W.Write.write_str_gives l.initial.f (flat_map (λ c. indent l.level ++ case_head (map selector_tree c.case_selectors) ++ codes ": " ++ block_text l.level (block_tree c.body) ++ codes "\n") (take l.clause-index l.clauses)) l.f
