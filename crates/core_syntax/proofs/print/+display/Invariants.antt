use Rattle.std.proofs.Common.{◌+◌, ◌*◌, ◌++◌, take, codes}
use Rattle.std.specs.List.{flat_map}
use Rattle.std.specs.Fmt.{HasWritten, IsPlainFormatter}
use Rattle.core_syntax.specs.View.{node_tree}
use Rattle.core_syntax.specs.Print.{exp_text}
use Rattle.core_syntax.proofs.print.+display.Given as goal

abbrev pub decreases-ExpressionDisplay::fmt : goal.decreases-ExpressionDisplay::fmt
decreases-ExpressionDisplay::fmt g l = 8 * goal.size-ExpressionDisplay::fmt g l

abbrev pub decreases-ParenthesizedExpressionDisplay::fmt : goal.decreases-ParenthesizedExpressionDisplay::fmt
decreases-ParenthesizedExpressionDisplay::fmt g l = 8 * goal.size-ParenthesizedExpressionDisplay::fmt g l + 1

abbrev pub decreases-UnaryExpressionDisplay::fmt : goal.decreases-UnaryExpressionDisplay::fmt
decreases-UnaryExpressionDisplay::fmt g l = 8 * goal.size-UnaryExpressionDisplay::fmt g l + 1

abbrev pub decreases-BinaryExpressionDisplay::fmt : goal.decreases-BinaryExpressionDisplay::fmt
decreases-BinaryExpressionDisplay::fmt g l = 8 * goal.size-BinaryExpressionDisplay::fmt g l + 1

abbrev pub decreases-write_nodes : goal.decreases-write_nodes
decreases-write_nodes g l = 8 * goal.size-write_nodes g l + 1

abbrev pub decreases-write_arguments : goal.decreases-write_arguments
decreases-write_arguments g l = 8 * goal.size-write_arguments g l + 1

abbrev pub decreases-write_expressions : goal.decreases-write_expressions
decreases-write_expressions g l = 8 * goal.size-write_expressions g l + 2

abbrev pub decreases-write_template : goal.decreases-write_template
decreases-write_template g l = 8 * goal.size-write_template g l + 3

abbrev pub decreases-write_template_arguments : goal.decreases-write_template_arguments
decreases-write_template_arguments g l = 8 * goal.size-write_template_arguments g l + 2

abbrev pub decreases-write_brackets : goal.decreases-write_brackets
decreases-write_brackets g l = 8 * goal.size-write_brackets g l + 4

abbrev pub decreases-write_type : goal.decreases-write_type
decreases-write_type g l = 8 * goal.size-write_type g l + 5

abbrev pub decreases-TypeExpressionDisplay::fmt : goal.decreases-TypeExpressionDisplay::fmt
decreases-TypeExpressionDisplay::fmt g l = 8 * goal.size-TypeExpressionDisplay::fmt g l + 6

abbrev pub decreases-FunctionCallDisplay::fmt : goal.decreases-FunctionCallDisplay::fmt
decreases-FunctionCallDisplay::fmt g l = 8 * goal.size-FunctionCallDisplay::fmt g l + 7

abbrev pub invariant-write_nodes-loop-node : goal.invariant-write_nodes-loop-node
invariant-write_nodes-loop-node g l =
    IsPlainFormatter l.initial.f
    → HasWritten g.W.Write.write_str_gives l.initial.f (flat_map (λ n. codes ", " ++ exp_text (node_tree n)) (take l.node-index l.rest)) l.f

abbrev pub invariant-write_arguments-loop-argument : goal.invariant-write_arguments-loop-argument
invariant-write_arguments-loop-argument g l =
    IsPlainFormatter l.initial.f
    → HasWritten g.W.Write.write_str_gives l.initial.f (flat_map (λ a. codes ", " ++ exp_text (node_tree a.expression)) (take l.argument-index l.rest)) l.f
