use Rattle.std.proofs.Common.{ap, ◌∙◌}
use Rattle.wgsl_expressions.specs.Tree.{parenthesized}
use Rattle.wgsl_expressions.specs.View.{node_tree}
use Rattle.wgsl_expressions.proofs.Trees.{tree_of_parenthesized}
use Rattle.wgsl_to_expr.proofs.literal.parenthesized.Goals as goal

pub returns : goal.returns
returns c = tree_of_parenthesized _ ∙ ap (λ n. parenthesized (node_tree n)) c.in_ok-expression.ensures
