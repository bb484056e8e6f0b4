use Rattle.std.proofs.Common.{ap, ◌∙◌}
use Rattle.wgsl_words.specs.declared.operators.UnaryOperator.TheVariants.{Negation}
use Rattle.wgsl_expressions.specs.Tree.{unary}
use Rattle.wgsl_expressions.specs.View.{node_tree}
use Rattle.wgsl_expressions.proofs.Trees.{tree_of_unary, tree_of_literal}
use Rattle.wgsl_to_expr.proofs.literal.negation.Goals as goal

pub returns : goal.returns
returns c = tree_of_unary _ ∙ ap (λ n. unary Negation (node_tree n)) c.in_ok-operand.ensures ∙ ap (unary Negation) (tree_of_literal c.args.number)
