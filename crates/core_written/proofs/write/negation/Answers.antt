use Rattle.std.proofs.Common.{◌∙◌, ap}
use Rattle.wgsl_words.specs.declared.operators.UnaryOperator.TheVariants.{Negation}
use Rattle.core_syntax.specs.Tree.{unary}
use Rattle.core_syntax.specs.View.{node_tree}
use Rattle.core_syntax.proofs.Trees.{tree_of_unary}
use Rattle.core_written.proofs.write.negation.Goals as goal

pub returns : goal.returns
returns c = tree_of_unary _ ∙ ap (λ n. unary Negation (node_tree n)) c.in_ok-operand.ensures
