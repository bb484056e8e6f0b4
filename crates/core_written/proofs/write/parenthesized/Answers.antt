use Rattle.std.proofs.Common.{◌∙◌, ap}
use Rattle.core_syntax.specs.Tree.{parenthesized}
use Rattle.core_syntax.specs.View.{node_tree}
use Rattle.core_syntax.proofs.Trees.{tree_of_parenthesized}
use Rattle.core_written.proofs.write.parenthesized.Goals as goal

pub returns : goal.returns
returns c = tree_of_parenthesized _ ∙ ap (λ n. parenthesized (node_tree n)) c.in_ok-expression.ensures
