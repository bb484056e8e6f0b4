use Rattle.wgsl_empty_items.proofs.StatementsLemmas.{statements_true, blocks_true}
use Rattle.wgsl_empty_items.proofs.WithoutEmptyItems.{statements_equal, blocks_equal}
use Rattle.wgsl_empty_items.proofs.equality.statement_laws.statements_without_empty_items_are_equal_where_their_trees_are.Goals as goal

pub returns-clause-statement : goal.returns-clause-statement
returns-clause-statement c = λ a b none none_b. (statements_true a b, statements_equal a b none none_b)

pub returns-clause-block : goal.returns-clause-block
returns-clause-block c = λ a b none none_b. (blocks_true a b, blocks_equal a b none none_b)
