use Rattle.wgsl_empty_items.proofs.Modules.{tree_stays, statement_tree_stays, block_tree_stays}
use Rattle.wgsl_empty_items.proofs.meaning.laws.trees_stay.Goals as goal

pub returns-clause-unit : goal.returns-clause-unit
returns-clause-unit c u = tree_stays u

pub returns-clause-statement : goal.returns-clause-statement
returns-clause-statement c s = statement_tree_stays s

pub returns-clause-block : goal.returns-clause-block
returns-clause-block c x = block_tree_stays x
