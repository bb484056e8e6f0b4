use Rattle.wgsl_empty_items.proofs.StatementsLemmas.{statements_true, blocks_true}
use Rattle.wgsl_empty_items.proofs.equality.statement_laws.equal_statements_have_one_tree.Goals as goal

pub returns-clause-statement : goal.returns-clause-statement
returns-clause-statement c = statements_true

pub returns-clause-block : goal.returns-clause-block
returns-clause-block c = blocks_true
