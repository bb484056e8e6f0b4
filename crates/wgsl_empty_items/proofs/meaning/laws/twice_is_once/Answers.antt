use Rattle.wgsl_empty_items.proofs.Modules.{twice_is_once as law, statement_twice_is_once, block_twice_is_once}
use Rattle.wgsl_empty_items.proofs.meaning.laws.twice_is_once.Goals as goal

pub returns-clause-unit : goal.returns-clause-unit
returns-clause-unit c u = law u

pub returns-clause-statement : goal.returns-clause-statement
returns-clause-statement c s = statement_twice_is_once s

pub returns-clause-block : goal.returns-clause-block
returns-clause-block c x = block_twice_is_once x
