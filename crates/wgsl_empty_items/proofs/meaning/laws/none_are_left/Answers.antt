use Rattle.wgsl_empty_items.proofs.Modules.{none_is_left, none_is_left_in_block}
use Rattle.wgsl_empty_items.proofs.meaning.laws.none_are_left.Goals as goal

pub returns-clause-unit : goal.returns-clause-unit
returns-clause-unit c u = none_is_left u

pub returns-clause-block : goal.returns-clause-block
returns-clause-block c x = none_is_left_in_block x
