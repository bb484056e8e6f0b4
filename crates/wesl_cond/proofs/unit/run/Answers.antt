use Rattle.wgsl_declarations.specs.View.{unit_tree}
use Rattle.wesl_cond.proofs.Running.{means_the_same, stays_faultless, is_settled}
use Rattle.wesl_cond.proofs.unit.run.Goals as goal

pub returns-clause-meaning : goal.returns-clause-meaning
returns-clause-meaning c = means_the_same c.args.features.now (unit_tree c.args.unit.now) (unit_tree c.settle_unit.new.unit) c.settle_unit.ensures

pub returns-clause-faultless : goal.returns-clause-faultless
returns-clause-faultless c = stays_faultless c.args.features.now (unit_tree c.args.unit.now) (unit_tree c.settle_unit.new.unit) c.settle_unit.ensures c.in_ok-check_unit.ensures

pub returns-clause-settled : goal.returns-clause-settled
returns-clause-settled c = is_settled c.args.features.now (unit_tree c.args.unit.now) (unit_tree c.settle_unit.new.unit) c.settle_unit.ensures
