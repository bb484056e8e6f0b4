use Rattle.core_validate.specs.Rings.{Chain}
use Rattle.core_order.specs.Units.{values_from}
use Rattle.core_order.proofs.Once.{orders_are_one}
use Rattle.core_order.proofs.laws.orders_are_one.Goals as goal

pub returns : goal.returns
returns c = λ rows a b. orders_are_one (Chain rows) (values_from 0 rows) a b
