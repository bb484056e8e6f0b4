-- A unit is lowered in one way, since it has one order of the start.
use Rattle.std.proofs.Common.{◌≡◌, sym, ap, ◌∙◌}
use Rattle.core_validate.specs.Rings.{Chain}
use Rattle.core_order.specs.Units.{rows_of, values_from}
use Rattle.core_order.proofs.Once.{orders_are_one}
use Rattle.core_lower_expressions.specs.Lowered.{lowered_after}
use Rattle.core_lower.specs.Once.{LoweredOnce}

pub lowered_once : LoweredOnce
lowered_once steps unit one other a b =
    let rows = rows_of unit.declarations in
    let same : a.order ≡ b.order = orders_are_one (Chain rows) (values_from 0 rows) a.order b.order a.is_order b.is_order in
    sym a.comes ∙ ap (λ order. lowered_after steps order unit) same ∙ b.comes
