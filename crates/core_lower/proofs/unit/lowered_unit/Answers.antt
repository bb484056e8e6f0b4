use Rattle.std.proofs.Common.{sym, subst}
use Rattle.core_syntax.specs.View.{unit_tree}
use Rattle.core_validate.specs.Lookups.{trees}
use Rattle.core_order.specs.Units.{IsStartOrderOf}
use Rattle.core_lower.proofs.Whole.{is_lowering}
use Rattle.core_lower.proofs.unit.lowered_unit.Goals as goal

pub returns : goal.returns
returns c =
    let u = unit_tree c.args.unit.now in
    is_lowering unit_tree c.args.max_steps u c.as_slice-2.result.now c.lowered_after.result
    (subst (IsStartOrderOf u.declarations) (sym c.as_slice-2.ensures.value) (subst (λ ds. IsStartOrderOf (trees ds) c.in_ok-order.order.items) c.as_slice.ensures c.in_ok-order.ensures))
    c.lowered_after.ensures
