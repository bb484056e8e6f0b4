use Rattle.std.proofs.Common.{◌≡◌, map}
use Rattle.std.proofs.lemmas.Result.{IfOk-weaker}
use Rattle.core_validate.specs.Scopes.{row_of}
use Rattle.core_validate.specs.Lookups.{lookup, trees}
use Rattle.core_order.specs.Units.{rows_of}
use Rattle.core_order.proofs.Positions.{rows_are}
use Rattle.core_order.proofs.index.unit_rows.Goals as goal

pub returns : goal.returns
returns c =
    let ds = c.args.declarations.now in
    IfOk-weaker c.rows.result (λ made. made ≡ map (row_of (lookup c.in_ok-index.index)) (trees ds)) (λ made. made ≡ rows_of (trees ds))
    (λ made h. rows_are ds (lookup c.in_ok-index.index) made (λ x. c.in_ok-index.ensures x) h) c.rows.ensures
