-- What holds of the order in which values are started, of whatever units.
use Rattle.std.specs.Prelude.{◌≡◌, ℕ, List}
use Rattle.core_validate.specs.declared.place.Row.{Row}
use Rattle.core_order.specs.Units.{IsStartOf}

-- there is one
abbrev pub OrdersAreOne : Type 0
OrdersAreOne = (rows : List Row) (a b : List ℕ) → IsStartOf rows a → IsStartOf rows b → a ≡ b
