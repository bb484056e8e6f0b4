-- What the code's state says of the start of a unit's values.
use Rattle.std.specs.Prelude.{◌≡◌, ◌⊎◌, ℕ, List, [], ◌∷◌, length, take, Bool, slice_set, true}
use Rattle.std.specs.List.{Contains}
use Rattle.core_validate.specs.declared.place.Row.{Row}
use Rattle.core_validate.specs.Rings.{Chain}
use Rattle.core_order.specs.declared.start.State.{State}
use Rattle.core_order.specs.Order.{Progress, beginning, ending, Selects, Starts}
use Rattle.core_order.specs.Units.{values_from}
use Rattle.core_order.specs.Searches.{IsOn, IsMarked, IsPast, Targets}

abbrev pub view : State → Progress ℕ
view state = record { begun = state.begun.items; started = state.started.items }

abbrev pub none_begun : Progress ℕ
none_begun = record { begun = []; started = [] }

-- a value begins
pub record Begins (x : ℕ) (old new : State) : Type 0 where
  pub progress : view new ≡ beginning x (view old)
  pub marks : new.marks.items ≡ slice_set old.marks.items x true
  pub settled : new.settled.items ≡ old.settled.items

-- what is marked is settled, and nothing else that wasn't
pub record Settles (marks old new : List Bool) : Type 0 where
  pub only : (j : ℕ) → IsOn new j → IsOn old j ⊎ IsOn marks j

-- a function is settled, if anything is, where all that it mentions was
pub record SettlesFunction (row : Row) (x : ℕ) (old new : State) : Type 0 where
  pub progress : view new ≡ view old
  pub marks : new.marks.items ≡ old.marks.items
  pub sized : length new.settled.items ≡ length old.settled.items
  pub settled : (j : ℕ) → IsOn new.settled.items j
      → IsOn old.settled.items j ⊎ ((x ≡ j) × ((k : ℕ) → Targets row.places k → IsOn old.settled.items k))

-- a value ends, and it and what was met are settled
pub record Ends (x : ℕ) (met : List Bool) (old new : State) : Type 0 where
  pub progress : view new ≡ ending x (view old)
  pub marks : new.marks.items ≡ old.marks.items
  pub sized : length new.settled.items ≡ length old.settled.items
  pub settled : (j : ℕ) → IsOn new.settled.items j → IsOn old.settled.items j ⊎ ((x ≡ j) ⊎ IsOn met j)

-- the marks are of the values that have begun, and each value to which a settled declaration leads has begun
pub record Keeps (rows : List Row) (state : State) : Type 0 where
  pub sized : length state.marks.items ≡ length rows
  pub settled_sized : length state.settled.items ≡ length rows
  pub marked : IsMarked state.marks.items state.begun.items
  pub settled : (j : ℕ) → IsPast rows state.settled.items j → Contains (values_from 0 rows) j → Contains state.begun.items j

-- these values were started in turn
abbrev pub StartsAll : List Row → Progress ℕ → List ℕ → Progress ℕ → Type 0
StartsAll rows = Starts (Chain rows) (values_from 0 rows)

abbrev pub StartsOne : List Row → ℕ → State → State → Type 0
StartsOne rows position old new = StartsAll rows (view old) (position ∷ []) (view new)

-- of the values among the first `at` declarations, those that x reaches were started
pub record StartsReached (rows : List Row) (x at : ℕ) (old new : Progress ℕ) : Type 0 where
  pub reached : List ℕ
  pub selects : Selects (Chain rows x) (values_from 0 (take at rows)) reached
  pub comes : StartsAll rows old reached new
