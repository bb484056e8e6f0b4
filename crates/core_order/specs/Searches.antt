-- What the search for what a declaration leads to knows on its way.
use Rattle.std.specs.Prelude.{◌≡◌, ℕ, ◌<◌, ◌≤◌, ◌⊎◌, List, ◌++◌, length, Bool, true, false}
use Rattle.std.specs.List.{All, Contains, slice_index_or}
use Rattle.core_validate.specs.declared.place.Meaning.{Meaning}
use Rattle.core_validate.specs.declared.place.Meaning.TheVariants.{Local, Global, Free}
use Rattle.core_validate.specs.declared.place.Place.{Place}
use Rattle.core_validate.specs.declared.place.Row.{Row}
use Rattle.core_validate.specs.Rings.{Leads, Chain}
pub use Rattle.core_validate.specs.Searches.{Targets, Adds}

abbrev pub IsOn : List Bool → ℕ → Type 0
IsOn marks j = slice_index_or marks j false ≡ true

-- what is marked was reached, and what was reached is marked
pub record IsMarked (seen : List Bool) (reached : List ℕ) : Type 0 where
  pub listed : (j : ℕ) → IsOn seen j → Contains reached j
  pub marked : (j : ℕ) → Contains reached j → IsOn seen j

-- j was reached, or the search needn't go there
abbrev pub IsMet : List Bool → List ℕ → ℕ → Type 0
IsMet settled reached j = IsOn settled j ⊎ Contains reached j

-- what the search did at a place of this meaning
abbrev pub PassesBy : Meaning → List Bool → ℕ → List ℕ → List ℕ → Type 0
PassesBy Local settled bound old new = new ≡ old
PassesBy Free settled bound old new = new ≡ old
PassesBy (Global j) settled bound old new = Adds j old new × (j < bound → IsMet settled new j)

-- what it did at some places
pub record Visits (places : List Place) (settled : List Bool) (bound : ℕ) (old new : List ℕ) : Type 0 where
  pub rest : List ℕ
  pub extends : new ≡ old ++ rest
  pub only : All (Targets places) rest
  pub covers : (j : ℕ) → Targets places j → j < bound → IsMet settled new j

-- every declaration that v leads to was met
abbrev pub IsDone : List Row → List Bool → List ℕ → ℕ → Type 0
IsDone rows settled reached v = (j : ℕ) → Leads rows v j → j < length rows → IsMet settled reached j

-- what it did at a declaration
pub record VisitsRow (rows : List Row) (v : ℕ) (settled : List Bool) (old new : List ℕ) : Type 0 where
  pub rest : List ℕ
  pub extends : new ≡ old ++ rest
  pub only : All (Leads rows v) rest
  pub done : IsDone rows settled new v

-- the search from a declaration, once this and the first `at` of those reached are done
pub record Searches (rows : List Row) (start : ℕ) (settled : List Bool) (at : ℕ) (reached : List ℕ) : Type 0 where
  pub within : at ≤ length reached
  pub only : All (Chain rows start) reached
  pub first : IsDone rows settled reached start
  pub done : (k d : ℕ) → k < at → IsDone rows settled reached (slice_index_or reached k d)

-- j is settled, or a settled declaration leads to it
pub record IsPast (rows : List Row) (settled : List Bool) (j : ℕ) : Type 0 where
  pub from : ℕ
  pub is : IsOn settled from
  pub leads : (from ≡ j) ⊎ Chain rows from j

-- what is marked at the end of a search: all to which the start leads, but for what is past
pub record Reaches (rows : List Row) (start : ℕ) (settled marks : List Bool) : Type 0 where
  pub sized : length marks ≡ length rows
  pub only : (j : ℕ) → IsOn marks j → Chain rows start j
  pub whole : (j : ℕ) → j < length rows → Chain rows start j → IsOn marks j ⊎ IsPast rows settled j
