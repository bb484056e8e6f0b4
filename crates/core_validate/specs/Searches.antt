-- What the search for rings knows on its way.
use Rattle.std.specs.Prelude.{◌≡◌, ◌≢◌, ℕ, ◌<◌, ◌≤◌, ◌⊎◌, List, [], ◌∷◌, ◌++◌, length, Bool, true, false}
use Rattle.std.specs.List.{All, Contains, slice_index_or, slice_index}
use Rattle.core_validate.specs.declared.place.Meaning.{Meaning}
use Rattle.core_validate.specs.declared.place.Meaning.TheVariants.{Local, Global, Free}
use Rattle.core_validate.specs.declared.place.Place.{Place}
use Rattle.core_validate.specs.declared.place.Row.{Row}
use Rattle.core_validate.specs.Rings.{Leads, Chain}

-- ---- declarations reached from one

-- some of these places denotes declaration j
pub record Targets (places : List Place) (j : ℕ) : Type 0 where
  pub place : Place
  pub occurs : Contains places place
  pub denotes : place.meaning ≡ Global j

-- what is marked was reached
abbrev pub IsMarked : List Bool → List ℕ → Type 0
IsMarked seen reached = (j : ℕ) → slice_index_or seen j false ≡ true → Contains reached j

-- j was reached before, or now
abbrev pub Adds : ℕ → List ℕ → List ℕ → Type 0
Adds j old new = (new ≡ old) ⊎ (new ≡ old ++ j ∷ [])

-- what the search does at a place of this meaning that doesn't lead back to its start
abbrev pub PassesBy : Meaning → ℕ → ℕ → List ℕ → List ℕ → Type 0
PassesBy Local start bound old new = new ≡ old
PassesBy Free start bound old new = new ≡ old
PassesBy (Global j) start bound old new = (j ≢ start) × Adds j old new × (j < bound → Contains new j)

-- what the search did at some places
pub record Visits (places : List Place) (start bound : ℕ) (old new : List ℕ) : Type 0 where
  pub rest : List ℕ
  pub extends : new ≡ old ++ rest
  pub only : All (Targets places) rest
  pub covers : (j : ℕ) → Targets places j → (j ≢ start) × (j < bound → Contains new j)

-- every declaration that v leads to is not the start, and was reached
abbrev pub IsDone : List Row → ℕ → List ℕ → ℕ → Type 0
IsDone rows start reached v = (j : ℕ) → Leads rows v j → (j ≢ start) × (j < length rows → Contains reached j)

-- what the search did at a declaration
pub record VisitsRow (rows : List Row) (v start : ℕ) (old new : List ℕ) : Type 0 where
  pub rest : List ℕ
  pub extends : new ≡ old ++ rest
  pub only : All (Leads rows v) rest
  pub done : IsDone rows start new v

-- the search from a declaration, once the first `at` of those reached are done
pub record Searches (rows : List Row) (start at : ℕ) (reached : List ℕ) : Type 0 where
  pub within : at ≤ length reached
  pub starts : Contains reached start
  pub only : All (λ v. (v ≡ start) ⊎ Chain rows start v) reached
  pub done : (k d : ℕ) → k < at → IsDone rows start reached (slice_index_or reached k d)

-- ---- ranks

-- a rank below another; 0 is none
abbrev pub IsBelow : List ℕ → ℕ → ℕ → Type 0
IsBelow ranks rank j = (0 < slice_index ranks j) × (slice_index ranks j < rank)

-- a ranked declaration leads only to ones of a lower rank
abbrev pub AreRanks : List ℕ → List Row → Type 0
AreRanks ranks rows = (i j : ℕ) → Leads rows i j → 0 < slice_index ranks i → IsBelow ranks (slice_index ranks i) j
