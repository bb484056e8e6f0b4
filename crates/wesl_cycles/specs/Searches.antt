-- What the search for rings knows on its way.
use Rattle.std.specs.Prelude.{◌≡◌, ◌≢◌, ℕ, ◌<◌, ◌≤◌, ◌⊎◌, List, [], ◌∷◌, ◌++◌, length, Bool, true, false}
use Rattle.std.specs.List.{All, Contains, slice_index_or, slice_index}
use Rattle.wesl_cycles.specs.Rings.{Leads, Chain}

-- ---- declarations reached from one

-- what is marked was reached
abbrev pub IsMarked : List Bool → List ℕ → Type 0
IsMarked seen reached = (j : ℕ) → slice_index_or seen j false ≡ true → Contains reached j

-- j was reached before, or now
abbrev pub Adds : ℕ → List ℕ → List ℕ → Type 0
Adds j old new = (new ≡ old) ⊎ (new ≡ old ++ j ∷ [])

-- what the search does at a declaration that isn't its start
abbrev pub PassesBy : ℕ → ℕ → ℕ → List ℕ → List ℕ → Type 0
PassesBy j start bound old new = (j ≢ start) × Adds j old new × (j < bound → Contains new j)

-- what the search did at some declarations
pub record Visits (row : List ℕ) (start bound : ℕ) (old new : List ℕ) : Type 0 where
  pub rest : List ℕ
  pub extends : new ≡ old ++ rest
  pub only : All (Contains row) rest
  pub covers : (j : ℕ) → Contains row j → (j ≢ start) × (j < bound → Contains new j)

-- every declaration that v leads to is not the start, and was reached
abbrev pub IsDone : List (List ℕ) → ℕ → List ℕ → ℕ → Type 0
IsDone rows start reached v = (j : ℕ) → Leads rows v j → (j ≢ start) × (j < length rows → Contains reached j)

-- what the search did at a row
pub record VisitsRow (rows : List (List ℕ)) (v start : ℕ) (old new : List ℕ) : Type 0 where
  pub rest : List ℕ
  pub extends : new ≡ old ++ rest
  pub only : All (Leads rows v) rest
  pub done : IsDone rows start new v

-- the search from a declaration, once the first `at` of those reached are done
pub record Searches (rows : List (List ℕ)) (start at : ℕ) (reached : List ℕ) : Type 0 where
  pub within : at ≤ length reached
  pub starts : Contains reached start
  pub only : All (λ v. (v ≡ start) ⊎ Chain rows start v) reached
  pub done : (k d : ℕ) → k < at → IsDone rows start reached (slice_index_or reached k d)

-- ---- ranks

-- no declaration leads to one of a higher rank
abbrev pub AreRanks : List ℕ → List (List ℕ) → Type 0
AreRanks ranks rows = (i j : ℕ) → Leads rows i j → slice_index ranks j ≤ slice_index ranks i
