-- Rings of declarations (WGSL, "Declaration and Scope": no declaration of a module is recursive; draw an edge from a declaration
-- to each one whose identifier its definition mentions, and no ring may stand).
use Rattle.std.specs.Prelude.{◌≡◌, ℕ, ◌<◌, List, slice_get, Some}
use Rattle.std.specs.List.{Contains}
use Rattle.core_validate.specs.declared.place.Meaning.TheVariants.{Global}
use Rattle.core_validate.specs.declared.place.Place.{Place}
use Rattle.core_validate.specs.declared.place.Row.{Row}

-- declaration i has an occurrence that denotes declaration j; `rows` has what occurs in each declaration
pub record Leads (rows : List Row) (i j : ℕ) : Type 0 where
  pub row : Row
  pub place : Place
  pub stands : slice_get rows i ≡ Some row
  pub occurs : Contains row.places place
  pub denotes : place.meaning ≡ Global j

-- a chain of one or more occurrences
pub data Chain (rows : List Row) : ℕ → ℕ → Type 0 where
  step : {i j : ℕ} → Leads rows i j → Chain rows i j
  onward : {i j k : ℕ} → Leads rows i j → Chain rows j k → Chain rows i k

abbrev pub IsOnRing : List Row → ℕ → Type 0
IsOnRing rows i = Chain rows i i

-- the first declaration in text order that is on a ring
pub record IsFirstOnRing (rows : List Row) (i : ℕ) : Type 0 where
  pub ring : IsOnRing rows i
  pub before : (j : ℕ) → j < i → ¬ IsOnRing rows j
