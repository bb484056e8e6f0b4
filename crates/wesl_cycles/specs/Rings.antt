-- Rings of declarations (WGSL, "Declaration and Scope": no declaration of a module is recursive; draw an edge from a declaration
-- to each one whose identifier its definition mentions, and no ring may stand).
use Rattle.std.specs.Prelude.{◌≡◌, ℕ, ◌<◌, List, slice_get, Some}
use Rattle.std.specs.List.{Contains}

-- declaration i mentions declaration j; `rows` has what each declaration mentions
pub record Leads (rows : List (List ℕ)) (i j : ℕ) : Type 0 where
  pub row : List ℕ
  pub stands : slice_get rows i ≡ Some row
  pub mentions : Contains row j

-- a chain of one or more mentions
pub data Chain (rows : List (List ℕ)) : ℕ → ℕ → Type 0 where
  step : {i j : ℕ} → Leads rows i j → Chain rows i j
  onward : {i j k : ℕ} → Leads rows i j → Chain rows j k → Chain rows i k

abbrev pub IsOnRing : List (List ℕ) → ℕ → Type 0
IsOnRing rows i = Chain rows i i

-- the first declaration that is on a ring
pub record IsFirstOnRing (rows : List (List ℕ)) (i : ℕ) : Type 0 where
  pub ring : IsOnRing rows i
  pub before : (j : ℕ) → j < i → ¬ IsOnRing rows j
