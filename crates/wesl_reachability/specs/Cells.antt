-- Tables with a row for each module.
use Rattle.std.specs.Prelude.{◌≡◌, ⊤, ℕ, List, length, Bool, true, false, Option, Some, None, slice_get, is_some, Vec}
use Rattle.std.specs.Option.{option_map}
use Rattle.std.specs.declared.alloc.Global.{Global}

abbrev pub Rows : Type 0 → Type 0
Rows X = List (Vec X Global)

abbrev pub row_at : {X : Type 0} → Option (Vec X Global) → ℕ → Option X
row_at None k = None
row_at (Some row) k = slice_get row.items k

-- what stands in a row at a place
abbrev pub cell : {X : Type 0} → Rows X → ℕ → ℕ → Option X
cell rows m k = row_at (slice_get rows m) k

abbrev pub Differ : ℕ → ℕ → ℕ → ℕ → Type 0
Differ m k row at = (m ≡ row) × (k ≡ at) → ⊥

-- a value is put where there is room, and no other changes
pub record PutsOne {X : Type 0} (old : List X) (at : ℕ) (v : X) (new : List X) : Type 0 where
  pub here : slice_get new at ≡ option_map (λ x. v) (slice_get old at)
  pub others : (k : ℕ) → (k ≡ at → ⊥) → slice_get new k ≡ slice_get old k

pub record Puts {X : Type 0} (old : Rows X) (row at : ℕ) (v : X) (new : Rows X) : Type 0 where
  pub here : cell new row at ≡ option_map (λ x. v) (cell old row at)
  pub others : (m k : ℕ) → Differ m k row at → cell new m k ≡ cell old m k

-- ---- flags

abbrev pub is_unset : Option Bool → Bool
is_unset None = false
is_unset (Some true) = false
is_unset (Some false) = true

abbrev pub IsSet : Rows Bool → ℕ → ℕ → Type 0
IsSet rows m k = cell rows m k ≡ Some true

abbrev pub HasRoom : {X : Type 0} → Rows X → ℕ → ℕ → Type 0
HasRoom rows m k = is_some (cell rows m k) ≡ true

-- one flag is set, and whether it was not set before
pub record SetsOne (old : List Bool) (at : ℕ) (new : List Bool) (first : Bool) : Type 0 where
  pub puts : PutsOne old at true new
  pub told : first ≡ is_unset (slice_get old at)

pub record Sets (old : Rows Bool) (row at : ℕ) (new : Rows Bool) (first : Bool) : Type 0 where
  pub puts : Puts old row at true new
  pub told : first ≡ is_unset (cell old row at)
  pub rows : length new ≡ length old
