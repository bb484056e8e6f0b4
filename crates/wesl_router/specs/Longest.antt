-- The prefix that serves a path, without a rule to find it.
use Rattle.std.specs.Prelude.{◌≡◌, ℕ, ◌≤◌, List, length, slice_get, Option, Some, None}
use Rattle.wgsl_path.specs.declared.path.ModulePath.{ModulePath}
use Rattle.wgsl_path.specs.Joining.{StartsWith}
use Rattle.wesl_router.specs.declared.choice.Served.{Served}
use Rattle.wesl_router.specs.Choice.{best_of}

-- It stands there, the path starts with it, no other such prefix is longer, and none of its length stands behind it.
pub record Serves (path : ModulePath) (prefixes : List ModulePath) (s : Served) : Type 0 where
  pub prefix : ModulePath
  pub stands : slice_get prefixes s.place ≡ Some prefix
  pub begins : StartsWith path prefix
  pub names : s.names ≡ length prefix.components
  pub longest : (i : ℕ) (other : ModulePath) → slice_get prefixes i ≡ Some other → StartsWith path other → length other.components ≤ s.names
  pub last : (i : ℕ) (other : ModulePath) → slice_get prefixes i ≡ Some other → StartsWith path other → length other.components ≡ s.names → i ≤ s.place

abbrev pub TheLongestServes : Type 0
TheLongestServes = (path : ModulePath) (prefixes : List ModulePath) (s : Served) → best_of path prefixes ≡ Some s → Serves path prefixes s

abbrev pub OthersServeNothing : Type 0
OthersServeNothing =
    (path : ModulePath) (prefixes : List ModulePath) → best_of path prefixes ≡ None
    → (i : ℕ) (other : ModulePath) → slice_get prefixes i ≡ Some other → StartsWith path other → ⊥
