-- What a name is read back as, where some names are remembered.
use Rattle.std.specs.Prelude.{◌≡◌, ℕ, List, Option, Some, None}
use Rattle.wgsl_path.specs.declared.path.ModulePath.{ModulePath}

abbrev pub IsReadBack : Option (ModulePath × List ℕ) → (Option (ModulePath × List ℕ) → Type 0) → Option (ModulePath × List ℕ) → Type 0
IsReadBack (Some pair) otherwise answer = answer ≡ Some pair
IsReadBack None otherwise answer = otherwise answer
