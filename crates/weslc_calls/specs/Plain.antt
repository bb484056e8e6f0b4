-- Texts without imports.
use Rattle.std.specs.Prelude.{◌≡◌, ℕ, List, []}
use Rattle.wgsl_declarations.specs.Tree.{UnitTree}
use Rattle.core_calls.specs.Derivable.{SaysTree}

-- The text is read as a module, which has no imports.
pub record IsPlain (text : List ℕ) : Type 0 where
  pub unit : UnitTree
  pub says : SaysTree text unit
  pub no_imports : unit.imports ≡ []
