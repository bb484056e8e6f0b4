-- The paths under which modules are loaded.
use Rattle.std.specs.Prelude.{◌≡◌, Some}
use Rattle.std.specs.List.{Contains}
use Rattle.wgsl_path.specs.declared.path.ModulePath.{ModulePath}
use Rattle.wgsl_path.specs.Paths.{path_text}
use Rattle.core_syntax.specs.Tree.{Imp, UnitTree}
use Rattle.core_link_spec.specs.Modules.{Path, Modules}
use Rattle.core_link_spec.specs.Rounds.{Sources}
use Rattle.wesl_resolve.specs.Found.{unit_of}

-- an import of a module names another by this path
pub record HasImportOf (unit : UnitTree) (path : ModulePath) : Type 0 where
  pub import : Imp
  pub stands : Contains unit.imports import
  pub is_path : import.path ≡ Some path

-- an import of some loaded module names a module by this path
pub record IsNamedByImport (modules : Modules) (path : ModulePath) : Type 0 where
  pub home : ModulePath
  pub unit : UnitTree
  pub loaded : Contains modules (home, unit)
  pub has : HasImportOf unit path

-- each loaded module but the root is there under a path by which an import of one of them names it
abbrev pub AreNamedByImports : Modules → Path → Type 0
AreNamedByImports modules root = (path : ModulePath) (u : UnitTree) → Contains modules (path, u) → (path_text path ≡ root → ⊥) → IsNamedByImport modules path

-- imports of what is found, whose paths print alike, have one path
abbrev pub ImportsAreApart : Sources → Type 0
ImportsAreApart found = (p q : Path) (u v : UnitTree) (a b : ModulePath) → found p (unit_of u) → found q (unit_of v) → HasImportOf u a → HasImportOf v b
    → path_text a ≡ path_text b → a ≡ b
