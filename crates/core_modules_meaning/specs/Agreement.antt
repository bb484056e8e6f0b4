-- Runs over sources that find the same units where it counts.
use Rattle.std.specs.Prelude.{◌≡◌, ℕ, List, Ok, ◌↔◌}
use Rattle.std.specs.List.{Contains}
use Rattle.wgsl_path.specs.declared.path.ModulePath.{ModulePath}
use Rattle.wgsl_path.specs.Paths.{path_text}
use Rattle.core_syntax.specs.Tree.{UnitTree}
use Rattle.wesl_resolve.specs.Found.{unit_of}
use Rattle.core_link_spec.specs.Occurrences.{Name}
use Rattle.core_link_spec.specs.Modules.{Path, Symbol, Modules, IsModule}
use Rattle.core_link_spec.specs.Named.{AreNamedByImports, ImportsAreApart}
use Rattle.core_link_spec.specs.Rounds.{Sources, IsLoadingResult}
use Rattle.core_link_spec.specs.Linked.{IsLinked}
use Rattle.core_link_spec.specs.Loaded.{AreLoaded, IsClashFree}
use Rattle.core_link_spec.specs.Clashing.{IsFirstClash}
use Rattle.core_link_spec.specs.Asks.{Asks}
use Rattle.core_modules_meaning.specs.Declared.{IsHeldAs}
use Rattle.core_modules_meaning.specs.Determined.{listed, IsFunctional}
use Rattle.core_modules_meaning.specs.Runs.{AreFound}

-- ---- what is loaded

-- Where another source finds each unit that is asked of one, both load the same units at the same printed paths, in one order.
abbrev pub OnlyAskedUnitsCount : Sources → Sources → Type 0
OnlyAskedUnitsCount found other = IsFunctional other → (root : Path) (keep : List Name) (max : ℕ)
    → ((p : Path) → Asks found root keep max p → (u : UnitTree) → found p (unit_of u) → other p (unit_of u))
    → (one two : Modules) → IsLoadingResult found root keep max (Ok one) → IsLoadingResult other root keep max (Ok two) → listed one ≡ listed two

-- ---- modules that are alike

-- the same units at the same printed paths, and the same paths but for the root's
pub record AreAlike (root : Path) (one other : Modules) : Type 0 where
  pub same_units : (p : Path) (u : UnitTree) → IsModule one p u ↔ IsModule other p u
  pub same_paths : (path : ModulePath) (u : UnitTree) → (path_text path ≡ root → ⊥) → Contains one (path, u) ↔ Contains other (path, u)

-- Modules that are listed alike are alike, where they are what is found, and imports name them by paths that are apart.
abbrev pub ListedModulesAreAlike : Sources → Type 0
ListedModulesAreAlike found = (root : Path) (one other : Modules) → listed one ≡ listed other → AreFound found one → ImportsAreApart found
    → AreNamedByImports one root → AreNamedByImports other root → AreAlike root one other

-- what is true of some modules is true of those that are alike
abbrev pub OfAlikeModules : (Modules → Path → List Name → Type 0) → Type 0
OfAlikeModules P = (root : Path) (one other : Modules) → AreAlike root one other → (keep : List Name) → P one root keep → P other root keep

-- so it is with the unit that they are linked into, names that don't clash, the first that does, and what is held under a name
pub record HoldsOfAlikeModules : Type 0 where
  pub linked : (unit : UnitTree) → OfAlikeModules (λ modules root keep. IsLinked modules root keep unit)
  pub clash_free : OfAlikeModules IsClashFree
  pub first_clash : (y : Name) → OfAlikeModules (λ modules root keep. IsFirstClash modules root keep y)
  pub held : (s : Symbol) (y : Name) → OfAlikeModules (λ modules root keep. IsHeldAs modules root keep s y)

-- ---- clashes

-- loaded modules have one first clash, or are free of clashes
pub record ClashesAreOne : Type 0 where
  pub once : (modules : Modules) (root : Path) (keep : List Name) (y z : Name) → AreLoaded modules root keep → IsFirstClash modules root keep y
      → IsFirstClash modules root keep z → y ≡ z
  pub never : (modules : Modules) (root : Path) (keep : List Name) (y : Name) → AreLoaded modules root keep → IsClashFree modules root keep
      → IsFirstClash modules root keep y → ⊥
