-- What the source map of a text says.
use Rattle.std.specs.Prelude.{◌≡◌, ◌⊎◌, ℕ, List, Option, Some, None, if◌then◌else◌}
use Rattle.std.specs.Option.{IsSome, is_some}
use Rattle.std.specs.List.{Contains}
use Rattle.wgsl_path.specs.declared.path.ModulePath.{ModulePath}
use Rattle.wgsl_path.specs.Paths.{path_text}
use Rattle.core_syntax.specs.Tree.{UnitTree}
use Rattle.wesl_resolve.specs.Found.{unit_of}
use Rattle.core_link_spec.specs.Occurrences.{Name}
use Rattle.core_link_spec.specs.Modules.{Path, Symbol, Modules, Declares}
use Rattle.core_link_spec.specs.Rounds.{Sources}
use Rattle.wesl_resolve.specs.SourceMaps.{source_at, display_name_at}
use Rattle.wesl_resolve.specs.declared.source_map.BasicSourceMap.{BasicSourceMap}
use Rattle.core_link.specs.Recording.{Source, Telling, IsHeldAs, IsSourceOf}

-- a module is found at a printed path
abbrev pub IsFound : Sources → Path → Type 0
IsFound found p = (u : UnitTree) × found p (unit_of u)

-- at each of these paths, and at the root
abbrev pub AreAllFound : Sources → List ModulePath → Type 0
AreAllFound found paths = (p : ModulePath) → Contains paths p → IsFound found (path_text p)

abbrev pub AreFound : Sources → Path → List ModulePath → Type 0
AreFound found root paths = IsFound found root × AreAllFound found paths

-- the texts of the modules at printed paths
abbrev pub Texts : Type 1
Texts = List ℕ → List ℕ → Type 0

-- a module's text is in the map
pub record HasText (texts : Texts) (map : BasicSourceMap) (path : ModulePath) : Type 0 where
  pub text : List ℕ
  pub is_text : texts (path_text path) text
  pub stands : source_at map (path_text path) ≡ Some text

-- the texts of all these modules are in the map
abbrev pub HaveTexts : Texts → BasicSourceMap → List ModulePath → Type 0
HaveTexts texts map paths = (p : ModulePath) → Contains paths p → HasText texts map p

-- one of these modules has this printed path
abbrev pub IsPathOf : List ModulePath → Path → Type 0
IsPathOf paths p = (q : ModulePath) × Contains paths q × (path_text q ≡ p)

-- no other path has a text
abbrev pub HasOnly : BasicSourceMap → List ModulePath → Type 0
HasOnly map paths = (p : Path) → IsSome (source_at map p) → IsPathOf paths p

-- a text is recorded at these paths at most
abbrev pub AddsOnly : List ModulePath → BasicSourceMap → BasicSourceMap → Type 0
AddsOnly paths old new = (p : Path) → IsSome (source_at new p) → IsSome (source_at old p) ⊎ IsPathOf paths p

-- the display names of the modules at printed paths
abbrev pub Names : Type 0
Names = List ℕ → Option (List ℕ)

-- each path that has a text has the display name that its module has, and no other path has one
abbrev pub HasNames : Names → BasicSourceMap → Type 0
HasNames names map = (p : Path) → display_name_at map p ≡ (if is_some (source_at map p) then names p else None)

-- the root's text is the default
pub record HasDefault (texts : Texts) (root : List ℕ) (map : BasicSourceMap) : Type 0 where
  pub text : List ℕ
  pub is_text : texts root text
  pub stands : map.default_source ≡ Some text

-- ---- declarations

-- nothing is told of any name
abbrev pub nothing_told : Telling
nothing_told y = None

-- this symbol is told of a name: the loaded module that declares it, and its name there
pub record IsTold (modules : Modules) (tell : Telling) (y : Name) (s : Symbol) : Type 0 where
  pub path : ModulePath
  pub unit : UnitTree
  pub loaded : Contains modules (path, unit)
  pub home : path_text path ≡ s.home
  pub declares : Declares unit s.name
  pub stands : tell y ≡ Some (path, s.name)

-- of the printed name of each held symbol that symbol is told, and nothing is told of other names
pub record TellsHeld (modules : Modules) (root : Path) (kept : List Name) (tell : Telling) : Type 0 where
  pub each : (y : Name) (s : Symbol) → IsHeldAs modules root kept y s → IsTold modules tell y s
  pub only : (y : Name) (v : Source) → tell y ≡ Some v → IsSourceOf modules root kept y v

-- a name is the printed name of a held symbol, and that symbol is told of it
pub record IsLocated (modules : Modules) (root : Path) (kept : List Name) (tell : Telling) (y : Name) : Type 0 where
  pub symbol : Symbol
  pub held : IsHeldAs modules root kept y symbol
  pub told : IsTold modules tell y symbol
