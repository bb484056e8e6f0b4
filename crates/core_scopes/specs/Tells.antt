-- What the code finds, in the words of the definitions.
use Rattle.std.specs.Prelude.{◌≡◌, ℕ, [], Some, None, Result, Ok, Err, slice_get, string_bytes}
use Rattle.std.specs.BTreeMap.{BTreeMap}
use Rattle.std.specs.declared.string.String.{String}
use Rattle.std.specs.declared.alloc.Global.{Global}
use Rattle.wgsl_path.specs.declared.path.ModulePath.{ModulePath}
use Rattle.core_syntax.specs.Tree.{Decl, UnitTree}
use Rattle.core_syntax.specs.declared.unit.TranslationUnit.{TranslationUnit}
use Rattle.core_syntax.specs.View.{unit_tree}
use Rattle.core_link_spec.specs.Occurrences.{Name, declared_name}
use Rattle.core_link_spec.specs.Modules.{Path, Symbol, Modules, IsModule, Denotes, IsMissing, IsPrivate, IsFree, IsUnloaded}
use Rattle.core_link_spec.specs.Rounds.{scope_names, AreDistinct, IsFirstAgain}
use Rattle.core_scopes.specs.declared.error.ImportError.{ImportError}
use Rattle.core_scopes.specs.declared.error.ImportError.TheVariants.{OutOfMemory, DuplicateSymbol}
use Rattle.core_scopes.specs.declared.module.Module.{Module}
use Rattle.core_scopes.specs.Meanings.{Done, entries, names, first_again}
use Rattle.core_scopes.specs.Outcomes.{Outcome, symbol_at, unloaded, missing, private, free, Loaded, loaded, home_of}

-- A module is made of its unit, or is refused for the first name that its scope has twice.
abbrev pub Opens : ModulePath → TranslationUnit → Result Module ImportError → Type 0
Opens path unit (Ok m) = (m.path ≡ path) × (m.unit ≡ unit) × AreDistinct (scope_names (unit_tree unit))
Opens path unit (Err OutOfMemory) = Done
Opens path unit (Err (DuplicateSymbol p x)) = (p ≡ path) × IsFirstAgain (scope_names (unit_tree unit)) x
Opens path unit (Err e) = ⊥

-- these are the modules that are found at their printed paths, and none has a name twice
pub record IsFinder (modules : Modules) (find : Loaded) : Type 0 where
  pub found : (p : Path) (m : Path × UnitTree) → find p ≡ Some m → IsModule modules p m.1 × (m.0 ≡ p)
  pub finds : (p : Path) (u : UnitTree) → IsModule modules p u → find p ≡ Some (p, u)
  pub fresh : (p : Path) (m : Path × UnitTree) → find p ≡ Some m → first_again [] (names (entries m.1)) ≡ None

-- the declaration at a place of a loaded module
pub record StandsAt (modules : Modules) (m : Path) (place : ℕ) (s : Symbol) : Type 0 where
  pub unit : UnitTree
  pub declaration : Decl
  pub is_module : IsModule modules m unit
  pub stands : slice_get unit.declarations place ≡ Some declaration
  pub home : s.home ≡ m
  pub name : s.name ≡ declared_name declaration

-- what an outcome says of a name of a module
abbrev pub Tells : Modules → Path → Name → Outcome → Type 0
Tells modules m x (symbol_at n place) = (s : Symbol) × StandsAt modules n place s × Denotes modules m x s
Tells modules m x (unloaded s) = IsUnloaded modules m x s
Tells modules m x (missing s) = IsMissing modules m x s
Tells modules m x (private s) = IsPrivate modules m x s
Tells modules m x free = IsFree modules m x

-- what a name of a module denotes, among the modules of a table, where the module is one of them
abbrev pub TellsDenoted : BTreeMap (String Global) Module → Module → Name → Outcome → Type 0
TellsDenoted table m x outcome =
    (ms : Modules) → IsFinder ms (loaded table) → loaded table (string_bytes m.printed_path) ≡ Some (home_of m) → Tells ms (string_bytes m.printed_path) x outcome
