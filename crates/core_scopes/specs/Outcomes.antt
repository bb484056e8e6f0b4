-- What names denote over the loaded modules, as the code finds it: by places of declarations.
use Rattle.std.specs.Prelude.{◌≡◌, ⊤, ℕ, Option, Some, None, string_bytes}
use Rattle.std.specs.Option.{option_map}
use Rattle.std.specs.BTreeMap.{BTreeMap, get_by_text}
use Rattle.std.specs.declared.string.String.{String}
use Rattle.std.specs.declared.alloc.Global.{Global}
use Rattle.wgsl_path.specs.Paths.{path_text}
use Rattle.core_syntax.specs.Tree.{UnitTree}
use Rattle.core_syntax.specs.View.{unit_tree}
use Rattle.core_link_spec.specs.Occurrences.{Name}
use Rattle.core_link_spec.specs.Modules.{Path, Symbol}
use Rattle.core_link_spec.specs.Named.{HasImportOf}
use Rattle.core_scopes.specs.Meanings.{Known, declared, imported, bare, known}
use Rattle.core_scopes.specs.declared.module.Module.{Module}
use Rattle.core_scopes.specs.declared.denote.Denoted.{Denoted}
use Rattle.core_scopes.specs.declared.denote.Denoted.TheVariants.{Declared, Unloaded, Missing, Private, Free}
use Rattle.core_scopes.specs.declared.denote.Item.{Item}
use Rattle.core_scopes.specs.declared.denote.Item.TheVariants as item

pub data Outcome : Type 0 where
  symbol_at : Path → ℕ → Outcome
  unloaded : Symbol → Outcome
  missing : Symbol → Outcome
  private : Symbol → Outcome
  free : Outcome

-- the loaded module at each path
abbrev pub Loaded : Type 0
Loaded = Path → Option (Path × UnitTree)

abbrev pub item_in : Path → Symbol → Option Known → Outcome
item_in m s None = missing s
item_in m s (Some (declared place)) = symbol_at m place
item_in m s (Some (imported t)) = private s
item_in m s (Some (bare y)) = private s

-- an item that is sought in a module
abbrev pub item_at : Symbol → Option (Path × UnitTree) → Outcome
item_at s None = unloaded s
item_at s (Some m) = item_in m.0 s (known m.1 s.name)

abbrev pub meant_as : Loaded → Path → Option Known → Outcome
meant_as loaded m None = free
meant_as loaded m (Some (declared place)) = symbol_at m place
meant_as loaded m (Some (imported t)) = item_at t.1 (loaded t.1.home)
meant_as loaded m (Some (bare y)) = missing (record { home = m; name = y })

-- a name that occurs in a module
abbrev pub outcome : Loaded → Path × UnitTree → Name → Outcome
outcome loaded m x = meant_as loaded m.0 (known m.1 x)

abbrev pub home_of : Module → Path × UnitTree
home_of m = (string_bytes m.printed_path, unit_tree m.unit)

abbrev pub loaded : BTreeMap (String Global) Module → Loaded
loaded modules path = option_map home_of (get_by_text modules path)

abbrev pub outcome_of : Denoted → Outcome
outcome_of (Declared s) = symbol_at (string_bytes s.«module».now.printed_path) s.place
outcome_of (Unloaded t) = unloaded (record { home = string_bytes t.now.printed_path; name = t.now.item })
outcome_of (Missing path x) = missing (record { home = path_text path.now; name = x.now })
outcome_of (Private path x) = private (record { home = path_text path.now; name = x.now })
outcome_of Free = free

abbrev pub item_outcome : Symbol → Item → Outcome
item_outcome s (item.Declared found) = symbol_at (string_bytes found.«module».now.printed_path) found.place
item_outcome s item.Imported = private s
item_outcome s item.Absent = missing s
item_outcome s item.Unloaded = unloaded s

-- a module of the table
abbrev pub IsInTable : BTreeMap (String Global) Module → Module → Type 0
IsInTable modules m = (p : Path) × (get_by_text modules p ≡ Some m)

-- what a name denotes, where it does, is of a module of the table
abbrev pub DenotesInTable : BTreeMap (String Global) Module → Denoted → Type 0
DenotesInTable modules (Declared s) = IsInTable modules s.«module».now
DenotesInTable modules d = ⊤

-- what is found in the module at a path is of that module
abbrev pub StandsUnder : BTreeMap (String Global) Module → Path → Item → Type 0
StandsUnder modules path (item.Declared found) = get_by_text modules path ≡ Some found.«module».now
StandsUnder modules path i = ⊤

-- where a name denotes an item of a module that is not loaded, an import of this unit names that module by the target's path
abbrev pub IsNamedIn : UnitTree → Denoted → Type 0
IsNamedIn unit (Unloaded t) = HasImportOf unit t.now.path
IsNamedIn unit d = ⊤
