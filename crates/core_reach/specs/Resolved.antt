-- What linking found, as the tables keep it.
use Rattle.std.specs.Prelude.{◌≡◌, ℕ, List, map, Some, string_bytes}
use Rattle.std.specs.Option.{IsSome}
use Rattle.std.specs.BTreeMap.{BTreeMap, get_by_text}
use Rattle.std.specs.declared.string.String.{String}
use Rattle.std.specs.declared.alloc.Global.{Global}
use Rattle.core_syntax.specs.View.{unit_tree}
use Rattle.core_link_spec.specs.Occurrences.{Name}
use Rattle.core_link_spec.specs.Modules as spec
use Rattle.core_link_spec.specs.Modules.{Path, Symbol, Modules}
use Rattle.core_link_spec.specs.Names.{IsPrinted}
use Rattle.core_scopes.specs.declared.module.Module.{Module}
use Rattle.core_scopes.specs.Outcomes.{Loaded, loaded}
use Rattle.core_scopes.specs.Tells.{StandsAt}
use Rattle.core_reach.specs.Reach.{Holding, ReachedAt, IsSettled, KeepsAll, IsRooted}
use Rattle.core_reach.specs.Closing.{HeldNames, held_at}

abbrev pub LoadedModules : Type 0
LoadedModules = BTreeMap (String Global) Module

-- the loaded modules, each with its path
abbrev pub modules_of : LoadedModules → spec.Modules
modules_of ms = map (λ e. (e.1.path, unit_tree e.1.unit)) ms.entries

-- each module stands under its own printed path
abbrev pub IsKeyed : LoadedModules → Type 0
IsKeyed ms = (p : Path) (m : Module) → get_by_text ms p ≡ Some m → string_bytes m.printed_path ≡ p

-- each place that is held has the printed name of what is declared there
abbrev pub NamesHeld : Modules → Path → Holding → Type 0
NamesHeld modules root held = (m : Path) (place : ℕ) (s : Symbol) (y : Name) → StandsAt modules m place s → held m place ≡ Some y → IsPrinted modules root s y

-- what is held is reached
abbrev pub HoldsReached : Loaded → Path → List Name → Holding → Type 0
HoldsReached find root keep held = (m : Path) (place : ℕ) → IsSome (held m place) → ReachedAt find root keep m place

-- The modules from the root on, where the kept names and all that they lead to is held, and nothing else, under printed names.
pub record IsResolved (ms : LoadedModules) (root : Path) (keep : List Name) (held : HeldNames) : Type 0 where
  pub keyed : IsKeyed ms
  pub rooted : IsRooted (modules_of ms) root keep
  pub named : NamesHeld (modules_of ms) root (held_at held)
  pub kept : KeepsAll (loaded ms) root keep (held_at held)
  pub sound : HoldsReached (loaded ms) root keep (held_at held)
  pub settled : IsSettled (loaded ms) (held_at held)
