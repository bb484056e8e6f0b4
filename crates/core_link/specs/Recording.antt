-- What is told of the names of the linked unit: where they come from.
use Rattle.std.specs.Prelude.{◌≡◌, ◌⊎◌, ℕ, ◌+◌, List, [], ◌∷◌, ◌++◌, Option, Some, None, string_bytes}
use Rattle.std.specs.Option.{IsSome}
use Rattle.std.specs.List.{Contains, flat_map}
use Rattle.std.specs.declared.string.String.{String}
use Rattle.std.specs.declared.alloc.Global.{Global}
use Rattle.wgsl_path.specs.declared.path.ModulePath.{ModulePath}
use Rattle.wgsl_path.specs.Paths.{path_text}
use Rattle.core_syntax.specs.Tree.{Decl, UnitTree}
use Rattle.core_syntax.specs.View.{unit_tree}
use Rattle.core_link_spec.specs.Occurrences.{Name, declared_name}
use Rattle.core_link_spec.specs.Modules.{Path, Symbol, Modules, Declares, Reached}
use Rattle.core_link_spec.specs.Names.{IsPrinted}
use Rattle.core_scopes.specs.declared.module.Module.{Module}
use Rattle.core_reach.specs.Closing.{HeldNames, held_at}

-- a module, and a name that it declares
abbrev pub Source : Type 0
Source = ModulePath × Name

abbrev pub source_symbol : Source → Symbol
source_symbol v = record { home = path_text v.0; name = v.1 }

-- what is told of each name, if something is
abbrev pub Telling : Type 0
Telling = Name → Option Source

-- ---- what is recorded

-- a declaration of a module under its printed name, where it is held
abbrev pub record_of : ModulePath → Decl → Option Name → List (Name × Source)
record_of p d (Some y) = (y, (p, declared_name d)) ∷ []
record_of p d None = []

-- of the declarations of a module, where the first stands at this place
abbrev pub records_among : (ℕ → Option Name) → ModulePath → ℕ → List Decl → List (Name × Source)
records_among held p place [] = []
records_among held p place (d ∷ ds) = record_of p d (held place) ++ records_among held p (place + 1) ds

abbrev pub records_in : HeldNames → Module → List (Name × Source)
records_in held m = records_among (held_at held (string_bytes m.printed_path)) m.path 0 (unit_tree m.unit).declarations

abbrev pub records_of : HeldNames → List (String Global × Module) → List (Name × Source)
records_of held es = flat_map (λ e. records_in held e.1) es

-- what is told is one of the records, or was told before; and of each name that is recorded, or was told of, something is told
pub record AreRecorded (rs : List (Name × Source)) (old new : Telling) : Type 0 where
  pub only : (y : Name) (v : Source) → new y ≡ Some v → (old y ≡ Some v) ⊎ Contains rs (y, v)
  pub each : (y : Name) (v : Source) → Contains rs (y, v) → IsSome (new y)
  pub stays : (y : Name) → IsSome (old y) → IsSome (new y)

-- ---- what that is in the modules

-- a held symbol, and its printed name
pub record IsHeldAs (modules : Modules) (root : Path) (keep : List Name) (y : Name) (s : Symbol) : Type 0 where
  pub reached : Reached modules root keep s
  pub printed : IsPrinted modules root s y

-- a loaded module and a name that it declares, which is held under this printed name
pub record IsSourceOf (modules : Modules) (root : Path) (keep : List Name) (y : Name) (v : Source) : Type 0 where
  pub unit : UnitTree
  pub loaded : Contains modules (v.0, unit)
  pub declares : Declares unit v.1
  pub held : IsHeldAs modules root keep y (source_symbol v)

-- what is told of a name is a held symbol that is printed so, or was told before; and of each held symbol's name something is told
pub record AreTold (modules : Modules) (root : Path) (keep : List Name) (old new : Telling) : Type 0 where
  pub held : (y : Name) (v : Source) → new y ≡ Some v → (old y ≡ Some v) ⊎ IsSourceOf modules root keep y v
  pub each : (y : Name) (s : Symbol) → IsHeldAs modules root keep y s → IsSome (new y)
