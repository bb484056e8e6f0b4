-- The program that loaded modules are, over the paths of modules; programs over printed paths (`Executions`) are made of it.
use Rattle.std.specs.Prelude.{◌≡◌, List, [], ◌∷◌, ◌++◌, map, Option, Some, None, if◌then◌else◌, ◌↔◌}
use Rattle.std.specs.Str.{bytes_eq}
use Rattle.wgsl_path.specs.declared.path.ModulePath.{ModulePath}
use Rattle.wgsl_path.specs.Paths.{path_text}
use Rattle.core_syntax.specs.Tree.{Decl, Imp, UnitTree}
use Rattle.core_syntax.specs.Names.{declared_name}
use Rattle.core_link_spec.specs.Occurrences.{Name}
use Rattle.core_link_spec.specs.Modules.{Path, Modules, local_name, IsModule, IsDeclaration, Denotes, Reached}
use Rattle.core_link_spec.specs.Modules.{Symbol as SourceSymbol}
use Rattle.core_link_spec.specs.Linked.{Selects, IsInOrder}
use Rattle.core_programs.specs.Runs.{find_decl}

-- a declaration's module, by its path, and name
pub record Symbol : Type 0 where
  pub home : ModulePath
  pub called : Name

-- what is held, what each symbol declares, and what a name means in a module
pub record Program : Type 0 where
  pub held : List Symbol
  pub item : Symbol → Option Decl
  pub denotes : ModulePath → Name → Option Symbol

-- a symbol by the printed path of its module
abbrev pub source_symbol : Symbol → SourceSymbol
source_symbol s = record { home = path_text s.home; name = s.called }

-- the symbol of a module's declaration
abbrev pub declared_symbol : Path → Decl → SourceSymbol
declared_symbol m d = record { home = m; name = declared_name d }

module _ (modules : Modules) (root : Path) (keep : List Name) where
  -- the held symbols of these modules: of each in turn, those whose declarations are reached, in text order
  pub data AreHeld : List Path → List SourceSymbol → Type 0 where
    of_none : AreHeld [] []
    of_more : {m : Path} {ms : List Path} {ss : List SourceSymbol} (unit : UnitTree) (held : List Decl) → IsModule modules m unit
        → Selects (λ d. Reached modules root keep (declared_symbol m d)) unit.declarations held → AreHeld ms ss
        → AreHeld (m ∷ ms) (map (declared_symbol m) held ++ ss)

  -- what is held, in the order of the linked unit
  pub record IsHeldList (ss : List SourceSymbol) : Type 0 where
    pub order : List Path
    pub in_order : IsInOrder modules root order
    pub are_held : AreHeld order ss

  -- The program of the modules: each symbol has its declaration, each name means what it denotes, and what is held gets its value
  -- at the start.
  pub record IsProgramOf (p : Program) : Type 0 where
    pub items : (s : Symbol) (d : Decl) → (p.item s ≡ Some d) ↔ IsDeclaration modules (source_symbol s) d
    pub found : (m : ModulePath) (x : Name) (s : Symbol) → p.denotes m x ≡ Some s → Denotes modules (path_text m) x (source_symbol s)
    pub finds : (m : ModulePath) (x : Name) (t : SourceSymbol) → Denotes modules (path_text m) x t
        → (s : Symbol) × (p.denotes m x ≡ Some s) × (source_symbol s ≡ t)
    pub held : IsHeldList (map source_symbol p.held)

-- ---- that program, as a function of the modules and of what is held

-- the first module at a printed path
abbrev pub unit_at : Modules → Path → Option UnitTree
unit_at [] m = None
unit_at (a ∷ rest) m = if bytes_eq (path_text a.0) m then Some a.1 else unit_at rest m

-- the first import of a name
abbrev pub import_at : Name → List Imp → Option Imp
import_at x [] = None
import_at x (i ∷ rest) = if bytes_eq x (local_name i) then Some i else import_at x rest

abbrev pub declared_at : Name → Option UnitTree → Option Decl
declared_at x (Some u) = find_decl x u.declarations
declared_at x None = None

abbrev pub item_of : Modules → Symbol → Option Decl
item_of modules s = declared_at s.called (unit_at modules (path_text s.home))

-- the symbol, if it is declared
abbrev pub if_declared : Symbol → Option Decl → Option Symbol
if_declared s (Some d) = Some s
if_declared s None = None

abbrev pub import_target : Modules → Imp → Option ModulePath → Option Symbol
import_target modules i (Some path) = if_declared (record { home = path; called = i.item }) (item_of modules (record { home = path; called = i.item }))
import_target modules i None = None

abbrev pub imported_symbol : Modules → Option Imp → Option Symbol
imported_symbol modules (Some i) = import_target modules i i.path
imported_symbol modules None = None

-- the module's own, else what its import names
abbrev pub own_or_imported : Modules → ModulePath → Name → UnitTree → Option Decl → Option Symbol
own_or_imported modules m x u (Some d) = Some (record { home = m; called = x })
own_or_imported modules m x u None = imported_symbol modules (import_at x u.imports)

abbrev pub denoted_in : Modules → ModulePath → Name → Option UnitTree → Option Symbol
denoted_in modules m x (Some u) = own_or_imported modules m x u (find_decl x u.declarations)
denoted_in modules m x None = None

abbrev pub sources : Modules → List Symbol → Program
sources modules held = record {
  held = held;
  item = item_of modules;
  denotes = λ m x. denoted_in modules m x (unit_at modules (path_text m));
}
