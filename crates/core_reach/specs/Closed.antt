-- What a closing leaves: all that is reached in the loaded modules is held, and what it leads to elsewhere is asked for.
use Rattle.std.specs.Prelude.{◌≡◌, ◌⊎◌, ℕ, List, [], ◌∷◌, ◌++◌, Some, None, true, false, if◌then◌else◌, slice_get}
use Rattle.std.specs.Option.{IsSome}
use Rattle.std.specs.List.{Contains}
use Rattle.std.specs.Str.{bytes_eq}
use Rattle.std.specs.BTreeMap.{get_by_text}
use Rattle.wgsl_path.specs.declared.path.ModulePath.{ModulePath}
use Rattle.wgsl_path.specs.Paths.{path_text}
use Rattle.core_syntax.specs.Tree.{Decl, UnitTree}
use Rattle.core_syntax.specs.View.{unit_tree}
use Rattle.core_syntax.specs.Names.{declared_name}
use Rattle.wesl_resolve.specs.Mangling.{mangled}
use Rattle.core_link_spec.specs.Occurrences.{Name, occurrences}
use Rattle.core_link_spec.specs.Modules.{Path, Symbol}
use Rattle.core_link_spec.specs.Named.{HasImportOf}
use Rattle.core_link_spec.specs.Rounds.{LoadError, missing_decl}
use Rattle.core_scopes.specs.declared.error.ImportError.{ImportError}
use Rattle.core_scopes.specs.declared.error.ImportError.TheVariants.{OutOfMemory}
use Rattle.core_scopes.specs.declared.module.Module.{Module}
use Rattle.core_scopes.specs.Outcomes.{symbol_at, unloaded, Loaded, item_at, outcome, loaded}
use Rattle.core_reach.specs.Reach.{Holding, ReachedAt, KeepsAll}
use Rattle.core_reach.specs.Closing.{HeldNames, held_at}
use Rattle.core_reach.specs.Following.{AllFollowed}
use Rattle.core_reach.specs.Stages.{AskedNames, asks, name_asked, stage}
use Rattle.core_reach.specs.Missing.{refusal_of, IsFirstMissing}
use Rattle.core_reach.specs.Resolved.{LoadedModules, HoldsReached}
use Rattle.core_reach.specs.declared.linking.AskedModule.{AskedModule}

-- the printed name of the declaration at a place: the root's names stay
pub record IsNamedAt (ms : LoadedModules) (root m : Path) (place : ℕ) (y : Name) : Type 0 where
  pub home : Module
  pub found : get_by_text ms m ≡ Some home
  pub declaration : Decl
  pub stands : slice_get (unit_tree home.unit).declarations place ≡ Some declaration
  pub named : y ≡ (if bytes_eq m root then declared_name declaration else mangled home.path (declared_name declaration))

abbrev pub AreNamed : LoadedModules → Path → Holding → Type 0
AreNamed ms root held = (m : Path) (place : ℕ) (y : Name) → held m place ≡ Some y → IsNamedAt ms root m place y

abbrev pub HoldsNothing : HeldNames → Type 0
HoldsNothing held = (m : Path) (place : ℕ) → held_at held m place ≡ None

-- an item of a module that is not loaded, which an occurrence in a reached declaration names
pub record IsAskedAt (find : Loaded) (root : Path) (keep : List Name) (s : Symbol) : Type 0 where
  pub home : Path
  pub place : ℕ
  pub reached : ReachedAt find root keep home place
  pub there : Path × UnitTree
  pub found : find home ≡ Some there
  pub declaration : Decl
  pub stands : slice_get there.1.declarations place ≡ Some declaration
  pub name : Name
  pub occurs : Contains (occurrences declaration) name
  pub is_unloaded : outcome find there name ≡ unloaded s

-- each module is asked for under its printed path, for some name
abbrev pub AreAskedByName : AskedNames → Type 0
AreAskedByName asked = (p : Path) (a : AskedModule) → get_by_text asked p ≡ Some a → (path_text a.path ≡ p) × ((x : Name) × (name_asked (Some a) x ≡ true))

-- an import of some module of the table names a module by this path
pub record IsNamedInTable (ms : LoadedModules) (path : ModulePath) : Type 0 where
  pub home : Path
  pub one : Module
  pub stands : get_by_text ms home ≡ Some one
  pub has : HasImportOf (unit_tree one.unit) path

-- each module is asked for by a path by which an import of some module of the table names it
abbrev pub AreAskedByImport : LoadedModules → AskedNames → Type 0
AreAskedByImport ms asked = (p : Path) (a : AskedModule) → get_by_text asked p ≡ Some a → IsNamedInTable ms a.path

-- each module of the table but the root has a path by which an import of one of them names it
abbrev pub AreNamedInTable : LoadedModules → Path → Type 0
AreNamedInTable ms root = (p : Path) (m : Module) → get_by_text ms p ≡ Some m → (p ≡ root → ⊥) → IsNamedInTable ms m.path

-- what is reached is held
abbrev pub HoldsAllReached : Loaded → Path → List Name → Holding → Type 0
HoldsAllReached find root keep held = (m : Path) (place : ℕ) → ReachedAt find root keep m place → IsSome (held m place)

-- a round's end: what is reached in the loaded modules is held, under its printed name, and nothing else; nothing is missing;
-- what is asked for is what occurs there and is not loaded
pub record IsClosed (ms : LoadedModules) (root : Path) (keep : List Name) (held : HeldNames) (asked : AskedNames) : Type 0 where
  pub sound : HoldsReached (loaded ms) root keep (held_at held)
  pub named : AreNamed ms root (held_at held)
  pub kept : KeepsAll (loaded ms) root keep (held_at held)
  pub followed : AllFollowed (loaded ms) (stage held (asks asked) false [])
  pub asked_at : (s : Symbol) → asks asked s ≡ true → IsAskedAt (loaded ms) root keep s
  pub by_name : AreAskedByName asked
  pub by_import : AreAskedByImport ms asked

-- more modules are loaded: among them those that were asked for
pub record IsLoadedOn (old : LoadedModules) (asked : AskedNames) (new : LoadedModules) : Type 0 where
  pub stay : (p : Path) (m : Module) → get_by_text old p ≡ Some m → get_by_text new p ≡ Some m
  pub come : (p : Path) (a : AskedModule) → get_by_text asked p ≡ Some a → (m : Module) × (get_by_text new p ≡ Some m)

-- the first kept name that the root doesn't declare
pub record IsFirstUndeclared (find : Loaded) (root : Path) (keep : List Name) (x : Name) : Type 0 where
  pub before : List Name
  pub behind : List Name
  pub whole : keep ≡ before ++ x ∷ behind
  pub declared : (y : Name) → Contains before y → (m : Path) × (place : ℕ) × (item_at (record { home = root; name = y }) (find root) ≡ symbol_at m place)
  pub undeclared : (m : Path) (place : ℕ) → item_at (record { home = root; name = x }) (find root) ≡ symbol_at m place → ⊥

-- the first occurrence in what is reached that denotes nothing
pub record IsStopped (ms : LoadedModules) (root : Path) (keep : List Name) (held : HeldNames) (r : LoadError) : Type 0 where
  pub sound : HoldsReached (loaded ms) root keep (held_at held)
  pub whole : HoldsAllReached (loaded ms) root keep (held_at held)
  pub kept : KeepsAll (loaded ms) root keep (held_at held)
  pub first : IsFirstMissing (loaded ms) (held_at held) r

-- what a closing is refused for, memory aside
abbrev pub RefusesClosing : LoadedModules → Path → List Name → HeldNames → ImportError → Type 0
RefusesClosing ms root keep held e = (e ≡ OutOfMemory) ⊎ ((r : LoadError) × (refusal_of e ≡ Some r) × IsStopped ms root keep held r)

-- likewise in the root's round, where a kept name may be missing
abbrev pub RefusesRoot : LoadedModules → Path → List Name → HeldNames → ImportError → Type 0
RefusesRoot ms root keep held e =
    RefusesClosing ms root keep held e ⊎ ((x : Name) × IsFirstUndeclared (loaded ms) root keep x × ((r : LoadError) × (refusal_of e ≡ Some r) × (r ≡ missing_decl root x)))
