-- What the calls answer.
use Rattle.std.specs.Prelude.{◌≡◌, ◌⊎◌, ⊤, ℕ, List, [], ◌∷◌, Option, Some, Ok, Err, string_bytes}
use Rattle.wgsl_path.specs.declared.path.ModulePath.{ModulePath}
use Rattle.wgsl_path.specs.Paths.{path_text}
use Rattle.core_syntax.specs.Tree.{UnitTree}
use Rattle.core_syntax.specs.Print.{unit_text}
use Rattle.wesl_resolve.specs.Found.{unit_of}
use Rattle.core_link_spec.specs.Occurrences.{Name}
use Rattle.core_link_spec.specs.Modules.{Path, Modules, IsModule}
use Rattle.core_link_spec.specs.Named.{AreNamedByImports}
use Rattle.core_link_spec.specs.Rounds.{Sources, LoadError, too_many_modules, module_not_found, syntax, module_unsupported, duplicate_symbol, missing_decl, private, Loads, IsLoadingResult}
use Rattle.core_link_spec.specs.Kept.{kept_names}
use Rattle.core_link_spec.specs.Loaded.{IsClashFree}
use Rattle.core_link_spec.specs.Clashing.{IsFirstClash}
use Rattle.core_link_spec.specs.Same.{SameModules}
use Rattle.core_laws.specs.Programs.{Program}
use Rattle.core_laws.specs.Executions.{IsProgramIn}
use Rattle.core_reach.specs.Resolved.{modules_of, IsResolved}
use Rattle.core_link.specs.declared.rounds.Resolutions.{Resolutions}
use Rattle.core_unit.specs.Texts as part
use Rattle.core_unit.specs.Texts.{IsTextOf}
use Rattle.core_unit.specs.Compiled.{IsCompiled, Refuses}
use Rattle.core_unit.specs.Located.{declaration_of}
use Rattle.core_unit.specs.declared.error.UnitRefusal.{UnitRefusal}
use Rattle.core_laws.specs.Headline.{AreKept, IsLinkedFrom, RunsAsSources, RunsExactlyAsSources}
use Rattle.std.specs.List.{Contains}
use Rattle.std.specs.Option.{IsSome}
use Rattle.wesl_resolve.specs.declared.source_map.BasicSourceMap.{BasicSourceMap}
use Rattle.wesl_resolve.specs.SourceMaps.{decl_at, source_at}
use Rattle.core_link.specs.Recording.{AreTold}
use Rattle.weslc_errors.specs.Mapped.{Texts, HasText, HasDefault, nothing_told, TellsHeld, IsLocated}
use Rattle.weslc_errors.specs.Told.{about_module, about_item, about_name, about_maybe, Tells}
use Rattle.weslc_errors.specs.declared.error.ResolveKind.TheVariants.{ModuleNotFound}
use Rattle.weslc_errors.specs.declared.error.ImportKind.TheVariants.{DuplicateSymbol, MissingDecl, Private}
use Rattle.weslc_errors.specs.declared.error.CompileError.{CompileError}
use Rattle.weslc_errors.specs.declared.error.CompileError.TheVariants.{TooManyModules, Resolve, Syntax, Unsupported, Import, Condition, ConditionLeft, NameClash, Validate, UnclearName, Eval, Unprintable, GaveUp, OutOfMemory}

-- what the map tells of the names of the linked unit: what is held in these tables
abbrev pub TellsTables : Resolutions → BasicSourceMap → Type 0
TellsTables r map = (keep : List Name) → IsResolved r.modules (string_bytes r.root) keep r.held
    → AreTold (modules_of r.modules) (string_bytes r.root) keep nothing_told (decl_at map)

-- What is found at each path, the root's path, the names that are asked for, and how many modules may be loaded.
module _ (found : Sources) (root : Path) (asked : List Name) (max : ℕ) where
  -- ---- what is loaded and linked

  -- the modules that loading comes to, where these names of the root are kept, each but the root under the path by which an import
  -- names it
  pub record AreLoadedFrom (kept : List Name) (modules : Modules) : Type 0 where
    pub are_kept : AreKept found root asked kept
    pub loaded : IsLoadingResult found root kept max (Ok modules)
    pub named : AreNamedByImports modules root

  -- the tables of loaded modules none of whose names clashes
  pub record AreTablesOf (r : Resolutions) : Type 0 where
    pub kept : List Name
    pub modules : Modules
    pub loaded : AreLoadedFrom kept modules
    pub clash_free : IsClashFree modules root kept
    pub same : SameModules modules (modules_of r.modules)
    pub is_root : string_bytes r.root ≡ root
    pub resolved : IsResolved r.modules root kept r.held

  -- ---- the source map

  -- The map has the text of each loaded module and of no other path, and the root's text as default. Of the printed name of each held
  -- symbol it has the module and the name there, and nothing of other names.
  pub record IsMapped (texts : Texts) (map : BasicSourceMap) : Type 0 where
    pub kept : List Name
    pub modules : Modules
    pub loaded : AreLoadedFrom kept modules
    pub each : (m : ModulePath × UnitTree) → Contains modules m → HasText texts map m.0
    pub only : (p : Path) → IsSome (source_at map p) → (u : UnitTree) × IsModule modules p u
    pub default_text : HasDefault texts root map
    pub decls : TellsHeld modules root kept (decl_at map)

  -- ---- refusals

  -- what loading is refused for: the root, or something behind it
  pub data IsRefusedLoading (r : LoadError) : Type 0 where
    of_the_root : Loads found max 0 (root ∷ []) (Err r) → IsRefusedLoading r
    behind_the_root : {unit : UnitTree} → found root (unit_of unit) → IsLoadingResult found root (kept_names asked unit) max (Err r) → IsRefusedLoading r

  -- the first name of the linked unit that is read otherwise than meant
  pub record IsFirstClashFrom (y : Name) : Type 0 where
    pub kept : List Name
    pub modules : Modules
    pub loaded : AreLoadedFrom kept modules
    pub clash : IsFirstClash modules root kept y

  -- Memory aside, and texts that the parser gives up on since they are nested too deep, an error of linking tells the first refusal: of loading, else the first name that clashes
  abbrev pub RefusesLinking : CompileError → Type 0
  RefusesLinking (TooManyModules c) = (m : ModulePath) × (c ≡ about_module m) × IsRefusedLoading (too_many_modules (path_text m))
  RefusesLinking (Resolve c ModuleNotFound) = (m : ModulePath) × (c ≡ about_module m) × IsRefusedLoading (module_not_found (path_text m))
  RefusesLinking (Syntax c f) = (m : ModulePath) × (c ≡ about_module m) × IsRefusedLoading (syntax (path_text m) f)
  RefusesLinking (Unsupported c) = (m : ModulePath) × (c ≡ about_module m) × IsRefusedLoading (module_unsupported (path_text m))
  RefusesLinking (Import c DuplicateSymbol) = (m : ModulePath) × (x : Name) × (c ≡ about_item m x) × IsRefusedLoading (duplicate_symbol (path_text m) x)
  RefusesLinking (Import c MissingDecl) = (m : ModulePath) × (x : Name) × (c ≡ about_item m x) × IsRefusedLoading (missing_decl (path_text m) x)
  RefusesLinking (Import c Private) = (m : ModulePath) × (x : Name) × (c ≡ about_item m x) × IsRefusedLoading (private (path_text m) x)
  RefusesLinking (NameClash c) = (y : Name) × (c ≡ about_name y) × IsFirstClashFrom y
  RefusesLinking (GaveUp c r) = ⊤
  RefusesLinking OutOfMemory = ⊤
  RefusesLinking (Validate c kind) = ⊥
  RefusesLinking (Condition c kind) = ⊥
  RefusesLinking (ConditionLeft c) = ⊥
  RefusesLinking (UnclearName c) = ⊥
  RefusesLinking (Eval c fault) = ⊥
  RefusesLinking (Unprintable c) = ⊥

  -- No text is read as the linked unit. Of its first declaration that no text derives, the first node that no text derives is told by its
  -- name, else by the declaration's.
  pub record IsUnprintable (e : CompileError) : Type 0 where
    pub linked : UnitTree
    pub from : IsLinkedFrom found root asked max linked
    pub name : Option Name
    pub unprintable : part.IsUnprintable linked name
    pub told : e ≡ Unprintable (about_maybe name)

  -- what linking, and printing what is linked, is refused for
  abbrev pub RefusesToLink : CompileError → Type 0
  RefusesToLink e = RefusesLinking e ⊎ IsUnprintable e

  -- a unit that the loaded modules are linked into, and where its names come from
  pub record IsToldFrom (linked : UnitTree) (map : BasicSourceMap) : Type 0 where
    pub from : IsLinkedFrom found root asked max linked
    pub decls : TellsHeld from.modules root from.kept (decl_at map)

  -- The first refusal of the linked unit, where each evaluation may take so many steps, as the error tells it. The declaration that it names, where it names one, is a held symbol's,
  -- which the map tells: so the error names the module and the declaration there.
  pub record IsRefusedUnit (steps : ℕ) (e : CompileError) : Type 0 where
    pub linked : UnitTree
    pub map : BasicSourceMap
    pub from : IsToldFrom linked map
    pub refusal : UnitRefusal
    pub refused : Refuses steps linked refusal
    pub told : Tells (decl_at map) refusal e
    pub located : (y : Name) → declaration_of refusal ≡ Some y → IsLocated from.from.modules root from.from.kept (decl_at map) y

  -- what linking, and compiling what is linked, is refused for, where each evaluation may take so many steps
  abbrev pub RefusesToCompile : ℕ → CompileError → Type 0
  RefusesToCompile steps e = RefusesLinking e ⊎ IsRefusedUnit steps e

  -- ---- texts

  -- The text of the unit that the loaded modules are linked into, which is read as that unit. It declares what is held, each once
  -- under its printed name, and its runs end well exactly where those of the modules do.
  pub record IsLinkedText (text : List ℕ) : Type 0 where
    pub linked : UnitTree
    pub from : IsLinkedFrom found root asked max linked
    pub whole : text ≡ unit_text linked
    pub reads : IsTextOf linked text
    pub keeps : RunsExactlyAsSources from.modules root from.kept linked
    pub has_program : (p : Program) × IsProgramIn from.modules root from.kept p

  -- The compiled text of the unit that the loaded modules are linked into. What it is read as declares the held functions, each
  -- once under its printed name, and every run that ends well in the modules ends well there, with the same answer in no more steps.
  pub record IsCompiledText (steps : ℕ) (text : List ℕ) : Type 0 where
    pub linked : UnitTree
    pub from : IsLinkedFrom found root asked max linked
    pub compiled : IsCompiled steps linked text
    pub keeps : RunsAsSources from.modules root from.kept linked compiled.low
    pub has_program : (p : Program) × IsProgramIn from.modules root from.kept p
