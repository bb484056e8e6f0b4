-- What occurs in what is held and denotes nothing, by places.
use Rattle.std.specs.Prelude.{◌≡◌, ℕ, [], Option, Some, None, nat_eq, if◌then◌else◌, slice_get}
use Rattle.std.specs.Option.{IsSome}
use Rattle.std.specs.Ordering.{nat_cmp}
use Rattle.std.specs.Str.{bytes_eq}
use Rattle.std.specs.BTreeMap.{BTreeMap, get}
use Rattle.wgsl_path.specs.Paths.{path_text}
use Rattle.core_syntax.specs.Tree.{Decl, UnitTree}
use Rattle.wesl_resolve.specs.declared.error.ResolveError.TheVariants as resolve
use Rattle.core_link_spec.specs.Occurrences.{Name, occurrences}
use Rattle.core_link_spec.specs.Modules.{Path}
use Rattle.core_link_spec.specs.Rounds.{LoadError, too_many_modules, module_not_found, syntax, module_unsupported, duplicate_symbol, missing_decl, private as is_private, StandsBefore}
use Rattle.core_scopes.specs.declared.error.ImportError.{ImportError}
use Rattle.core_scopes.specs.declared.error.ImportError.TheVariants as import
use Rattle.core_scopes.specs.Outcomes.{Outcome, symbol_at, unloaded, missing, private, free, Loaded, outcome}
use Rattle.core_reach.specs.Reach.{Holding}

-- what an error tells, want of memory aside, and texts that the parser gives up on
abbrev pub refusal_of : ImportError → Option LoadError
refusal_of (import.TooManyModules p) = Some (too_many_modules (path_text p))
refusal_of (import.Resolve (resolve.ModuleNotFound p)) = Some (module_not_found (path_text p))
refusal_of (import.Resolve (resolve.Syntax p e)) = Some (syntax (path_text p) e)
refusal_of (import.Resolve (resolve.Unsupported p)) = Some (module_unsupported (path_text p))
refusal_of (import.Resolve (resolve.GaveUp p r)) = None
refusal_of (import.Resolve resolve.OutOfMemory) = None
refusal_of (import.DuplicateSymbol p x) = Some (duplicate_symbol (path_text p) x)
refusal_of (import.MissingDecl p x) = Some (missing_decl (path_text p) x)
refusal_of (import.Private p x) = Some (is_private (path_text p) x)
refusal_of import.OutOfMemory = None

-- why an occurrence is refused
abbrev pub RefusedFor : Outcome → LoadError → Type 0
RefusedFor (symbol_at m place) r = ⊥
RefusedFor (unloaded s) r = ⊥
RefusedFor (missing s) r = r ≡ missing_decl s.home s.name
RefusedFor (private s) r = r ≡ is_private s.home s.name
RefusedFor free r = ⊥

-- what is answered where it is asked why an occurrence is refused
abbrev pub TellsWhy : Outcome → Option ImportError → Type 0
TellsWhy o None = (r : LoadError) → RefusedFor o r → ⊥
TellsWhy o (Some e) = (r : LoadError) × (refusal_of e ≡ Some r) × RefusedFor o r

-- what is held of one module, and one declaration alone
abbrev pub held_in : Path → BTreeMap ℕ Name → Holding
held_in m places n k = if bytes_eq m n then get nat_cmp places k else None

abbrev pub held_alone : Path → ℕ → Holding
held_alone m place n k = if bytes_eq m n then (if nat_eq place k then Some [] else None) else None

module _ (find : Loaded) (held : Holding) where
  -- an occurrence in what is held that denotes nothing: of which module, in which declaration, which
  pub record IsMissingAt (m : Path) (declaration occurrence : ℕ) (r : LoadError) : Type 0 where
    pub is_held : IsSome (held m declaration)
    pub home : Path × UnitTree
    pub is_found : find m ≡ Some home
    pub stands : Decl
    pub is_there : slice_get home.1.declarations declaration ≡ Some stands
    pub name : Name
    pub occurs : slice_get (occurrences stands) occurrence ≡ Some name
    pub why : RefusedFor (outcome find home name) r

  -- the first of them
  pub record IsFirstMissing (r : LoadError) : Type 0 where
    pub home : Path
    pub declaration : ℕ
    pub occurrence : ℕ
    pub refused : IsMissingAt home declaration occurrence r
    pub first : (m : Path) (d o : ℕ) (s : LoadError) → IsMissingAt m d o s → StandsBefore m d o home declaration occurrence → ⊥

  abbrev pub NoneMissing : Type 0
  NoneMissing = (m : Path) (d o : ℕ) (r : LoadError) → IsMissingAt m d o r → ⊥

  -- what is answered where the first is sought
  abbrev pub FindsMissing : Option ImportError → Type 0
  FindsMissing None = NoneMissing
  FindsMissing (Some e) = (r : LoadError) × (refusal_of e ≡ Some r) × IsFirstMissing r
