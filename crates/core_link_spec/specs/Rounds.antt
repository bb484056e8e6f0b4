-- Which modules are loaded, round by round, and the first refusal on the way.
use Rattle.std.specs.Prelude.{◌≡◌, ◌≢◌, ℕ, ◌+◌, ◌<◌, ◌≤◌, ◌⊎◌, List, [], ◌∷◌, ◌++◌, map, length, Result, Ok, Err, Some, ◌↔◌}
use Rattle.std.specs.List.{Contains, slice_get}
use Rattle.std.specs.Ordering.{nat_cmp}
use Rattle.std.specs.Cmp.Lexicographic.{slice_cmp}
use Rattle.std.specs.declared.cmp.Ordering.TheVariants.{Less}
use Rattle.wgsl_path.specs.declared.path.ModulePath.{ModulePath}
use Rattle.wgsl_path.specs.Paths.{path_text}
use Rattle.wesl_resolve.specs.Error.{Error}
use Rattle.core_syntax.specs.Tree.{Decl, UnitTree}
use Rattle.core_syntax.specs.Names.{declared_name}
use Rattle.wesl_resolve.specs.Found.{Answer, unit_of, not_found, faulty, unsupported}
use Rattle.core_link_spec.specs.Occurrences.{Name, occurrences}
use Rattle.core_link_spec.specs.Modules.{Path, Symbol, Modules, Declares, local_name, IsModule, IsMissing, IsPrivate, Reached, IsAsked}

-- what is found at each path
abbrev pub Sources : Type 1
Sources = Path → Answer → Type 0

-- why modules are not linked
pub data LoadError : Type 0 where
  too_many_modules : Path → LoadError
  module_not_found : Path → LoadError
  syntax : Path → Error → LoadError
  module_unsupported : Path → LoadError
  duplicate_symbol : Path → Name → LoadError
  missing_decl : Path → Name → LoadError
  private : Path → Name → LoadError

-- the names that a module's scope has, in text order
abbrev pub scope_names : UnitTree → List Name
scope_names u = map local_name u.imports ++ map declared_name u.declarations

-- each stands once
pub data AreDistinct : List Name → Type 0 where
  no_names : AreDistinct []
  another : {x : Name} {xs : List Name} → AreDistinct xs → (Contains xs x → ⊥) → AreDistinct (xs ++ x ∷ [])

-- the first that stood before
pub record IsFirstAgain (names : List Name) (x : Name) : Type 0 where
  pub before : List Name
  pub behind : List Name
  pub whole : names ≡ before ++ x ∷ behind
  pub distinct : AreDistinct before
  pub again : Contains before x

-- Modules that are tested one after another, so many being loaded already: each may be one too many, not be found, have a
-- fault, use what is not supported yet, or have one name twice.
module _ (sources : Sources) (max : ℕ) where
  pub data Loads : ℕ → List Path → Result Modules LoadError → Type 0 where
    all_loaded : {n : ℕ} → Loads n [] (Ok [])
    one_too_many : {n : ℕ} {p : Path} {ps : List Path} → max ≤ n → Loads n (p ∷ ps) (Err (too_many_modules p))
    is_not_found : {n : ℕ} {p : Path} {ps : List Path} → n < max → sources p not_found → Loads n (p ∷ ps) (Err (module_not_found p))
    is_faulty : {n : ℕ} {p : Path} {ps : List Path} {e : Error} → n < max → sources p (faulty e) → Loads n (p ∷ ps) (Err (syntax p e))
    is_unsupported : {n : ℕ} {p : Path} {ps : List Path} → n < max → sources p unsupported → Loads n (p ∷ ps) (Err (module_unsupported p))
    has_a_name_twice : {n : ℕ} {p : Path} {ps : List Path} {u : UnitTree} {x : Name} → n < max → sources p (unit_of u)
        → IsFirstAgain (scope_names u) x → Loads n (p ∷ ps) (Err (duplicate_symbol p x))
    loaded_then_refused : {n : ℕ} {p : Path} {ps : List Path} {u : UnitTree} {r : LoadError} → n < max → sources p (unit_of u)
        → AreDistinct (scope_names u) → Loads (n + 1) ps (Err r) → Loads n (p ∷ ps) (Err r)
    loaded : {n : ℕ} {p : Path} {ps : List Path} {u : UnitTree} {path : ModulePath} {modules : Modules} → n < max → sources p (unit_of u)
        → AreDistinct (scope_names u) → path_text path ≡ p → Loads (n + 1) ps (Ok modules) → Loads n (p ∷ ps) (Ok ((path, u) ∷ modules))

-- in byte order of what is printed
abbrev pub IsBefore : Path → Path → Type 0
IsBefore p q = slice_cmp nat_cmp p q ≡ Less

pub data IsAscending : List Path → Type 0 where
  no_path : IsAscending []
  one_path : {p : Path} → IsAscending (p ∷ [])
  one_before : {p q : Path} {ps : List Path} → IsBefore p q → IsAscending (q ∷ ps) → IsAscending (p ∷ q ∷ ps)

-- the modules of the next round: those that are asked for, in byte order
pub record IsNextRound (modules : Modules) (root : Path) (keep : List Name) (ps : List Path) : Type 0 where
  pub ascending : IsAscending ps
  pub asked : (p : Path) → Contains ps p ↔ IsAsked modules root keep p

-- at a place in a reached declaration, an occurrence that denotes nothing
pub record IsRefusedAt (modules : Modules) (root : Path) (keep : List Name) (m : Path) (declaration occurrence : ℕ) (r : LoadError) : Type 0 where
  pub unit : UnitTree
  pub is_module : IsModule modules m unit
  pub stands : Decl
  pub is_there : slice_get unit.declarations declaration ≡ Some stands
  pub reached : Reached modules root keep (record { home = m; name = declared_name stands })
  pub name : Name
  pub occurs : slice_get (occurrences stands) occurrence ≡ Some name
  pub target : Symbol
  pub why : (IsMissing modules m name target × (r ≡ missing_decl target.home target.name)) ⊎ (IsPrivate modules m name target × (r ≡ private target.home target.name))

-- one place before another: by the modules' printed paths, then the declarations, then the occurrences
pub data StandsBefore (m : Path) (d o : ℕ) : Path → ℕ → ℕ → Type 0 where
  by_module : {n : Path} {e p : ℕ} → IsBefore m n → StandsBefore m d o n e p
  by_declaration : {e p : ℕ} → d < e → StandsBefore m d o m e p
  by_occurrence : {p : ℕ} → o < p → StandsBefore m d o m d p

pub record IsFirstRefused (modules : Modules) (root : Path) (keep : List Name) (r : LoadError) : Type 0 where
  pub home : Path
  pub declaration : ℕ
  pub occurrence : ℕ
  pub refused : IsRefusedAt modules root keep home declaration occurrence r
  pub first : (m : Path) (d o : ℕ) (s : LoadError) → IsRefusedAt modules root keep m d o s → StandsBefore m d o home declaration occurrence → ⊥

abbrev pub NoneRefused : Modules → Path → List Name → Type 0
NoneRefused modules root keep = (m : Path) (d o : ℕ) (r : LoadError) → IsRefusedAt modules root keep m d o r → ⊥

-- From these loaded modules on: the first occurrence that denotes nothing is refused; else what is asked for is loaded, and so
-- on until nothing is.
module _ (sources : Sources) (root : Path) (keep : List Name) (max : ℕ) where
  pub data LoadsRounds : Modules → Result Modules LoadError → Type 0 where
    an_occurrence_refused : {modules : Modules} {r : LoadError} → IsFirstRefused modules root keep r → LoadsRounds modules (Err r)
    nothing_asked : {modules : Modules} → NoneRefused modules root keep → IsNextRound modules root keep [] → LoadsRounds modules (Ok modules)
    a_module_refused : {modules : Modules} {ps : List Path} {r : LoadError} → NoneRefused modules root keep → IsNextRound modules root keep ps
        → Loads sources max (length modules) ps (Err r) → LoadsRounds modules (Err r)
    a_round : {modules more : Modules} {ps : List Path} {o : Result Modules LoadError} → NoneRefused modules root keep → IsNextRound modules root keep ps
        → ps ≢ [] → Loads sources max (length modules) ps (Ok more) → LoadsRounds (modules ++ more) o → LoadsRounds modules o

  -- the first kept name that the root doesn't declare
  pub record IsFirstUnkept (u : UnitTree) (x : Name) : Type 0 where
    pub before : List Name
    pub behind : List Name
    pub whole : keep ≡ before ++ x ∷ behind
    pub declared : (y : Name) → Contains before y → Declares u y
    pub undeclared : Declares u x → ⊥

  -- what loading from the root comes to: the loaded modules, or the first refusal
  pub data IsLoadingResult : Result Modules LoadError → Type 0 where
    root_refused : {r : LoadError} → Loads sources max 0 (root ∷ []) (Err r) → IsLoadingResult (Err r)
    kept_name_missing : {path : ModulePath} {u : UnitTree} {x : Name} → Loads sources max 0 (root ∷ []) (Ok ((path, u) ∷ [])) → IsFirstUnkept u x → IsLoadingResult (Err (missing_decl root x))
    goes_on : {path : ModulePath} {u : UnitTree} {o : Result Modules LoadError} → Loads sources max 0 (root ∷ []) (Ok ((path, u) ∷ [])) → ((x : Name) → Contains keep x → Declares u x)
        → LoadsRounds ((path, u) ∷ []) o → IsLoadingResult o
