-- Which modules are loaded, round by round, and the first refusal on the way.
use Rattle.std.specs.Prelude.{◌≡◌, ◌≢◌, ℕ, ◌+◌, ◌<◌, ◌≤◌, List, [], ◌∷◌, ◌++◌, length, Option, Some, None, Bool, Result, Ok, Err, ◌↔◌}
use Rattle.std.specs.List.{Contains, filter_map}
use Rattle.wesl_chains.specs.ModulePath.{ModulePath}
use Rattle.wgsl_token.specs.declared.fault.error.Error.{Error}
use Rattle.wgsl_token.specs.declared.fault.error.Refusal.{Refusal}
use Rattle.wesl_conditions.specs.declared.features.error.CondCompError.{CondCompError}
use Rattle.wgsl_skeleton.specs.DeclarationsTree.{UnitTree}
use Rattle.wesl_chains.specs.Outlines.{Name, Path, Kind, directive, assertion, entry_point, other, Outline, own_names, scope_names}
use Rattle.wesl_chains.specs.Chains.{Outcome, declared_at, unloaded, missing, private}
use Rattle.wesl_chains.specs.Reaching.{IsAsked, IsRefusedAt, IsBefore, StandsBefore}
use Rattle.wesl_linking_spec.specs.Outlining.{outline_of}
use Rattle.wesl_linking_spec.specs.Sources.{Sources, unit_of, not_found, faulty, conditioned, left_open, gave_up, canonical, Modules, finder}

-- why modules are not loaded, with the module that it is about
pub data LoadError : Type 0 where
  too_many_modules : Path → LoadError
  module_not_found : Path → LoadError
  syntax : Path → Error → LoadError
  parser_gave_up : Path → Refusal → LoadError
  condition : Path → CondCompError → LoadError
  condition_left : Path → LoadError
  duplicate_symbol : Path → Name → LoadError
  missing_decl : Path → Name → LoadError
  private_decl : Path → Name → LoadError

abbrev pub module_refused : LoadError → Path
module_refused (too_many_modules p) = p
module_refused (module_not_found p) = p
module_refused (syntax p e) = p
module_refused (parser_gave_up p r) = p
module_refused (condition p e) = p
module_refused (condition_left p) = p
module_refused (duplicate_symbol p x) = p
module_refused (missing_decl p x) = p
module_refused (private_decl p x) = p

-- the path by which the error names the module
abbrev pub path_told : LoadError → ModulePath
path_told e = canonical (module_refused e)

-- ---- names that stand twice in a module's scope

-- each stands once
pub data AreDistinct : List Name → Type 0 where
  no_names : AreDistinct []
  another : {x : Name} {xs : List Name} → AreDistinct xs → (Contains xs x → ⊥) → AreDistinct (xs ++ x ∷ [])

-- the first that stood before
pub record IsFirstAgain (names : List Name) (x : Name) : Type 0 where
  pub before : List Name
  pub behind : List Name
  pub whole : names ≡ before ++ x ∷ behind
  pub distinct : AreDistinct before
  pub again : Contains before x

-- ---- names that are kept

abbrev pub if_entry_point : Kind → Option Name → Option Name
if_entry_point entry_point x = x
if_entry_point directive x = None
if_entry_point assertion x = None
if_entry_point other x = None

-- the names of a module's entry points, in text order
abbrev pub entry_points : Outline → List Name
entry_points o = filter_map (λ e. if_entry_point e.kind e.name) o.entries

-- the names that are asked for, or where none is, the root's entry points
abbrev pub kept_names : List Name → Outline → List Name
kept_names [] o = entry_points o
kept_names (x ∷ xs) o = x ∷ xs

-- the first of these names that is not among those that are declared
pub record IsFirstUnkept (asked declared : List Name) (x : Name) : Type 0 where
  pub before : List Name
  pub behind : List Name
  pub whole : asked ≡ before ++ x ∷ behind
  pub declares : (y : Name) → Contains before y → Contains declared y
  pub lacks : Contains declared x → ⊥

-- ---- modules one by one

-- One module, so many being loaded already: it is one too many, or what is found there is refused, or a name stands twice, or it is
-- loaded.
module _ (found : Sources) (max : ℕ) where
  pub data LoadsOne (n : ℕ) (p : Path) : Result UnitTree LoadError → Type 0 where
    one_too_many : max ≤ n → LoadsOne n p (Err (too_many_modules p))
    is_not_found : n < max → found p not_found → LoadsOne n p (Err (module_not_found p))
    is_faulty : {e : Error} → n < max → found p (faulty e) → LoadsOne n p (Err (syntax p e))
    gives_up : {r : Refusal} → n < max → found p (gave_up r) → LoadsOne n p (Err (parser_gave_up p r))
    is_conditioned : {e : CondCompError} → n < max → found p (conditioned e) → LoadsOne n p (Err (condition p e))
    is_left : n < max → found p left_open → LoadsOne n p (Err (condition_left p))
    has_twice : {u : UnitTree} {x : Name} → n < max → found p (unit_of u) → IsFirstAgain (scope_names (outline_of (canonical p) u)) x
        → LoadsOne n p (Err (duplicate_symbol p x))
    is_loaded : {u : UnitTree} → n < max → found p (unit_of u) → AreDistinct (scope_names (outline_of (canonical p) u)) → LoadsOne n p (Ok u)

  -- modules that are loaded one after another, up to the first refusal
  pub data Loads : ℕ → List Path → Result Modules LoadError → Type 0 where
    none_left : {n : ℕ} → Loads n [] (Ok [])
    refused : {n : ℕ} {p : Path} {ps : List Path} {r : LoadError} → LoadsOne n p (Err r) → Loads n (p ∷ ps) (Err r)
    later : {n : ℕ} {p : Path} {ps : List Path} {u : UnitTree} {r : LoadError} → LoadsOne n p (Ok u) → Loads (n + 1) ps (Err r) → Loads n (p ∷ ps) (Err r)
    loaded : {n : ℕ} {p : Path} {ps : List Path} {u : UnitTree} {ms : Modules} → LoadsOne n p (Ok u) → Loads (n + 1) ps (Ok ms)
        → Loads n (p ∷ ps) (Ok ((p, u) ∷ ms))

-- ---- rounds

pub data IsAscending : List Path → Type 0 where
  no_path : IsAscending []
  one_path : {p : Path} → IsAscending (p ∷ [])
  one_before : {p q : Path} {ps : List Path} → IsBefore p q → IsAscending (q ∷ ps) → IsAscending (p ∷ q ∷ ps)

-- the error for a name that denotes nothing
abbrev pub refusal : Outcome → Option LoadError
refusal (missing s) = Some (missing_decl s.home s.name)
refusal (private s) = Some (private_decl s.home s.name)
refusal (declared_at n j) = None
refusal (unloaded s) = None

-- in lazy mode the kept names begin, in the others (`loads_all`) all places
module _ (root : Path) (kept : List Name) (loads_all : Bool) (ms : Modules) where
  -- the modules of the next round: those that are asked for, in byte order
  pub record IsNextRound (ps : List Path) : Type 0 where
    pub ascending : IsAscending ps
    pub asked : (p : Path) → Contains ps p ↔ IsAsked (finder ms) root kept loads_all p

  -- the error of the first name that denotes nothing
  pub record IsFirstRefused (e : LoadError) : Type 0 where
    pub home : Path
    pub place : ℕ
    pub number : ℕ
    pub outcome : Outcome
    pub refused : IsRefusedAt (finder ms) root kept loads_all home place number outcome
    pub first : (m : Path) (k i : ℕ) (r : Outcome) → IsRefusedAt (finder ms) root kept loads_all m k i r → StandsBefore m k i home place number → ⊥
    pub is_error : refusal outcome ≡ Some e

  abbrev pub NoneRefused : Type 0
  NoneRefused = (m : Path) (k i : ℕ) (r : Outcome) → IsRefusedAt (finder ms) root kept loads_all m k i r → ⊥

module _ (found : Sources) (root : Path) (kept : List Name) (loads_all : Bool) (max : ℕ) where
  -- From these loaded modules on: the first name that denotes nothing is refused; else what is asked for is loaded, and so on until nothing
  -- is.
  pub data LoadsRounds : Modules → Result Modules LoadError → Type 0 where
    a_name_refused : {ms : Modules} {r : LoadError} → IsFirstRefused root kept loads_all ms r → LoadsRounds ms (Err r)
    nothing_asked : {ms : Modules} → NoneRefused root kept loads_all ms → IsNextRound root kept loads_all ms [] → LoadsRounds ms (Ok ms)
    a_module_refused : {ms : Modules} {ps : List Path} {r : LoadError} → NoneRefused root kept loads_all ms → IsNextRound root kept loads_all ms ps
        → Loads found max (length ms) ps (Err r) → LoadsRounds ms (Err r)
    a_round : {ms more : Modules} {ps : List Path} {o : Result Modules LoadError} → NoneRefused root kept loads_all ms → IsNextRound root kept loads_all ms ps
        → ps ≢ [] → Loads found max (length ms) ps (Ok more) → LoadsRounds (ms ++ more) o → LoadsRounds ms o

module _ (found : Sources) (root : Path) (asked : List Name) (loads_all : Bool) (max : ℕ) where
  -- What loading comes to: the root is loaded first; then it has to declare the names that are asked for, in any mode; then come rounds,
  -- for the names that are kept.
  pub data IsLoadingResult : Result Modules LoadError → Type 0 where
    root_refused : {r : LoadError} → Loads found max 0 (root ∷ []) (Err r) → IsLoadingResult (Err r)
    kept_missing : {u : UnitTree} {x : Name} → Loads found max 0 (root ∷ []) (Ok ((root, u) ∷ [])) → IsFirstUnkept asked (own_names (outline_of (canonical root) u)) x
        → IsLoadingResult (Err (missing_decl root x))
    goes_on : {u : UnitTree} {o : Result Modules LoadError} → Loads found max 0 (root ∷ []) (Ok ((root, u) ∷ []))
        → ((x : Name) → Contains asked x → Contains (own_names (outline_of (canonical root) u)) x)
        → LoadsRounds found root (kept_names asked (outline_of (canonical root) u)) loads_all max ((root, u) ∷ []) o → IsLoadingResult o
