-- What a package is linked into, or why it is not: the whole of linking, up to the printed text.
use Rattle.std.specs.Prelude.{ℕ, List, [], Option, Some, None, Bool, true, false, Result, Ok, Err}
use Rattle.wgsl_skeleton.specs.DeclarationsTree.{UnitTree}
use Rattle.wesl_chains.specs.Outlines.{Name, Path, Outline}
use Rattle.wesl_linking_spec.specs.Sources.{Sources, with_root, Modules, finder}
use Rattle.wesl_linking_spec.specs.Loading.{LoadError, kept_names, IsLoadingResult}
use Rattle.wesl_linking_spec.specs.Asks.{AreAsked}
use Rattle.wesl_linking_spec.specs.Written.{Mangler}
use Rattle.wesl_linking_spec.specs.Linked.{Held, HeldStill, DeclarationId, IsAssembled}
use Rattle.wesl_linking_spec.specs.Clashing.{IsFirstClash, NoneClashes}

-- lazy: what the kept names reach is loaded and held; eager: all that loaded modules use is loaded, and what the kept names reach is held;
-- whole: all is loaded and held
pub data Mode : Type 0 where
  lazy eager whole : Mode

abbrev pub loads_all : Mode → Bool
loads_all lazy = false
loads_all eager = true
loads_all whole = true

abbrev pub holds_all : Mode → Bool
holds_all lazy = false
holds_all eager = false
holds_all whole = true

pub data LinkError : Type 0 where
  not_loaded : LoadError → LinkError
  name_clash : Name → LinkError

-- what is to be linked
pub record Request : Type 0 where
  pub root : Path
  pub asked : List Name
  pub mode : Mode
  pub max_modules : ℕ

-- the names that are kept: those that are asked for, or the entry points of the root
abbrev pub kept_in : List Name → Option Outline → List Name
kept_in asked None = asked
kept_in asked (Some o) = kept_names asked o

module _ (q : Request) where
  -- what loading comes to
  abbrev pub Loading : Sources → Result Modules LoadError → Type 0
  Loading found result = IsLoadingResult found q.root q.asked (loads_all q.mode) q.max_modules result

  -- what is asked for on the way
  abbrev pub Asking : Sources → List Path → Type 0
  Asking found paths = AreAsked found q.root q.asked (loads_all q.mode) q.max_modules paths

  -- what is held of loaded modules
  abbrev pub IsHeld : Modules → Path → ℕ → Type 0
  IsHeld ms m k = Held ms q.root (kept_in q.asked (finder ms q.root)) (holds_all q.mode) m k

  module _ (found : Sources) (mangler : Mangler) where
    -- linked without a refusal: the modules that are loaded, and the unit, in which no name is read otherwise than meant
    pub record IsLinkedFrom (u : UnitTree) : Type 0 where
      pub modules : Modules
      pub loaded : Loading found (Ok modules)
      pub origins : List DeclarationId
      pub assembled : IsAssembled modules q.root mangler (IsHeld modules) origins u
      pub clear : NoneClashes modules q.root mangler (IsHeld modules) origins

    -- a name is read otherwise than meant, and this one first
    pub record ClashesFrom (y : Name) : Type 0 where
      pub modules : Modules
      pub loaded : Loading found (Ok modules)
      pub unit : UnitTree
      pub origins : List DeclarationId
      pub assembled : IsAssembled modules q.root mangler (IsHeld modules) origins unit
      pub first : IsFirstClash modules q.root mangler (IsHeld modules) origins y

    -- the first refusal: of loading, else of names
    pub data RefusesToLink : LinkError → Type 0 where
      by_loading : {r : LoadError} → Loading found (Err r) → RefusesToLink (not_loaded r)
      by_name : {y : Name} → ClashesFrom y → RefusesToLink (name_clash y)

-- ---- the steps as calls of their own

-- modules are loaded from a root that is handed in, for these names
abbrev pub ResolvesLazily : Sources → Path → UnitTree → List Name → ℕ → Result Modules LoadError → Type 0
ResolvesLazily found root u asked max result = IsLoadingResult (with_root root u found) root asked false max result

-- likewise all that is used; no kept name is tested
abbrev pub ResolvesEagerly : Sources → Path → UnitTree → ℕ → Result Modules LoadError → Type 0
ResolvesEagerly found root u max result = IsLoadingResult (with_root root u found) root [] true max result

-- what is held after all is stripped but what these names reach; nothing comes to it that was not held
abbrev pub HeldAfterStripping : Modules → Path → List Name → (Path → ℕ → Type 0) → Path → ℕ → Type 0
HeldAfterStripping ms root asked before m k = HeldStill ms root (kept_in asked (finder ms root)) before m k
