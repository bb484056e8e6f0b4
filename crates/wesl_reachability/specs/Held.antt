-- What is reached and passed, in the words of outlines.
use Rattle.std.specs.Prelude.{◌≡◌, ℕ, ◌<◌, List, length, Bool, false, Some, slice_get}
use Rattle.std.specs.BTreeMap.{get_by_text}
use Rattle.std.specs.List.{Contains}
use Rattle.wesl_chains.specs.Outlines.{Name, Path, Symbol, Finder}
use Rattle.wesl_chains.specs.Chains.{Outcome, next, unknown}
use Rattle.wesl_chains.specs.Reaching.{Begins, Reached, IsPassedThrough, IsAsked, IsRefusedAt}
use Rattle.wesl_module_index.specs.declared.module.Module.{Module}
use Rattle.wesl_module_index.specs.declared.modules.Modules.{Modules}
use Rattle.wesl_module_index.specs.Tables.{place_number}
use Rattle.wesl_reachability.specs.declared.holding.Holding.{Holding}
use Rattle.wesl_reachability.specs.Holding.{Holds, IsPassed}
use Rattle.wesl_reachability.specs.Asking.{Waiting}
use Rattle.wesl_reachability.specs.Searching.{IsEntry}

-- the directive or declaration at a place of the module at a path is held
pub record HoldsAt (ms : Modules) (h : Holding) (p : Path) (k : ℕ) : Type 0 where
  pub number : ℕ
  pub place : ℕ
  pub table : Module
  pub is_numbered : get_by_text ms.numbers p ≡ Some number
  pub is_module : slice_get ms.list.items number ≡ Some table
  pub entry : IsEntry table place
  pub at : place_number table.places.items place ≡ k
  pub held : Holds h number place

-- the module at a path is passed
pub record IsPassedAt (ms : Modules) (h : Holding) (p : Path) : Type 0 where
  pub number : ℕ
  pub is_numbered : get_by_text ms.numbers p ≡ Some number
  pub passed : IsPassed h number

-- all that waits is sought in modules that are not loaded
abbrev pub AreUnloaded : Finder → List Waiting → Type 0
AreUnloaded find waits = (x : Waiting) → Contains waits x → next find x.0 ≡ unknown

-- a module is asked for
pub record AsksFor (waits : List Waiting) (p : Path) : Type 0 where
  pub one : Waiting
  pub is_there : Contains waits one
  pub is_home : one.0.home ≡ p

-- it holds all that is reached, and asks for all modules that are asked for; and no name that is used there denotes nothing
pub record HoldsAll (ms : Modules) (find : Finder) (h : Holding) (waits : List Waiting) (root : Path) (kept : List Name) (all_begin : Bool) : Type 0 where
  pub holds : (m : Path) (k : ℕ) → Reached find root kept all_begin m k → HoldsAt ms h m k
  pub passes : (m : Path) → IsPassedThrough find root kept all_begin m → IsPassedAt ms h m
  pub asks : (p : Path) → IsAsked find root kept all_begin p → AsksFor waits p
  pub none_refused : (m : Path) (k i : ℕ) (r : Outcome) → IsRefusedAt find root kept all_begin m k i r → ⊥
