-- Modules are taken in.
use Rattle.std.specs.Prelude.{◌≡◌, ℕ, ◌<◌, List, [], ◌∷◌, ◌++◌, length, Bool, true, false, Some, slice_get, replicate, Vec}
use Rattle.std.specs.declared.alloc.Global.{Global}
use Rattle.std.specs.List.{Contains}
use Rattle.wesl_mark.specs.declared.place.Kind.TheVariants.{Directive}
use Rattle.wesl_chains.specs.Outlines.{Name, Path, Finder}
use Rattle.wesl_module_index.specs.declared.module.Module.{Module}
use Rattle.wesl_module_index.specs.declared.modules.Modules.{Modules}
use Rattle.wesl_name_resolution.specs.declared.denote.Via.{Via}
use Rattle.wesl_reachability.specs.declared.closing.Closing.{Closing}
use Rattle.wesl_reachability.specs.declared.holding.Holding.{Holding}
use Rattle.wesl_reachability.specs.Cells.{HasRoom, IsSet}
use Rattle.wesl_reachability.specs.Holding.{Holds, IsPassed, HasPlace, HasModule, IsWork, IsWorkOnly, StandsAt, TakesIn, ReachesKind}
use Rattle.wesl_reachability.specs.Onward.{IsLast}
use Rattle.wesl_reachability.specs.Joining.{onward_of, before_at, TakesImports}
use Rattle.wesl_reachability.specs.Asking.{waiting}
use Rattle.wesl_reachability.specs.Searching.{AreDeclared, is_known}
use Rattle.wesl_reachability.specs.Sound.{AreApart, IsSound}
use Rattle.wesl_reachability.specs.Closing.{IsOpen}

-- a module is taken in, and its directives are reached
pub record TakesModule (number : ℕ) (one : Module) (old new : Closing) : Type 0 where
  pub mid : Holding
  pub taken : TakesIn (length one.places.items) old.holding mid
  pub directives : ReachesKind number one.places.items Directive (length one.places.items) mid new.holding
  pub flags : Vec Bool Global
  pub followed : new.followed.items ≡ old.followed.items ++ flags ∷ []
  pub unset : flags.items ≡ replicate (length one.list.references.keys) false
  pub imports : TakesImports number (length one.items.items) old.chains new.chains
  pub done : new.done ≡ old.done
  pub asked : new.asked ≡ old.asked
  pub missing : new.is_missing ≡ old.is_missing

-- there is room for a module, and its directives are reached
pub record HasTakenAt (cl : Closing) (m : ℕ) (one : Module) : Type 0 where
  pub wide : HasModule cl.holding m
  pub places : (k : ℕ) → k < length one.places.items → HasPlace cl.holding m k
  pub directives : (k : ℕ) → StandsAt one.places.items k Directive → Holds cl.holding m k
  pub references : (r : ℕ) → r < length one.list.references.keys → HasRoom cl.followed.items m r
  pub states : (k : ℕ) → k < length one.items.items → HasRoom cl.chains.states.items m k
  pub befores : (k : ℕ) → k < length one.items.items → HasRoom cl.chains.before.items m k
  pub onwards : (k : ℕ) → k < length one.items.items → HasRoom (onward_of cl.chains) m k

-- there are rows for so many modules
pub record HasRows (n : ℕ) (cl : Closing) : Type 0 where
  pub reached : length cl.holding.reached.items ≡ n
  pub passed : length cl.holding.passed.items ≡ n
  pub followed : length cl.followed.items ≡ n
  pub states : length cl.chains.states.items ≡ n
  pub befores : length cl.chains.before.items ≡ n
  pub onwards : length (onward_of cl.chains) ≡ n

-- so many modules are taken in, and nothing is reached but their directives
pub record HasTaken (ms : List Module) (n : ℕ) (cl : Closing) : Type 0 where
  pub rows : HasRows n cl
  pub works : IsWork cl.holding
  pub works_only : IsWorkOnly cl.holding
  pub none_passed : (m : ℕ) → IsPassed cl.holding m → ⊥
  pub held : (m k : ℕ) → Holds cl.holding m k → (one : Module) × (slice_get ms m ≡ Some one) × StandsAt one.places.items k Directive
  pub none_followed : (m r : ℕ) → IsSet cl.followed.items m r → ⊥
  pub none_known : (v : Via) → is_known cl.chains v ≡ false
  pub no_steps : (v w : Via) → Contains (before_at cl.chains v) w → ⊥
  pub alone : (v : Via) → IsLast (onward_of cl.chains) v
  pub all : (m : ℕ) (one : Module) → m < n → slice_get ms m ≡ Some one → HasTakenAt cl m one
  pub done : cl.done ≡ 0
  pub none_waits : waiting cl.asked ≡ []
  pub missing : cl.is_missing ≡ false

-- All modules are taken in where none was: the search may begin, and nothing is held but directives.
pub record HasTakenAll (ms : Modules) (cl : Closing) : Type 0 where
  pub taken : HasTaken ms.list.items (length ms.list.items) cl
  pub opens : AreDeclared ms.list.items → IsOpen ms cl
  pub sound : AreApart ms → (root : Path) (kept : List Name) (all_begin : Bool) → IsSound ms root kept all_begin cl []

abbrev pub TakesAll : Modules → Closing → Closing → Type 0
TakesAll ms old new = HasTaken ms.list.items 0 old → HasTakenAll ms new
