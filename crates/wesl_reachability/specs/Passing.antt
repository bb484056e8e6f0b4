-- Chains arrive: the modules of the imports that lead up to their ends are passed.
use Rattle.std.specs.Prelude.{◌≡◌, ◌⊎◌, ⊤, ℕ, List, [], ◌∷◌, ◌++◌, Bool, true, Option, Some, None}
use Rattle.std.specs.List.{Contains}
use Rattle.wesl_chains.specs.Outlines.{Symbol}
use Rattle.wesl_module_index.specs.declared.modules.Modules.{Modules}
use Rattle.wesl_name_resolution.specs.declared.denote.Via.{Via}
use Rattle.wesl_name_resolution.specs.Links.{symbol_via}
use Rattle.wesl_reachability.specs.declared.chains.Chains.{Chains}
use Rattle.wesl_reachability.specs.declared.chains.State.TheVariants.{New}
use Rattle.wesl_reachability.specs.declared.holding.Holding.{Holding}
use Rattle.wesl_reachability.specs.Cells.{HasRoom}
use Rattle.wesl_reachability.specs.Holding.{Holds, IsPassed, Grows, IsAssertion, HasAll, Asserts}
use Rattle.wesl_reachability.specs.Joining.{state_at, before_at}
use Rattle.wesl_reachability.specs.Searching.{is_known, IsKnown, IsGone, IsGoneOr}

-- only states change, and no import is new or forgotten
pub record SameWays (old new : Chains) : Type 0 where
  pub before : new.before ≡ old.before
  pub links : new.links ≡ old.links
  pub known : (v : Via) → is_known new v ≡ is_known old v
  pub gone : (v : Via) → IsGone old v → IsGone new v
  pub unmet : (v : Via) → state_at new v ≡ Some New → state_at old v ≡ Some New
  pub room : (m k : ℕ) → HasRoom old.states.items m k → HasRoom new.states.items m k

-- Where chains arrive at an import they arrive at those that lead to it, but that these are still to be passed.
pub record IsPassing (ms : Modules) (h : Holding) (c : Chains) (work : List Via) : Type 0 where
  pub all : HasAll ms.list.items h
  pub asserts : Asserts ms.list.items h
  pub published : (v : Via) → IsKnown c v → (s : Symbol) × (symbol_via ms v ≡ Some s)
  pub before_known : (v w : Via) → Contains (before_at c v) w → IsKnown c w
  pub work_known : (v : Via) → Contains work v → IsKnown c v
  pub closed : (v w : Via) → Contains (before_at c v) w → IsGone c v → IsGone c w ⊎ Contains work w
  pub gone : (v : Via) → IsGone c v → IsPassed h v.«module»

-- imports from which chains lead up to some of these, and these
pub data LeadsUp (c : Chains) (work : List Via) : Via → Type 0 where
  itself : {v : Via} → Contains work v → LeadsUp c work v
  before : {v w : Via} → LeadsUp c work v → Contains (before_at c v) w → LeadsUp c work w

-- one of them is an import of the module of a number
pub record IsOnWay (c : Chains) (work : List Via) (m : ℕ) : Type 0 where
  pub via : Via
  pub leads_up : LeadsUp c work via
  pub is_module : via.«module» ≡ m

-- none but their modules are passed
pub record PassesOnly (ms : Modules) (work : List Via) (h : Holding) (c : Chains) (now : Holding) (new : Chains) : Type 0 where
  pub held : (m k : ℕ) → Holds now m k → Holds h m k ⊎ (IsOnWay c work m × IsAssertion ms.list.items m k)
  pub passed : (m : ℕ) → IsPassed now m → IsPassed h m ⊎ IsOnWay c work m
  pub gone : (v : Via) → IsGone new v → IsGone c v ⊎ LeadsUp c work v

-- all that lead to these are passed, and no others
pub record PassesBefore (ms : Modules) (work : List Via) (h : Holding) (c : Chains) (now : Holding) (new : Chains) : Type 0 where
  pub ways : SameWays c new
  pub grows : Grows h now
  pub passing : IsPassing ms h c work → IsPassing ms now new [] × ((v : Via) → Contains work v → IsGone new v)
  pub only : PassesOnly ms work h c now new

-- one of these is passed, and those that lead to it are added
pub record PassesOne (ms : Modules) (via : Via) (h : Holding) (c : Chains) (work : List Via) (now : Holding) (new : Chains) (later : List Via) : Type 0 where
  pub ways : SameWays c new
  pub grows : Grows h now
  pub more : List Via
  pub added : later ≡ work ++ more
  pub passing : (rest : List Via) → IsPassing ms h c (via ∷ rest) → IsPassing ms now new (rest ++ more) × IsGone new via
  pub only_more : (v : Via) → Contains more v → Contains (before_at c via) v
  pub only_held : (m k : ℕ) → Holds now m k → Holds h m k ⊎ ((m ≡ via.«module») × IsAssertion ms.list.items m k)
  pub only_passed : (m : ℕ) → IsPassed now m → IsPassed h m ⊎ (m ≡ via.«module»)
  pub only_gone : (v : Via) → IsGone new v → IsGone c v ⊎ (v ≡ via)

-- these are passed, but for some that are left
pub record PassesSome (ms : Modules) (work : List Via) (h : Holding) (c : Chains) (now : Holding) (new : Chains) (left : List Via) : Type 0 where
  pub ways : SameWays c new
  pub grows : Grows h now
  pub passing : IsPassing ms h c work → IsPassing ms now new left × ((v : Via) → Contains work v → IsGone new v ⊎ Contains left v)
  pub only : PassesOnly ms work h c now new
  pub only_left : (v : Via) → Contains left v → LeadsUp c work v
