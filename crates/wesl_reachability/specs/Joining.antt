-- How chains join one another at published imports.
use Rattle.std.specs.Prelude.{◌≡◌, ◌≢◌, ◌⊎◌, ⊤, ℕ, List, [], ◌∷◌, ◌++◌, length, Bool, true, false, Option, Some, None, slice_get, Vec}
use Rattle.std.specs.declared.alloc.Global.{Global}
use Rattle.wesl_module_index.specs.declared.modules.Modules.{Modules}
use Rattle.wesl_name_resolution.specs.declared.denote.Via.{Via}
use Rattle.wesl_reachability.specs.declared.chains.Chains.{Chains}
use Rattle.wesl_reachability.specs.declared.chains.State.{State}
use Rattle.wesl_reachability.specs.declared.chains.State.TheVariants.{New, Met, Passed}
use Rattle.wesl_reachability.specs.declared.chains.Joined.{Joined}
use Rattle.wesl_reachability.specs.declared.chains.Joined.TheVariants as joined
use Rattle.wesl_reachability.specs.Cells.{Rows, cell, HasRoom, Differ, Puts}
use Rattle.wesl_reachability.specs.Onward.{FindsLast, TakesLinks}

abbrev pub state_at : Chains → Via → Option State
state_at c via = cell c.states.items via.«module» via.item

abbrev pub onward_of : Chains → Rows Via
onward_of c = c.links.onward.items

abbrev pub list_of : Option (Vec Via Global) → List Via
list_of None = []
list_of (Some v) = v.items

-- the imports from which chains went on to an import
abbrev pub before_at : Chains → Via → List Via
before_at c via = list_of (cell c.before.items via.«module» via.item)

-- a chain went from one import to another
pub record AddsStep (from to : Via) (old new : Rows (Vec Via Global)) : Type 0 where
  pub there : HasRoom old to.«module» to.item → list_of (cell new to.«module» to.item) ≡ list_of (cell old to.«module» to.item) ++ from ∷ []
  pub others : (m k : ℕ) → Differ m k to.«module» to.item → cell new m k ≡ cell old m k
  pub room : (m k : ℕ) → HasRoom old m k → HasRoom new m k

pub record GoesOn (ms : Modules) (from to : Via) (old new : Chains) : Type 0 where
  pub last : Via
  pub mid : Rows Via
  pub finds : FindsLast ms (onward_of old) to mid (Some last)
  pub other : last ≢ from
  pub leads : Puts mid from.«module» from.item last (onward_of new)
  pub steps : AddsStep from to old.before.items new.before.items
  pub states : new.states ≡ old.states

abbrev pub IsBack : Via → Option Via → Type 0
IsBack from None = ⊤
IsBack from (Some last) = last ≡ from

pub record TurnsBack (ms : Modules) (from to : Via) (old new : Chains) : Type 0 where
  pub result : Option Via
  pub finds : FindsLast ms (onward_of old) to (onward_of new) result
  pub back : IsBack from result
  pub before : new.before ≡ old.before
  pub states : new.states ≡ old.states

abbrev pub Goes : Modules → Via → Via → Chains → Bool → Chains → Type 0
Goes ms from to old true new = TurnsBack ms from to old new
Goes ms from to old false new = GoesOn ms from to old new

-- the state of one import changes
pub record PutsState (via : Via) (state : State) (old new : Chains) : Type 0 where
  pub puts : Puts old.states.items via.«module» via.item state new.states.items
  pub before : new.before ≡ old.before
  pub links : new.links ≡ old.links

-- a chain goes on from an import, or from a reference
abbrev pub StepsOn : Modules → Option Via → Via → Chains → Chains → Type 0
StepsOn ms None via old new = new ≡ old
StepsOn ms (Some from) via old new = GoesOn ms from via old new

abbrev pub joined_of : Option State → Joined
joined_of None = joined.Waiting
joined_of (Some New) = joined.First
joined_of (Some Met) = joined.Waiting
joined_of (Some Passed) = joined.Passed

-- a chain comes to an import of which this was known
abbrev pub Meets : Via → Chains → Option State → Chains → Type 0
Meets via old None new = new ≡ old
Meets via old (Some New) new = PutsState via Met old new
Meets via old (Some Met) new = new ≡ old
Meets via old (Some Passed) new = new ≡ old

-- a chain that goes on is not known to go round
abbrev pub IsOnward : Modules → Option Via → Via → Chains → Option State → Joined → Chains → Type 0
IsOnward ms before via mid state joined.First new = StepsOn ms before via mid new × (joined_of state ≡ joined.First)
IsOnward ms before via mid state joined.Passed new = StepsOn ms before via mid new × (joined_of state ≡ joined.Passed)
IsOnward ms before via mid state joined.Waiting new = StepsOn ms before via mid new × (joined_of state ≡ joined.Waiting)
IsOnward ms before via mid state joined.Itself new = (from : Via) × (before ≡ Some from) × TurnsBack ms from via mid new

pub record Joins (ms : Modules) (before : Option Via) (via : Via) (old : Chains) (r : Joined) (new : Chains) : Type 0 where
  pub mid : Chains
  pub meets : Meets via old (state_at old via) mid
  pub onward : IsOnward ms before via mid (state_at old via) r new

-- chains arrive at an import: if they do so for the first time, those that lead to it are added
abbrev pub PassesImport : Via → Chains → List Via → Bool → Chains → List Via → Type 0
PassesImport via old arrived true new now = (state_at old via ≡ Some Met) × PutsState via Passed old new × (now ≡ arrived ++ before_at old via)
PassesImport via old arrived false new now = (state_at old via ≢ Some Met) × (new ≡ old) × (now ≡ arrived)

abbrev pub AreNew : ℕ → List State → Type 0
AreNew count row = (length row ≡ count) × ((k : ℕ) (x : State) → slice_get row k ≡ Some x → x ≡ New)

abbrev pub AreEmpty : ℕ → List (Vec Via Global) → Type 0
AreEmpty count row = (length row ≡ count) × ((k : ℕ) (x : Vec Via Global) → slice_get row k ≡ Some x → x.items ≡ [])

-- the items of one more module are taken in
pub record TakesImports (number items : ℕ) (old new : Chains) : Type 0 where
  pub states : (row : Vec State Global) × (new.states.items ≡ old.states.items ++ row ∷ []) × AreNew items row.items
  pub before : (row : Vec (Vec Via Global) Global) × (new.before.items ≡ old.before.items ++ row ∷ []) × AreEmpty items row.items
  pub links : TakesLinks number items (onward_of old) (onward_of new)
