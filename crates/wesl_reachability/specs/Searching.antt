-- What a search for all that is reached has done, and what waits.
use Rattle.std.specs.Prelude.{◌≡◌, ◌⊎◌, ⊤, ℕ, ◌<◌, List, [], ◌∷◌, ◌++◌, length, Bool, true, false, Option, Some, None, slice_get}
use Rattle.std.specs.List.{Contains}
use Rattle.std.specs.HashMap.{get_by_text}
use Rattle.wesl_mark.specs.declared.place.Kind.TheVariants.{Directive}
use Rattle.wesl_mark.specs.declared.place.Place.{Place}
use Rattle.wesl_chains.specs.Outlines.{Name, Path, Symbol, Use, Outline, Finder}
use Rattle.wesl_chains.specs.Senses.{Sense, own, imported, bare, free, sense}
use Rattle.wesl_chains.specs.Chains.{Step, stands, leads, lacks, hides, unknown, next, Leads}
use Rattle.wesl_module_index.specs.declared.module.Module.{Module}
use Rattle.wesl_module_index.specs.declared.module.Meaning.TheVariants.{Declared, Imported}
use Rattle.wesl_module_index.specs.declared.module.ReferenceTarget.TheVariants as target
use Rattle.wesl_module_index.specs.declared.modules.Modules.{Modules}
use Rattle.wesl_module_index.specs.Tables.{is_void}
use Rattle.wesl_module_index.specs.Loaded.{place_at, AreTabled, IsUse}
use Rattle.wesl_name_resolution.specs.declared.denote.Via.{Via}
use Rattle.wesl_name_resolution.specs.Links.{symbol_via, IsMeant, sought_in}
use Rattle.wesl_reachability.specs.declared.chains.Chains.{Chains}
use Rattle.wesl_reachability.specs.declared.chains.State.{State}
use Rattle.wesl_reachability.specs.declared.chains.State.TheVariants.{New, Met, Passed}
use Rattle.wesl_reachability.specs.declared.holding.Holding.{Holding}
use Rattle.wesl_reachability.specs.Cells.{Rows, HasRoom, IsSet}
use Rattle.wesl_reachability.specs.Holding.{spot_of, Holds, IsPassed, IsWork, StandsAt, HasAll, Asserts}
use Rattle.wesl_reachability.specs.Onward.{IsLast, LeadOn, StayIn}
use Rattle.wesl_reachability.specs.Joining.{state_at, onward_of, before_at}
use Rattle.wesl_reachability.specs.Asking.{Waiting}

-- ---- declarations

-- at a place of a module stands a directive or a declaration, and no `;`
pub record IsEntry (one : Module) (k : ℕ) : Type 0 where
  pub place : Place
  pub is_there : slice_get one.places.items k ≡ Some place
  pub is_entry : is_void place.kind ≡ false

-- each declaration that the tables of modules name stands at such a place
pub record AreDeclared (ms : List Module) : Type 0 where
  pub scopes : (m k : ℕ) (one : Module) (x : Name) → slice_get ms m ≡ Some one → get_by_text one.scope x ≡ Some (Declared k) → IsEntry one k
  pub targets : (m r k : ℕ) (one : Module) → slice_get ms m ≡ Some one → slice_get one.sought.items r ≡ Some (target.Declared k) → IsEntry one k

-- ---- imports

-- chains went through an import
abbrev pub is_met : Option State → Bool
is_met None = false
is_met (Some New) = false
is_met (Some Met) = true
is_met (Some Passed) = true

abbrev pub is_known : Chains → Via → Bool
is_known c v = is_met (state_at c v)

abbrev pub IsKnown : Chains → Via → Type 0
IsKnown c v = is_known c v ≡ true

-- and arrived
abbrev pub IsGone : Chains → Via → Type 0
IsGone c v = state_at c v ≡ Some Passed

-- a chain leads there
abbrev pub LeadsTo : Finder → Symbol → Symbol → Type 0
LeadsTo find s t = (ps : List Path) × Leads find s ps t

-- a chain ends at a declaration, or waits
abbrev pub Settled : Finder → List Waiting → Symbol → Via → Type 0
Settled find waits t via = ((k : ℕ) × (next find t ≡ stands k)) ⊎ Contains waits (t, Some via)

-- the chain from a symbol comes to an import that is settled
pub record Ended (ms : Modules) (find : Finder) (waits : List Waiting) (s : Symbol) : Type 0 where
  pub via : Via
  pub last : Symbol
  pub is_last : symbol_via ms via ≡ Some last
  pub chain : LeadsTo find s last
  pub settled : Settled find waits last via

-- What is known of imports: there is room for them; they lead to where it is said; and each chain that was met is settled.
pub record Linked (ms : Modules) (find : Finder) (c : Chains) (waits : List Waiting) : Type 0 where
  pub states : (v : Via) (s : Symbol) → symbol_via ms v ≡ Some s → HasRoom c.states.items v.«module» v.item
  pub onwards : (v : Via) (s : Symbol) → symbol_via ms v ≡ Some s → HasRoom (onward_of c) v.«module» v.item
  pub befores : (v : Via) (s : Symbol) → symbol_via ms v ≡ Some s → HasRoom c.before.items v.«module» v.item
  pub onward : LeadOn ms find (onward_of c)
  pub stay : StayIn (is_known c) (onward_of c)
  pub new_last : (v : Via) → state_at c v ≡ Some New → IsLast (onward_of c) v
  pub published : (v : Via) → IsKnown c v → (s : Symbol) × (symbol_via ms v ≡ Some s)
  pub before_known : (v w : Via) → Contains (before_at c v) w → IsKnown c w
  pub lasts : (v : Via) (s : Symbol) → IsKnown c v → IsLast (onward_of c) v → symbol_via ms v ≡ Some s → Settled find waits s v
  pub ended : (v : Via) (s : Symbol) → IsKnown c v → symbol_via ms v ≡ Some s → Ended ms find waits s
  pub waiting : (s : Symbol) (v : Via) → Contains waits (s, Some v) → (symbol_via ms v ≡ Some s) × IsKnown c v

-- ---- what was sought

abbrev pub IsGoneOr : Chains → Option Via → Type 0
IsGoneOr c None = ⊤
IsGoneOr c (Some v) = IsGone c v

abbrev pub IsStepOr : Chains → Option Via → Via → Type 0
IsStepOr c None v = ⊤
IsStepOr c (Some w) v = Contains (before_at c v) w

-- what an import or a reference leads to was looked for, and the search knows what came of it
abbrev pub StepDone : Modules → Holding → Chains → Symbol → Option Via → Step → Type 0
StepDone ms h c s b (stands k) = (n : ℕ) × (j : ℕ) × IsMeant ms s n (Declared j) × (place_at ms (spot_of n j) ≡ k) × Holds h n j × IsPassed h n × IsGoneOr c b
StepDone ms h c s b (leads t) = (v : Via) × IsMeant ms s v.«module» (Imported v.item) × (symbol_via ms v ≡ Some t) × IsKnown c v × IsStepOr c b v
StepDone ms h c s b lacks = ⊥
StepDone ms h c s b hides = ⊥
StepDone ms h c s b unknown = ⊥

-- it was, or it waits
abbrev pub IsSought : Modules → Finder → Holding → Chains → List Waiting → Symbol → Option Via → Type 0
IsSought ms find h c waits s b = Contains waits (s, b) ⊎ StepDone ms h c s b (next find s)

-- ---- references

abbrev pub SenseDone : Modules → Finder → Holding → Chains → List Waiting → ℕ → ℕ → Sense → Type 0
SenseDone ms find h c waits n r (own k) = (j : ℕ) × (sought_in (slice_get ms.list.items n) r ≡ Some (target.Declared j)) × (place_at ms (spot_of n j) ≡ k) × Holds h n j × IsPassed h n
SenseDone ms find h c waits n r (imported s) = IsSought ms find h c waits s None
SenseDone ms find h c waits n r (bare x) = ⊥
SenseDone ms find h c waits n r free = ⊤

abbrev pub IsHandled : Modules → Finder → Holding → Chains → List Waiting → ℕ → ℕ → Type 0
IsHandled ms find h c waits n r = (p : Path) (o : Outline) (u : Use) → IsUse ms find n r p o u → SenseDone ms find h c waits n r (sense o u)

-- ---- all of it

-- What the search has done so far, where these wait. The flags say which references were followed.
pub record Searched (ms : Modules) (find : Finder) (h : Holding) (c : Chains) (flags : Rows Bool) (waits : List Waiting) : Type 0 where
  pub declared : AreDeclared ms.list.items
  pub all : HasAll ms.list.items h
  pub works : IsWork h
  pub asserts : Asserts ms.list.items h
  pub directs : (m k : ℕ) (one : Module) → slice_get ms.list.items m ≡ Some one → StandsAt one.places.items k Directive → Holds h m k
  pub linked : Linked ms find c waits
  pub sought : (v : Via) (s : Symbol) → IsKnown c v → symbol_via ms v ≡ Some s → IsSought ms find h c waits s (Some v)
  pub closed : (v w : Via) → Contains (before_at c v) w → IsGone c v → IsGone c w
  pub gone : (v : Via) → IsGone c v → IsPassed h v.«module»
  pub rooms : (m r : ℕ) (one : Module) → slice_get ms.list.items m ≡ Some one → r < length one.list.references.keys → HasRoom flags m r
  pub handled : (m r : ℕ) → IsSet flags m r → IsHandled ms find h c waits m r
