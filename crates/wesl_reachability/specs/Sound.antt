-- Nothing is held but what is reached: for all that a search knows there is a name that is used and leads there.
use Rattle.std.specs.Prelude.{◌≡◌, ℕ, List, [], ◌∷◌, ◌++◌, length, Bool, true, Option, Some, None, slice_get, string_bytes, Vec}
use Rattle.std.specs.declared.alloc.Global.{Global}
use Rattle.std.specs.BTreeMap.{get_by_text}
use Rattle.std.specs.List.{Contains}
use Rattle.wesl_mark.specs.declared.place.Place.{Place}
use Rattle.wesl_chains.specs.Outlines.{Name, Path, Symbol, Use, Entry, Outline, Finder}
use Rattle.wesl_chains.specs.Senses.{imported, sense}
use Rattle.wesl_chains.specs.Chains.{Outcome, stands, leads, next, Leads}
use Rattle.wesl_chains.specs.Reaching.{IsAt, Reached, IsPassedThrough, IsAsked, IsRefusedAt}
use Rattle.wesl_module_index.specs.declared.module.Module.{Module}
use Rattle.wesl_module_index.specs.declared.modules.Modules.{Modules}
use Rattle.wesl_module_index.specs.declared.modules.DeclarationId.{DeclarationId}
use Rattle.wesl_module_index.specs.Tables.{is_void}
use Rattle.wesl_module_index.specs.Loaded.{AreTabled, IsUse}
use Rattle.wesl_name_resolution.specs.declared.denote.Via.{Via}
use Rattle.wesl_name_resolution.specs.Links.{symbol_via}
use Rattle.wesl_reachability.specs.declared.chains.Chains.{Chains}
use Rattle.wesl_reachability.specs.declared.closing.Closing.{Closing}
use Rattle.wesl_reachability.specs.declared.holding.Holding.{Holding}
use Rattle.wesl_reachability.specs.Cells.{HasRoom}
use Rattle.wesl_reachability.specs.Holding.{spot_of, Holds}
use Rattle.wesl_reachability.specs.Onward.{LeadOn}
use Rattle.wesl_reachability.specs.Joining.{onward_of, before_at}
use Rattle.wesl_reachability.specs.Asking.{Waiting, waiting}
use Rattle.wesl_reachability.specs.Searching.{IsKnown, IsGone}
use Rattle.wesl_reachability.specs.Held.{HoldsAt, IsPassedAt}

-- ---- tables

-- a module has a row of uses for each place, and `;` uses nothing
pub record UsesPlaces (one : Module) : Type 0 where
  pub rows : length one.uses.items ≡ length one.places.items
  pub voids : (k : ℕ) (place : Place) (uses : Vec ℕ Global) → slice_get one.places.items k ≡ Some place → is_void place.kind ≡ true → slice_get one.uses.items k ≡ Some uses → uses.items ≡ []

-- each module has such rows, and is the one at its path
pub record AreApart (ms : Modules) : Type 0 where
  pub uses : (m : ℕ) (one : Module) → slice_get ms.list.items m ≡ Some one → UsesPlaces one
  pub numbered : (m : ℕ) (one : Module) → slice_get ms.list.items m ≡ Some one → get_by_text ms.numbers (string_bytes one.target.printed_path) ≡ Some m

-- ---- names that are used

-- the chain from a symbol comes to a declaration
pub record Arrived (find : Finder) (s : Symbol) : Type 0 where
  pub last : Symbol
  pub passed : List Path
  pub chain : Leads find s passed last
  pub place : ℕ
  pub is_declared : next find last ≡ stands place

module _ (find : Finder) (root : Path) (kept : List Name) (all_begin : Bool) where
  -- a name is used at a place that is reached
  pub record IsUsed (m : Path) (o : Outline) (u : Use) : Type 0 where
    pub place : ℕ
    pub entry : Entry
    pub is_at : IsAt find m place o entry
    pub reached : Reached find root kept all_begin m place
    pub used : Contains entry.uses u

  -- the chain from such a name comes to a symbol
  pub record Comes (s : Symbol) : Type 0 where
    pub home : Path
    pub outline : Outline
    pub occurring : Use
    pub used : IsUsed home outline occurring
    pub first : Symbol
    pub is_meant : sense outline occurring ≡ imported first
    pub passed : List Path
    pub chain : Leads find first passed s

  -- such a name denotes nothing
  pub record RefusesSome : Type 0 where
    pub home : Path
    pub place : ℕ
    pub number : ℕ
    pub outcome : Outcome
    pub refused : IsRefusedAt find root kept all_begin home place number outcome

  module _ (ms : Modules) where
    -- a chain comes to an import of a module, and goes on
    pub record ComesBy (v : Via) : Type 0 where
      pub sought : Symbol
      pub comes : Comes sought
      pub is_numbered : get_by_text ms.numbers sought.home ≡ Some v.«module»
      pub onward : Symbol
      pub is_onward : symbol_via ms v ≡ Some onward
      pub step : next find sought ≡ leads onward

    -- a reference of a module is used at a place that is reached
    pub record IsReference (m r : ℕ) : Type 0 where
      pub path : Path
      pub outline : Outline
      pub occurring : Use
      pub is_use : IsUse ms find m r path outline occurring
      pub used : IsUsed path outline occurring

-- an import leads on to another one
pub record LeadsOver (ms : Modules) (find : Finder) (from to : Via) : Type 0 where
  pub first : Symbol
  pub second : Symbol
  pub is_first : symbol_via ms from ≡ Some first
  pub is_second : symbol_via ms to ≡ Some second
  pub step : next find first ≡ leads second

-- chains from an import come to a declaration
pub record Goes (ms : Modules) (find : Finder) (v : Via) : Type 0 where
  pub onward : Symbol
  pub is_onward : symbol_via ms v ≡ Some onward
  pub arrived : Arrived find onward

-- ---- the search

-- Nothing is held, passed or sought but what is reached, and no name is said to denote nothing where none is.
pub record Sound (ms : Modules) (find : Finder) (root : Path) (kept : List Name) (all_begin : Bool) (h : Holding) (c : Chains) (lacks_some : Bool) (waits : List Waiting) : Type 0 where
  pub apart : AreApart ms
  pub held : (p : Path) (k : ℕ) → HoldsAt ms h p k → Reached find root kept all_begin p k
  pub works : (s : DeclarationId) → Contains h.work.items s → Holds h s.«module» s.place
  pub passed : (p : Path) → IsPassedAt ms h p → IsPassedThrough find root kept all_begin p
  pub known : (v : Via) → IsKnown c v → ComesBy find root kept all_begin ms v
  pub steps : (v w : Via) → Contains (before_at c v) w → IsKnown c w × LeadsOver ms find w v
  pub gone : (v : Via) → IsGone c v → Goes ms find v
  pub rooms : (v : Via) (s : Symbol) → symbol_via ms v ≡ Some s → HasRoom c.before.items v.«module» v.item
  pub onward : LeadOn ms find (onward_of c)
  pub waiting : (s : Symbol) (b : Option Via) → Contains waits (s, b) → Comes find root kept all_begin s
  pub imports : (s : Symbol) (v : Via) → Contains waits (s, Some v) → (symbol_via ms v ≡ Some s) × IsKnown c v
  pub missing : lacks_some ≡ true → RefusesSome find root kept all_begin

-- the same of a closing, where these wait besides what is asked for
abbrev pub IsSound : Modules → Path → List Name → Bool → Closing → List Waiting → Type 0
IsSound ms root kept all_begin cl rest = (find : Finder) → AreTabled ms find → Sound ms find root kept all_begin cl.holding cl.chains cl.is_missing (waiting cl.asked ++ rest)

-- It stays so. The one that waited is sought, and these wait in its place.
abbrev pub StaysSound : Modules → List Waiting → List Waiting → Closing → Closing → Type 0
StaysSound ms old_waits new_waits old new =
    (root : Path) (kept : List Name) (all_begin : Bool) (rest : List Waiting) → IsSound ms root kept all_begin old (old_waits ++ rest) → IsSound ms root kept all_begin new (new_waits ++ rest)

-- it stays so, where nothing waits but what is asked for
abbrev pub KeepsSound : Modules → Closing → Closing → Type 0
KeepsSound ms old new = (root : Path) (kept : List Name) (all_begin : Bool) → IsSound ms root kept all_begin old [] → IsSound ms root kept all_begin new []

-- it stays so, where a reference of a module is used
abbrev pub FollowsSoundly : Modules → ℕ → ℕ → Closing → Closing → Type 0
FollowsSoundly ms m r old new =
    (root : Path) (kept : List Name) (all_begin : Bool) → ((find : Finder) → AreTabled ms find → IsReference find root kept all_begin ms m r) → IsSound ms root kept all_begin old [] → IsSound ms root kept all_begin new []

-- the same of some references
abbrev pub FollowsAllSoundly : Modules → ℕ → List ℕ → Closing → Closing → Type 0
FollowsAllSoundly ms m references old new =
    (root : Path) (kept : List Name) (all_begin : Bool) → ((find : Finder) → AreTabled ms find → (r : ℕ) → Contains references r → IsReference find root kept all_begin ms m r)
    → IsSound ms root kept all_begin old [] → IsSound ms root kept all_begin new []

-- the same of a place that was reached
abbrev pub FollowsPlaceSoundly : Modules → DeclarationId → Closing → Closing → Type 0
FollowsPlaceSoundly ms spot old new =
    (root : Path) (kept : List Name) (all_begin : Bool) → Contains old.holding.work.items spot → IsSound ms root kept all_begin old [] → IsSound ms root kept all_begin new []

-- it stays so, where all of these places are reached
abbrev pub ReachesSoundly : List DeclarationId → Closing → Closing → Type 0
ReachesSoundly spots old new =
    (ms : Modules) (root : Path) (kept : List Name) (all_begin : Bool) (rest : List Waiting)
    → ((find : Finder) → AreTabled ms find → (p : Path) (k : ℕ) (x : HoldsAt ms new.holding p k) → Contains spots (spot_of x.number x.place) → Reached find root kept all_begin p k)
    → IsSound ms root kept all_begin old rest → IsSound ms root kept all_begin new rest

-- it stays so, where this module is passed
abbrev pub PassesSoundly : Modules → ℕ → Closing → Closing → Type 0
PassesSoundly ms number old new =
    (root : Path) (kept : List Name) (all_begin : Bool) (rest : List Waiting)
    → ((find : Finder) → AreTabled ms find → (p : Path) → get_by_text ms.numbers p ≡ Some number → IsPassedThrough find root kept all_begin p)
    → IsSound ms root kept all_begin old rest → IsSound ms root kept all_begin new rest
