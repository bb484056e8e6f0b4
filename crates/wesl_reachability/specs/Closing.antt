-- What a closing knows.
use Rattle.std.specs.Prelude.{◌≡◌, ⊤, ℕ, ◌<◌, ◌≤◌, List, [], ◌∷◌, ◌++◌, length, Bool, true, false, Option, Some, None, slice_get, is_some, Vec}
use Rattle.std.specs.declared.alloc.Global.{Global}
use Rattle.std.specs.List.{Contains}
use Rattle.wesl_chains.specs.Outlines.{Name, Path, Symbol, Finder}
use Rattle.wesl_chains.specs.Reaching.{Begins, Reached, IsPassedThrough, IsAsked}
use Rattle.wesl_chains.specs.Chains.{next, leads}
use Rattle.wesl_module_index.specs.declared.module.Module.{Module}
use Rattle.wesl_module_index.specs.declared.module.Meaning.TheVariants.{Imported}
use Rattle.wesl_module_index.specs.declared.modules.Modules.{Modules}
use Rattle.wesl_module_index.specs.declared.modules.DeclarationId.{DeclarationId}
use Rattle.wesl_module_index.specs.Loaded.{AreTabled}
use Rattle.wesl_name_resolution.specs.declared.denote.Via.{Via}
use Rattle.wesl_name_resolution.specs.declared.denote.Link.{Link}
use Rattle.wesl_name_resolution.specs.declared.denote.Denoted.{Denoted}
use Rattle.wesl_name_resolution.specs.declared.denote.Denoted.TheVariants as denoted
use Rattle.wesl_name_resolution.specs.Links.{symbol_of, symbol_via, IsMeant}
use Rattle.wesl_reachability.specs.declared.asked.Asked.{Asked}
use Rattle.wesl_reachability.specs.declared.closing.Closing.{Closing}
use Rattle.wesl_reachability.specs.Cells.{Rows, cell, HasRoom, IsSet, Sets}
use Rattle.wesl_reachability.specs.Holding.{Grows, Arrives}
use Rattle.wesl_reachability.specs.Asking.{Waiting, waiting}
use Rattle.wesl_reachability.specs.Searching.{Searched}
use Rattle.wesl_reachability.specs.Held.{AreUnloaded, IsPassedAt, HoldsAt, AsksFor, HoldsAll}
use Rattle.wesl_reachability.specs.Sound.{RefusesSome, IsSound, StaysSound, FollowsSoundly}

-- Where no name is known to denote nothing: what was sought is done, or asked for, or among those that still wait.
abbrev pub IsUnderway : Modules → Closing → Rows Bool → List Waiting → Type 0
IsUnderway ms cl flags rest = (find : Finder) → AreTabled ms find → cl.is_missing ≡ false → Searched ms find cl.holding cl.chains flags (waiting cl.asked ++ rest)

-- nothing is forgotten
pub record Keeps (ms : Modules) (old new : Closing) : Type 0 where
  pub holding : Grows old.holding new.holding
  pub followed : new.followed ≡ old.followed
  pub missing : new.is_missing ≡ false → old.is_missing ≡ false
  pub unloaded : (find : Finder) → AreTabled ms find → AreUnloaded find (waiting old.asked) → AreUnloaded find (waiting new.asked)

-- what waits for a search that goes on
abbrev pub goes_on : Option (Via × Link) → List Waiting
goes_on None = []
goes_on (Some x) = (symbol_of x.1, Some x.0) ∷ []

-- one of those that wait is sought, and maybe another waits in its place
pub record Seeks (ms : Modules) (one : Waiting) (more : List Waiting) (old new : Closing) : Type 0 where
  pub keeps : Keeps ms old new
  pub sought : (flags : Rows Bool) (rest : List Waiting) → IsUnderway ms old flags (one ∷ rest) → IsUnderway ms new flags (more ++ rest)
  pub sound : StaysSound ms (one ∷ []) more old new

-- an import leads to what waits in the place of the one that was sought
abbrev pub LeadsOnTo : Finder → Symbol → List Waiting → Type 0
LeadsOnTo find s [] = ⊤
LeadsOnTo find s (x ∷ xs) = next find s ≡ leads x.0

-- a reference is followed
pub record FollowsOne (ms : Modules) (m r : ℕ) (old new : Closing) : Type 0 where
  pub keeps : Keeps ms old new
  pub followed : (flags now : Rows Bool) (rest : List Waiting) → Sets flags m r now true → IsUnderway ms old flags rest → IsUnderway ms new now rest
  pub sound : FollowsSoundly ms m r old new

-- what waits for an import that a chain came to
abbrev pub met_or : Bool → Symbol → Via → List Waiting
met_or false t via = []
met_or true t via = (t, Some via) ∷ []

-- a chain comes to the import that a module has under the symbol that is sought
pub record JoinsOn (ms : Modules) (before : Option Via) (via : Via) (goes : Bool) (old new : Closing) : Type 0 where
  pub keeps : Keeps ms old new
  pub sought : (s t : Symbol) → IsMeant ms s via.«module» (Imported via.item) → symbol_via ms via ≡ Some t → ((find : Finder) → AreTabled ms find → next find s ≡ leads t)
      → (flags : Rows Bool) (rest : List Waiting) → IsUnderway ms old flags ((s, before) ∷ rest) → IsUnderway ms new flags (met_or goes t via ++ rest)
  pub sound : (s t : Symbol) → IsMeant ms s via.«module» (Imported via.item) → symbol_via ms via ≡ Some t → ((find : Finder) → AreTabled ms find → next find s ≡ leads t) → StaysSound ms ((s, before) ∷ []) (met_or goes t via) old new

-- ---- references

-- a declaration is reached that a reference denotes at once
pub record ArrivesAlone (ms : Modules) (spot : DeclarationId) (old new : Closing) : Type 0 where
  pub arrives : Arrives ms.list.items spot old.holding new.holding
  pub chains : new.chains ≡ old.chains
  pub asked : new.asked ≡ old.asked
  pub missing : new.is_missing ≡ old.is_missing

-- a name denotes nothing
pub record LacksOne (old new : Closing) : Type 0 where
  pub holding : new.holding ≡ old.holding
  pub chains : new.chains ≡ old.chains
  pub asked : new.asked ≡ old.asked
  pub missing : new.is_missing ≡ true

abbrev pub EndsAs : Modules → Denoted → Closing → Closing → Type 0
EndsAs ms (denoted.Declared spot) old new = ArrivesAlone ms spot old new
EndsAs ms (denoted.Unloaded link) old new = new ≡ old
EndsAs ms (denoted.Missing path name) old new = LacksOne old new
EndsAs ms (denoted.Private path name) old new = LacksOne old new
EndsAs ms denoted.Free old new = new ≡ old

-- nothing is forgotten, flags of references among it
pub record KeepsFlags (ms : Modules) (old new : Closing) : Type 0 where
  pub holding : Grows old.holding new.holding
  pub set : (m r : ℕ) → IsSet old.followed.items m r → IsSet new.followed.items m r
  pub room : (m r : ℕ) → is_some (cell new.followed.items m r) ≡ is_some (cell old.followed.items m r)
  pub missing : new.is_missing ≡ false → old.is_missing ≡ false
  pub unloaded : (find : Finder) → AreTabled ms find → AreUnloaded find (waiting old.asked) → AreUnloaded find (waiting new.asked)

-- the search goes on
pub record Searches (ms : Modules) (old new : Closing) : Type 0 where
  pub keeps : KeepsFlags ms old new
  pub underway : (rest : List Waiting) → IsUnderway ms old old.followed.items rest → IsUnderway ms new new.followed.items rest

-- these references of a module are followed
abbrev pub AreFollowed : Rows Bool → ℕ → List ℕ → Type 0
AreFollowed flags m references = (r : ℕ) → Contains references r → HasRoom flags m r → IsSet flags m r

-- the references of a place are followed
abbrev pub IsFollowed : Modules → Rows Bool → DeclarationId → Type 0
IsFollowed ms flags spot = (one : Module) (uses : Vec ℕ Global) → slice_get ms.list.items spot.«module» ≡ Some one → slice_get one.uses.items spot.place ≡ Some uses → AreFollowed flags spot.«module» uses.items

-- the references of so many places that were reached are followed
abbrev pub AreDone : Modules → Closing → ℕ → Type 0
AreDone ms cl n = (i : ℕ) (spot : DeclarationId) → i < n → slice_get cl.holding.work.items i ≡ Some spot → IsFollowed ms cl.followed.items spot

-- ---- the end

-- Where no name is known to denote nothing, and places begin in which all that begins is held: the search holds all that is reached.
abbrev pub IsClosed : Modules → Closing → Type 0
IsClosed ms cl = (find : Finder) → AreTabled ms find → cl.is_missing ≡ false → (root : Path) (kept : List Name) (all_begin : Bool)
    → ((m : Path) (k : ℕ) → Begins find root kept all_begin m k → HoldsAt ms cl.holding m k) → IsPassedAt ms cl.holding root → HoldsAll ms find cl.holding (waiting cl.asked) root kept all_begin

-- the search is where it was left, and nothing waits but what is asked for
pub record IsOpen (ms : Modules) (cl : Closing) : Type 0 where
  pub underway : IsUnderway ms cl cl.followed.items []
  pub done : AreDone ms cl cl.done
  pub bounded : cl.done ≤ length cl.holding.work.items
  pub unloaded : (find : Finder) → AreTabled ms find → AreUnloaded find (waiting cl.asked)

-- it holds nothing but what is reached, and asks for nothing but what is asked for; and where a name is known to denote nothing one does
pub record HoldsOnly (ms : Modules) (find : Finder) (cl : Closing) (root : Path) (kept : List Name) (all_begin : Bool) : Type 0 where
  pub holds : (m : Path) (k : ℕ) → HoldsAt ms cl.holding m k → Reached find root kept all_begin m k
  pub passes : (m : Path) → IsPassedAt ms cl.holding m → IsPassedThrough find root kept all_begin m
  pub asks : (p : Path) → AsksFor (waiting cl.asked) p → IsAsked find root kept all_begin p
  pub refuses : cl.is_missing ≡ true → RefusesSome find root kept all_begin

-- Where the search was right before, and places begin in which all that begins is held: it holds what is reached, exactly.
abbrev pub ClosesExactly : Modules → Closing → Closing → Type 0
ClosesExactly ms old new = IsOpen ms old → (find : Finder) → AreTabled ms find → (root : Path) (kept : List Name) (all_begin : Bool) → IsSound ms root kept all_begin old []
    → ((m : Path) (k : ℕ) → Begins find root kept all_begin m k → HoldsAt ms old.holding m k) → IsPassedAt ms old.holding root
    → HoldsOnly ms find new root kept all_begin × (new.is_missing ≡ false → HoldsAll ms find new.holding (waiting new.asked) root kept all_begin)

-- places are reached and modules passed, and nothing else changes
pub record ReachesMore (old new : Closing) : Type 0 where
  pub chains : new.chains ≡ old.chains
  pub followed : new.followed ≡ old.followed
  pub done : new.done ≡ old.done
  pub asked : new.asked ≡ old.asked
  pub missing : new.is_missing ≡ old.is_missing

-- what was asked for is taken, and waits
pub record TakesAsked (old : Closing) (asked : Asked) (new : Closing) : Type 0 where
  pub taken : waiting asked ≡ waiting old.asked
  pub none : waiting new.asked ≡ []
  pub holding : new.holding ≡ old.holding
  pub chains : new.chains ≡ old.chains
  pub followed : new.followed ≡ old.followed
  pub done : new.done ≡ old.done
  pub missing : new.is_missing ≡ old.is_missing

-- all of these that wait are sought
pub record SeeksAll (ms : Modules) (waits left : List Waiting) (old new : Closing) : Type 0 where
  pub keeps : Keeps ms old new
  pub sought : (flags : Rows Bool) (rest : List Waiting) → IsUnderway ms old flags (waits ++ rest) → IsUnderway ms new flags (left ++ rest)
  pub sound : StaysSound ms waits left old new
