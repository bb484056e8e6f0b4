-- What is reached, and which modules are passed.
use Rattle.std.specs.Prelude.{◌≡◌, ◌⊎◌, ℕ, ◌<◌, ◌≤◌, List, [], ◌∷◌, ◌++◌, length, Bool, true, false, Some, slice_get, is_some, replicate, Vec}
use Rattle.std.specs.declared.alloc.Global.{Global}
use Rattle.std.specs.List.{Contains}
use Rattle.wesl_mark.specs.declared.place.Place.{Place}
use Rattle.wesl_mark.specs.declared.place.Kind.{Kind}
use Rattle.wesl_mark.specs.declared.place.Kind.TheVariants.{Directive, Assertion}
use Rattle.wesl_module_index.specs.declared.module.Module.{Module}
use Rattle.wesl_module_index.specs.declared.modules.DeclarationId.{DeclarationId}
use Rattle.wesl_reachability.specs.declared.holding.Holding.{Holding}
use Rattle.wesl_reachability.specs.Cells.{IsSet, HasRoom}

abbrev pub spot_of : ℕ → ℕ → DeclarationId
spot_of m k = record { «module» = m; place = k }

-- a place is reached
abbrev pub Holds : Holding → ℕ → ℕ → Type 0
Holds h m k = IsSet h.reached.items m k

-- a module is passed
abbrev pub IsPassed : Holding → ℕ → Type 0
IsPassed h m = slice_get h.passed.items m ≡ Some true

-- there is room for a place, and for a module
abbrev pub HasPlace : Holding → ℕ → ℕ → Type 0
HasPlace h m k = HasRoom h.reached.items m k

abbrev pub HasModule : Holding → ℕ → Type 0
HasModule h m = is_some (slice_get h.passed.items m) ≡ true

-- what is reached is in the work
abbrev pub IsWork : Holding → Type 0
IsWork h = (m k : ℕ) → Holds h m k → Contains h.work.items (spot_of m k)

-- and nothing else is
abbrev pub IsWorkOnly : Holding → Type 0
IsWorkOnly h = (s : DeclarationId) → Contains h.work.items s → Holds h s.«module» s.place

-- at a place of these stands something of this kind
pub record StandsAt (places : List Place) (k : ℕ) (kind : Kind) : Type 0 where
  pub place : Place
  pub is_there : slice_get places k ≡ Some place
  pub is_kind : place.kind ≡ kind

-- nothing is forgotten
pub record Grows (old new : Holding) : Type 0 where
  pub stays : (m k : ℕ) → Holds old m k → Holds new m k
  pub room : (m k : ℕ) → HasPlace old m k → HasPlace new m k
  pub keeps : (m : ℕ) → IsPassed old m → IsPassed new m
  pub wide : (m : ℕ) → HasModule old m → HasModule new m
  pub works : IsWork old → IsWork new
  pub works_only : IsWorkOnly old → IsWorkOnly new
  pub behind : (i : ℕ) (s : DeclarationId) → slice_get old.work.items i ≡ Some s → slice_get new.work.items i ≡ Some s
  pub longer : length old.work.items ≤ length new.work.items
  pub rows : length new.reached.items ≡ length old.reached.items

-- the places of one more module are taken in, none of which is reached
pub record TakesIn (places : ℕ) (old new : Holding) : Type 0 where
  pub row : Vec Bool Global
  pub reached : new.reached.items ≡ old.reached.items ++ row ∷ []
  pub unset : row.items ≡ replicate places false
  pub passed : new.passed.items ≡ old.passed.items ++ false ∷ []
  pub work : new.work ≡ old.work

-- a place is reached, if there is room, and no other
pub record Reaches (spot : DeclarationId) (old new : Holding) : Type 0 where
  pub grows : Grows old new
  pub held : HasPlace old spot.«module» spot.place → Holds new spot.«module» spot.place
  pub only : (m k : ℕ) → Holds new m k → Holds old m k ⊎ (spot_of m k ≡ spot)
  pub passed : new.passed ≡ old.passed

-- these places are reached
pub record ReachesAll (spots : List DeclarationId) (old new : Holding) : Type 0 where
  pub grows : Grows old new
  pub held : (s : DeclarationId) → Contains spots s → HasPlace old s.«module» s.place → Holds new s.«module» s.place
  pub only : (m k : ℕ) → Holds new m k → Holds old m k ⊎ Contains spots (spot_of m k)
  pub passed : new.passed ≡ old.passed

-- so many places of a module are reached, where they have this kind
pub record ReachesKind (number : ℕ) (places : List Place) (kind : Kind) (n : ℕ) (old new : Holding) : Type 0 where
  pub grows : Grows old new
  pub held : (k : ℕ) → k < n → StandsAt places k kind → HasPlace old number k → Holds new number k
  pub only : (m k : ℕ) → Holds new m k → Holds old m k ⊎ ((m ≡ number) × StandsAt places k kind)
  pub passed : new.passed ≡ old.passed

-- ---- modules that are passed

-- at a place of a module stands an assertion
abbrev pub IsAssertion : List Module → ℕ → ℕ → Type 0
IsAssertion ms m k = (one : Module) × (slice_get ms m ≡ Some one) × StandsAt one.places.items k Assertion

-- there is room for all modules and their places
pub record HasAll (ms : List Module) (h : Holding) : Type 0 where
  pub modules : (m : ℕ) (one : Module) → slice_get ms m ≡ Some one → HasModule h m
  pub places : (m k : ℕ) (one : Module) → slice_get ms m ≡ Some one → k < length one.places.items → HasPlace h m k

-- of each module that is passed the assertions are reached
abbrev pub Asserts : List Module → Holding → Type 0
Asserts ms h = (m k : ℕ) → IsPassed h m → IsAssertion ms m k → Holds h m k

-- a module is passed
pub record Passes (ms : List Module) (number : ℕ) (old new : Holding) : Type 0 where
  pub grows : Grows old new
  pub passed : HasModule old number → IsPassed new number
  pub asserts : HasAll ms old → Asserts ms old → Asserts ms new
  pub only_held : (m k : ℕ) → Holds new m k → Holds old m k ⊎ ((m ≡ number) × IsAssertion ms m k)
  pub only_passed : (m : ℕ) → IsPassed new m → IsPassed old m ⊎ (m ≡ number)

-- a chain comes to a declaration: it is reached, and its module is passed
pub record Arrives (ms : List Module) (spot : DeclarationId) (old new : Holding) : Type 0 where
  pub mid : Holding
  pub passes : Passes ms spot.«module» old mid
  pub reaches : Reaches spot mid new

-- ---- tests

-- the answer to a question
abbrev pub Answers : Bool → Type 0 → Type 0
Answers true is = is
Answers false is = is → ⊥

-- a place is reached, if it is to be
abbrev pub ReachesIf : DeclarationId → Bool → Holding → Holding → Type 0
ReachesIf spot true old new = Reaches spot old new
ReachesIf spot false old new = new ≡ old
