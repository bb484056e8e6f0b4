-- What following the occurrences of what is held leaves.
use Rattle.std.specs.Prelude.{◌≡◌, ℕ, ◌≤◌, ◌⊎◌, List, ◌++◌, length, Bool, true, Some, slice_get}
use Rattle.std.specs.Option.{IsSome}
use Rattle.std.specs.List.{Contains}
use Rattle.core_syntax.specs.Tree.{Decl, UnitTree}
use Rattle.core_link_spec.specs.Occurrences.{Name, occurrences}
use Rattle.core_link_spec.specs.Modules.{Path, Symbol}
use Rattle.core_scopes.specs.Outcomes.{Outcome, symbol_at, unloaded, missing, private, free, Loaded, outcome}
use Rattle.core_reach.specs.Reach.{Holding}

-- what is held, what is asked for, whether something is missing, and the places that were reached, in their order
pub record Stage : Type 0 where
  pub held : Holding
  pub asks : Symbol → Bool
  pub is_missing : Bool
  pub reached : List (Path × ℕ)

-- what an occurrence denotes is held or asked for, or it is noted that something is missing
abbrev pub Handled : Stage → Outcome → Type 0
Handled s (symbol_at m place) = IsSome (s.held m place)
Handled s (unloaded t) = s.asks t ≡ true
Handled s (missing t) = s.is_missing ≡ true
Handled s (private t) = s.is_missing ≡ true
Handled s free = Prim.Unit {0}

-- every occurrence in the declaration at a place is handled
abbrev pub IsFollowed : Loaded → Stage → Path → ℕ → Type 0
IsFollowed find s m k = (h : Path × UnitTree) (d : Decl) (x : Name) → find m ≡ Some h → slice_get h.1.declarations k ≡ Some d → Contains (occurrences d) x → Handled s (outcome find h x)

-- this place was reached, at this index or later
abbrev pub IsLater : ℕ → List (Path × ℕ) → Path → ℕ → Type 0
IsLater at reached m k = (i : ℕ) × (at ≤ i) × (slice_get reached i ≡ Some (m, k))

-- nothing is lost, and what is newly held was reached
pub record Moves (old new : Stage) : Type 0 where
  pub stays_held : (m : Path) (k : ℕ) → IsSome (old.held m k) → IsSome (new.held m k)
  pub stays_asked : (t : Symbol) → old.asks t ≡ true → new.asks t ≡ true
  pub stays_missing : old.is_missing ≡ true → new.is_missing ≡ true
  pub more : List (Path × ℕ)
  pub behind : new.reached ≡ old.reached ++ more
  pub tracked : (m : Path) (k : ℕ) → IsSome (new.held m k) → IsSome (old.held m k) ⊎ IsLater (length old.reached) new.reached m k

-- what is held is followed, or was reached at this index or later
abbrev pub FollowedTo : Loaded → Stage → ℕ → Type 0
FollowedTo find s at = (m : Path) (k : ℕ) → IsSome (s.held m k) → IsFollowed find s m k ⊎ IsLater at s.reached m k

abbrev pub AllFollowed : Loaded → Stage → Type 0
AllFollowed find s = (m : Path) (k : ℕ) → IsSome (s.held m k) → IsFollowed find s m k

-- it is not said that a module lacks the item, or only imports it
abbrev pub IsPresent : Outcome → Type 0
IsPresent (symbol_at m place) = Prim.Unit {0}
IsPresent (unloaded t) = Prim.Unit {0}
IsPresent (missing t) = ⊥
IsPresent (private t) = ⊥
IsPresent free = Prim.Unit {0}

-- nothing is missing in the declaration at a place
abbrev pub ArePresent : Loaded → Path → ℕ → Type 0
ArePresent find m k = (h : Path × UnitTree) (d : Decl) (x : Name) → find m ≡ Some h → slice_get h.1.declarations k ≡ Some d → Contains (occurrences d) x → IsPresent (outcome find h x)
