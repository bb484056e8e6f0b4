-- What is reached and what is held, by places.
use Rattle.std.specs.Prelude.{◌≡◌, ℕ, List, Option, Some, slice_get}
use Rattle.std.specs.Option.{IsSome}
use Rattle.std.specs.List.{Contains}
use Rattle.core_syntax.specs.Tree.{Decl, UnitTree}
use Rattle.core_link_spec.specs.Occurrences.{Name, occurrences}
use Rattle.core_link_spec.specs.Modules.{Path, Modules, IsModule, Declares}
use Rattle.core_scopes.specs.Outcomes.{Outcome, symbol_at, unloaded, missing, private, free, Loaded, item_at, outcome}

-- what a finite chain of occurrences leads to from the kept names of the root: the declaration at this place of this module
pub data ReachedAt (find : Loaded) (root : Path) (keep : List Name) : Path → ℕ → Type 0 where
  kept : {x : Name} {m : Path} {place : ℕ} → Contains keep x → item_at (record { home = root; name = x }) (find root) ≡ symbol_at m place
      → ReachedAt find root keep m place
  onto : {m n : Path} {k place : ℕ} {h : Path × UnitTree} {d : Decl} {x : Name} → ReachedAt find root keep m k → find m ≡ Some h
      → slice_get h.1.declarations k ≡ Some d → Contains (occurrences d) x → outcome find h x ≡ symbol_at n place → ReachedAt find root keep n place

-- the printed name of the declaration at a place of a module, where it is held
abbrev pub Holding : Type 0
Holding = Path → ℕ → Option Name

-- what an occurrence denotes is held, or it is free
abbrev pub Settled : Holding → Outcome → Type 0
Settled held (symbol_at m place) = IsSome (held m place)
Settled held (unloaded s) = ⊥
Settled held (missing s) = ⊥
Settled held (private s) = ⊥
Settled held free = Prim.Unit {0}

-- every occurrence in what is held is settled
abbrev pub IsSettled : Loaded → Holding → Type 0
IsSettled find held = (m : Path) (k : ℕ) (h : Path × UnitTree) (d : Decl) (x : Name) → IsSome (held m k) → find m ≡ Some h
    → slice_get h.1.declarations k ≡ Some d → Contains (occurrences d) x → Settled held (outcome find h x)

-- a kept name is held
abbrev pub KeepsOne : Loaded → Path → Name → Holding → Type 0
KeepsOne find root x held = (m : Path) × (place : ℕ) × (item_at (record { home = root; name = x }) (find root) ≡ symbol_at m place) × IsSome (held m place)

-- the kept names are held
abbrev pub KeepsAll : Loaded → Path → List Name → Holding → Type 0
KeepsAll find root keep held = (x : Name) → Contains keep x → KeepsOne find root x held

-- the root is loaded and declares what is kept
abbrev pub IsRooted : Modules → Path → List Name → Type 0
IsRooted modules root keep = (u : UnitTree) × IsModule modules root u × ((x : Name) → Contains keep x → Declares u x)
