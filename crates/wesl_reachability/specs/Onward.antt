-- Where published imports are known to lead.
use Rattle.std.specs.Prelude.{◌≡◌, ◌≢◌, ◌⊎◌, ℕ, ◌≤◌, List, [], ◌∷◌, ◌++◌, length, Bool, true, Option, Some, None, slice_get, Vec}
use Rattle.std.specs.declared.alloc.Global.{Global}
use Rattle.std.specs.Option.{unwrap_or}
use Rattle.wesl_chains.specs.Outlines.{Path, Symbol, Finder}
use Rattle.wesl_chains.specs.Chains.{Leads, Loops}
use Rattle.wesl_module_index.specs.declared.modules.Modules.{Modules}
use Rattle.wesl_module_index.specs.Loaded.{AreTabled}
use Rattle.wesl_name_resolution.specs.declared.denote.Via.{Via}
use Rattle.wesl_name_resolution.specs.Links.{symbol_via}
use Rattle.wesl_reachability.specs.Cells.{Rows, cell, HasRoom}

-- a chain of at least so many links, and of one, comes to the symbol
pub record IsFar (find : Finder) (s : Symbol) (o : Option Symbol) (n : ℕ) : Type 0 where
  pub last : Symbol
  pub by : Path
  pub more : List Path
  pub is_last : o ≡ Some last
  pub chain : Leads find s (by ∷ more) last
  pub count : n ≤ length (by ∷ more)

-- the import to which one is said to lead; itself, where none is said
abbrev pub onward_at : Rows Via → Via → Via
onward_at rows via = unwrap_or (cell rows via.«module» via.item) via

abbrev pub IsLast : Rows Via → Via → Type 0
IsLast rows via = onward_at rows via ≡ via

-- what is said is so
abbrev pub LeadOn : Modules → Finder → Rows Via → Type 0
LeadOn ms find rows = (via : Via) (s : Symbol) → symbol_via ms via ≡ Some s → IsLast rows via ⊎ IsFar find s (symbol_via ms (onward_at rows via)) 1

-- from these imports all that is said leads to these
abbrev pub StayIn : (Via → Bool) → Rows Via → Type 0
StayIn f rows = (via : Via) → f via ≡ true → f (onward_at rows via) ≡ true

-- ways are made shorter, and what is last stays so
pub record Shortens (ms : Modules) (old new : Rows Via) : Type 0 where
  pub right : (find : Finder) → AreTabled ms find → LeadOn ms find old → LeadOn ms find new
  pub stay : (f : Via → Bool) → StayIn f old → StayIn f new
  pub last : (via : Via) → IsLast old via → IsLast new via
  pub only_last : (via : Via) → IsLast new via → IsLast old via
  pub room : (m k : ℕ) → HasRoom old m k → HasRoom new m k

-- the last one to which an import leads; or its chain never ends
abbrev pub ComesToLast : Modules → Finder → Rows Via → Via → Symbol → Option Via → Type 0
ComesToLast ms find rows first s None = Loops find s
ComesToLast ms find rows first s (Some last) = (first ≡ last) ⊎ IsFar find s (symbol_via ms last) 1

-- an import that is the last one
abbrev pub IsOneLast : Rows Via → (Via → Bool) → Option Via → Type 0
IsOneLast rows f None = Unit {0}
IsOneLast rows f (Some last) = IsLast rows last × (f last ≡ true)

pub record FindsLast (ms : Modules) (old : Rows Via) (first : Via) (new : Rows Via) (result : Option Via) : Type 0 where
  pub shortens : Shortens ms old new
  pub is_last : (f : Via → Bool) → StayIn f old → f first ≡ true → IsOneLast new f result
  pub comes : (find : Finder) → AreTabled ms find → LeadOn ms find old → (s : Symbol) → symbol_via ms first ≡ Some s → ComesToLast ms find new first s result

-- so many items of a module, each of which leads to itself
abbrev pub AreAlone : ℕ → ℕ → List Via → Type 0
AreAlone number items row = (length row ≡ items) × ((k : ℕ) (v : Via) → slice_get row k ≡ Some v → v ≡ record { «module» = number; item = k })

-- the items of one more module are taken in
pub record TakesLinks (number items : ℕ) (old new : Rows Via) : Type 0 where
  pub row : Vec Via Global
  pub rows : new ≡ old ++ row ∷ []
  pub alone : AreAlone number items row.items
