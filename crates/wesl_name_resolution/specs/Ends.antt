-- What is known of the chains that published imports begin.
use Rattle.std.specs.Prelude.{◌≡◌, ◌≢◌, ◌⊎◌, ⊤, ℕ, ◌<◌, List, [], ◌∷◌, Bool, true, false, map, length, Option, Some, None, slice_get, get_or, Vec, Result, Ok, Err}
use Rattle.std.specs.List.{Contains}
use Rattle.std.specs.declared.alloc.Global.{Global}
use Rattle.wesl_module_index.specs.declared.module.Module.{Module}
use Rattle.wesl_module_index.specs.declared.modules.Modules.{Modules}
use Rattle.wesl_module_index.specs.Loaded.{home_of, place_at, AreTabled, IsUse}
use Rattle.wesl_chains.specs.Outlines.{Path, Symbol, Use, Outline, Finder}
use Rattle.wesl_chains.specs.Senses.{sense}
use Rattle.wesl_chains.specs.Chains.{next, stands, leads, Outcome, outcome_at, Leads, Loops, Ends}
use Rattle.wesl_name_resolution.specs.declared.denote.Via.{Via}
use Rattle.wesl_name_resolution.specs.declared.denote.Denoted.{Denoted}
use Rattle.wesl_name_resolution.specs.declared.denote.Start.{Start}
use Rattle.wesl_name_resolution.specs.declared.ends.End as code
use Rattle.wesl_name_resolution.specs.declared.ends.End.{End}
use Rattle.wesl_name_resolution.specs.declared.ends.End.TheVariants.{Unknown, ReferenceTarget, Declared, Stops, Never}
use Rattle.wesl_name_resolution.specs.declared.ends.Ends as memo
use Rattle.wesl_name_resolution.specs.Links.{symbol_via, outcome_of, IsDenoted, begins, beginning_of}

-- ---- the ends of items

abbrev pub Rows : Type 0
Rows = List (Vec End Global)

abbrev pub row_end : Option (Vec End Global) → ℕ → End
row_end None n = Unknown
row_end (Some row) n = get_or row.items n Unknown

-- what is known of an item
abbrev pub end_at : Rows → Via → End
end_at rows via = row_end (slice_get rows via.«module») via.item

-- a chain is at its end at this symbol
abbrev pub HasEnded : Finder → Symbol → Type 0
HasEnded find t = (more : List Path) × (o : Outcome) × (outcome_at t (next find t) ≡ Some (more, o))

-- The chain from a symbol ends so: at this declaration; behind this import, at the symbol that it leads to; or it never ends.
abbrev pub IsEnd : Modules → Finder → Symbol → End → Type 0
IsEnd ms find s Unknown = ⊥
IsEnd ms find s ReferenceTarget = ⊥
IsEnd ms find s (Declared spot) = (t : Symbol) × (ps : List Path) × (home_of ms spot.«module» ≡ Some t.home) × Leads find s ps t × (next find t ≡ stands (place_at ms spot))
IsEnd ms find s (Stops via) = (t : Symbol) × (ps : List Path) × (symbol_via ms via ≡ Some t) × Leads find s ps t × HasEnded find t
IsEnd ms find s Never = Loops find s

-- the end of each published import's chain is known
abbrev pub AreEnds : Modules → memo.Ends → Type 0
AreEnds ms known = (find : Finder) → AreTabled ms find → (via : Via) (s : Symbol) → symbol_via ms via ≡ Some s → IsEnd ms find s (end_at known.ends.items via)

-- ---- what is answered

-- where the search begins for a reference of a module
abbrev pub Starts : Modules → ℕ → ℕ → Start → Type 0
Starts ms number reference start = (find : Finder) → AreTabled ms find → (p : Path) (o : Outline) (u : Use) → IsUse ms find number reference p o u
    → beginning_of ms start ≡ begins p (sense o u)

-- what a reference of a module denotes
abbrev pub IsDenotation : Modules → ℕ → ℕ → Denoted → Type 0
IsDenotation ms number reference answer = (find : Finder) → AreTabled ms find → (p : Path) (o : Outline) (u : Use) → IsUse ms find number reference p o u
    → IsDenoted find p o u (outcome_of ms answer)

-- the chain from a symbol comes to this
abbrev pub ComesTo : Finder → Symbol → Option Outcome → Type 0
ComesTo find s None = ⊥
ComesTo find s (Some r) = (ps : List Path) × Ends find s ps r

-- ---- the search

-- how many items each module has
abbrev pub counts_of : Rows → List ℕ
counts_of rows = map (λ row. length row.items) rows

abbrev pub item_counts : List Module → List ℕ
item_counts ms = map (λ m. length m.items.items) ms

abbrev pub IsWithin : Rows → Via → Type 0
IsWithin rows via = via.item < get_or (counts_of rows) via.«module» 0

-- an end that is found
abbrev pub IsKnown : End → Type 0
IsKnown Unknown = ⊥
IsKnown ReferenceTarget = ⊥
IsKnown (Declared spot) = ⊤
IsKnown (Stops via) = ⊤
IsKnown Never = ⊤

-- somebody has looked
abbrev pub is_looked_at : End → Bool
is_looked_at Unknown = false
is_looked_at ReferenceTarget = true
is_looked_at (Declared spot) = true
is_looked_at (Stops via) = true
is_looked_at Never = true

-- what this says of a chain that comes there: one that is still sought goes round
abbrev pub said_by : End → End
said_by Unknown = Unknown
said_by ReferenceTarget = Never
said_by (Declared spot) = Declared spot
said_by (Stops via) = Stops via
said_by Never = Never

-- nothing wrong is known
abbrev pub IsRight : Modules → Finder → Symbol → End → Type 0
IsRight ms find s Unknown = ⊤
IsRight ms find s ReferenceTarget = ⊤
IsRight ms find s (Declared spot) = IsEnd ms find s (Declared spot)
IsRight ms find s (Stops via) = IsEnd ms find s (Stops via)
IsRight ms find s Never = IsEnd ms find s Never

abbrev pub AreRight : Modules → Rows → Type 0
AreRight ms rows = (find : Finder) → AreTabled ms find → (via : Via) (s : Symbol) → symbol_via ms via ≡ Some s → IsRight ms find s (end_at rows via)

abbrev pub NoneSought : Rows → Type 0
NoneSought rows = (via : Via) → end_at rows via ≢ ReferenceTarget

-- what was known is known
abbrev pub Keeps : Rows → Rows → Type 0
Keeps old new = (via : Via) → end_at old via ≢ Unknown → end_at new via ≢ Unknown

-- one item gets this end
pub record SetsOne (old : Rows) (via : Via) (end : End) (new : Rows) : Type 0 where
  pub counts : counts_of new ≡ counts_of old
  pub there : IsWithin old via → end_at new via ≡ end
  pub others : (v : Via) → (end_at new v ≡ end_at old v) ⊎ ((v ≡ via) × (end_at new v ≡ end))

-- these items get this end
pub record SetsAll (old : Rows) (met : List Via) (end : End) (new : Rows) : Type 0 where
  pub counts : counts_of new ≡ counts_of old
  pub there : (v : Via) → Contains met v → IsWithin old v → end_at new v ≡ end
  pub others : (v : Via) → (end_at new v ≡ end_at old v) ⊎ (Contains met v × (end_at new v ≡ end))

-- behind an item that leads to a symbol: the next item, or the end
abbrev pub IsBehind : Modules → Finder → Symbol → Result Via End → Type 0
IsBehind ms find s (Ok via) = (t : Symbol) × (symbol_via ms via ≡ Some t) × (next find s ≡ leads t)
IsBehind ms find s (Err end) = IsEnd ms find s end

-- The items that were met, from the first on, are sought, and all of their chains end so.
pub record Walks (ms : Modules) (old : Rows) (first : Via) (met : List Via) (new : Rows) (end : End) : Type 0 where
  pub counts : counts_of new ≡ counts_of old
  pub right : AreRight ms new
  pub others : (v : Via) → (end_at new v ≡ end_at old v) ⊎ Contains met v
  pub sought : (v : Via) → end_at new v ≡ ReferenceTarget → Contains met v
  pub begun : (s : Symbol) → symbol_via ms first ≡ Some s → (end_at new first ≢ Unknown) ⊎ Contains met first
  pub ends : (find : Finder) → AreTabled ms find → (v : Via) → Contains met v → (s : Symbol) × (symbol_via ms v ≡ Some s) × IsEnd ms find s end
  pub known : (v : Via) → Contains met v → IsKnown end
