-- What is held while declarations are reached, by places.
use Rattle.std.specs.Prelude.{◌≡◌, ℕ, List, Option, Some, None, string_bytes, nat_eq, if◌then◌else◌}
use Rattle.std.specs.Str.{bytes_eq}
use Rattle.std.specs.Option.{IsSome}
use Rattle.std.specs.List.{All}
use Rattle.std.specs.Ordering.{nat_cmp}
use Rattle.std.specs.BTreeMap.{BTreeMap, get, get_by_text}
use Rattle.std.specs.declared.string.String.{String}
use Rattle.std.specs.declared.alloc.Global.{Global}
use Rattle.core_link_spec.specs.Occurrences.{Name}
use Rattle.core_link_spec.specs.Modules.{Path}
use Rattle.core_scopes.specs.Outcomes.{loaded}
use Rattle.core_reach.specs.Reach.{ReachedAt}
use Rattle.core_scopes.specs.declared.denote.Symbol.{Symbol as Found}
use Rattle.core_reach.specs.declared.linking.Linking.{Linking}

abbrev pub HeldNames : Type 0
HeldNames = BTreeMap (String Global) (BTreeMap ℕ Name)

abbrev pub name_among : Option (BTreeMap ℕ Name) → ℕ → Option Name
name_among None place = None
name_among (Some places) place = get nat_cmp places place

-- the printed name of the declaration at a place, where it is held
abbrev pub held_at : HeldNames → Path → ℕ → Option Name
held_at held m place = name_among (get_by_text held m) place

-- a name is held at one more place
abbrev pub Holds : HeldNames → Path → ℕ → Name → HeldNames → Type 0
Holds old m place name new =
    (n : Path) (k : ℕ) → held_at new n k ≡ (if bytes_eq m n then (if nat_eq place k then Some name else held_at old n k) else held_at old n k)

abbrev pub LeadsTo : Linking → Path → ℕ → Type 0
LeadsTo l m place = ReachedAt (loaded l.modules.now) l.root.now l.keep.now m place

abbrev pub IsReached : Linking → Found → Type 0
IsReached l s = LeadsTo l (string_bytes s.«module».now.printed_path) s.place

-- nothing is held but what is reached
abbrev pub AllReached : Linking → HeldNames → Type 0
AllReached l held = (m : Path) (place : ℕ) → IsSome (held_at held m place) → LeadsTo l m place

-- what is held and what was reached in this round
abbrev pub IsSound : Linking → HeldNames → List Found → Type 0
IsSound l held reached = AllReached l held × All (IsReached l) reached
