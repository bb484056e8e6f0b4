-- How the marks of a place are read, with the scopes that are open.
use Rattle.std.specs.Prelude.{◌≡◌, ℕ, ◌<◌, List, [], ◌∷◌, ◌++◌, map, fold, length, Bool, true, nat_lt, Option, Some, None, slice_get, String}
use Rattle.std.specs.List.{All, list_all}
use Rattle.std.specs.declared.alloc.Global.{Global}
use Rattle.wgsl_path.specs.declared.path.ModulePath.{ModulePath}
use Rattle.wesl_mark.specs.declared.mark.MarkList.{MarkList}
use Rattle.wesl_mark.specs.declared.place.Place.{Place}
use Rattle.wesl_mark.specs.declared.scopes.Entry.{Entry}
use Rattle.wesl_mark.specs.declared.scopes.Entry.TheVariants.{Start, Bound}
use Rattle.wesl_mark.specs.Marks.{Name, text_at, path_of, name_of}
use Rattle.wesl_mark.specs.Lists.{flats_between}
use Rattle.wgsl_skeleton.specs.Flats.{Flat, enters, leaves, declares, occurs, Trail, outer, replayed}

-- ---- references

-- a reference of a list: its path, and its name
abbrev pub read_at : MarkList → ℕ → Option ModulePath × Name
read_at l r = (path_of (slice_get l.references.keys r), name_of l.names.keys (slice_get l.references.keys r))

abbrev pub AreReferences : MarkList → List ℕ → Type 0
AreReferences l numbers = All (λ r. r < length l.references.keys) numbers

-- ---- scopes that are open

abbrev pub name_in : List (String Global) → Entry → Option Name
name_in names Start = None
name_in names (Bound b) = Some (text_at names b.name)

-- the scopes that are open, by names, the innermost first
abbrev pub trail_said : List (String Global) → List Entry → Trail
trail_said names trail = fold (λ t e. name_in names e ∷ t) [] trail

abbrev pub is_named_below : ℕ → Entry → Bool
is_named_below count Start = true
is_named_below count (Bound b) = nat_lt b.name count

-- the locals' numbers are those of names
abbrev pub AreLocals : List (String Global) → List Entry → Type 0
AreLocals names trail = list_all (is_named_below (length names)) trail ≡ true

-- the scopes that are open behind marks
abbrev pub trail_after : List Flat → Trail → Trail
trail_after [] t = t
trail_after (enters ∷ ms) t = trail_after ms (None ∷ t)
trail_after (leaves ∷ ms) t = trail_after ms (outer t)
trail_after (declares x ∷ ms) t = trail_after ms (Some x ∷ t)
trail_after (occurs path x ∷ ms) t = trail_after ms t

-- ---- marks that are read

-- These marks are read: the names that occur and that no local hides are added to what was used, and the scopes that are open follow.
pub record Follows (l : MarkList) (ms : List Flat) (old : List Entry) (before : List ℕ) (new : List Entry) (after : List ℕ) : Type 0 where
  pub uses : (rest : List Flat) → map (read_at l) after ++ replayed rest (trail_said l.names.keys new) ≡ map (read_at l) before ++ replayed (ms ++ rest) (trail_said l.names.keys old)
  pub trail : trail_said l.names.keys new ≡ trail_after ms (trail_said l.names.keys old)

abbrev pub flats_at : MarkList → Place → List Flat
flats_at l p = flats_between l p.start p.end

-- what a place uses
abbrev pub uses_at : MarkList → Place → List (Option ModulePath × Name)
uses_at l p = replayed (flats_at l p) []

-- no scope and no local of a place stays open behind it
abbrev pub IsClosed : MarkList → Place → Type 0
IsClosed l p = trail_after (flats_at l p) [] ≡ []
