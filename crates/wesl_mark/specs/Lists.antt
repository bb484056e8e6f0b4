-- What a list of marks says, and how it grows.
use Rattle.std.specs.Prelude.{◌≡◌, ℕ, List, ◌++◌, map, take, drop, Some, slice_get}
use Rattle.std.specs.List.{flat_map}
use Rattle.wesl_mark.specs.declared.names.Reference.{Reference}
use Rattle.wesl_mark.specs.declared.mark.MarkList.{MarkList}
use Rattle.wesl_mark.specs.Flats.{Flat}
use Rattle.wesl_mark.specs.Marks.{Name, Said, name_at, said_by, flat_of}

-- what each mark says, in their order
unfoldable pub says : MarkList → List Said
says l = map (said_by l.names.keys l.references.keys) l.marks.items

-- what they say of scopes, locals and uses
unfoldable pub flats : MarkList → List Flat
flats l = flat_map flat_of (says l)

-- what those from `start` on say of it, up to `end`, which is not among them
unfoldable pub flats_between : MarkList → ℕ → ℕ → List Flat
flats_between l start end = flat_map flat_of (drop start (take end (says l)))

-- `new` has what `old` has: numbers read as the same names and references, and the first marks say the same
pub record Grows (old new : MarkList) : Type 0 where
  pub names : (n : ℕ) (x : Name) → name_at old.names.keys n ≡ Some x → name_at new.names.keys n ≡ Some x
  pub references : (n : ℕ) (r : Reference) → slice_get old.references.keys n ≡ Some r → slice_get new.references.keys n ≡ Some r
  pub marks : (more : List Said) × (says new ≡ says old ++ more)

-- whatever grew to `old` grew to `new`
abbrev pub OnlyGrows : MarkList → MarkList → Type 0
OnlyGrows old new = (first : MarkList) → Grows first old → Grows first new
