-- What the declarations of a unit mention, by what its names denote.
use Rattle.std.specs.Prelude.{ℕ, zero, suc, ◌+◌, ◌-◌, List, [], ◌∷◌, ◌++◌, map}
use Rattle.std.specs.List.{slice_index_or}
use Rattle.wesl_mark.specs.declared.place.Place.{Place}
use Rattle.wesl_outline.specs.declared.meanings.Meaning.{Meaning}
use Rattle.wesl_outline.specs.declared.meanings.Meaning.TheVariants.{Nothing, Local, Global, Free}
use Rattle.wesl_outline.specs.declared.outline.Outline.{Outline}

-- by one mark
abbrev pub mention : Meaning → List ℕ
mention Nothing = []
mention (Local _) = []
mention (Global j) = j ∷ []
mention Free = []

-- by so many marks from one on
abbrev pub mentions_from : List Meaning → ℕ → ℕ → List ℕ
mentions_from meanings start zero = []
mentions_from meanings start (suc n) = mentions_from meanings start n ++ mention (slice_index_or meanings (start + n) Nothing)

-- by the marks of a place
abbrev pub mentioned_in : List Meaning → Place → List ℕ
mentioned_in meanings place = mentions_from meanings place.start (place.end - place.start)

-- by each place
abbrev pub mentions : Outline → List (List ℕ)
mentions o = map (mentioned_in o.meanings.items) o.places.items
