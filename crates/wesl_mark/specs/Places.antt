-- What the places of a module say.
use Rattle.std.specs.Prelude.{◌≡◌, ⊤, ℕ, ◌≤◌, length, List, Option, Some, None, String}
use Rattle.std.specs.declared.alloc.Global.{Global}
use Rattle.wesl_mark.specs.declared.place.Kind.{Kind}
use Rattle.wesl_mark.specs.declared.place.Place.{Place}
use Rattle.wesl_mark.specs.declared.mark.MarkList.{MarkList}
use Rattle.wesl_mark.specs.Flats.{Flat}
use Rattle.wesl_mark.specs.Marks.{Name, name_at}
use Rattle.wesl_mark.specs.Lists.{says, flats_between}

-- what stands at a place, its name, and what it says of scopes, locals and uses
pub record DeclarationId : Type 0 where
  pub kind : Kind
  pub name : Option Name
  pub flats : List Flat

-- a number of a name, where there is one
abbrev pub IsNumber : List (String Global) → Option ℕ → Option Name → Type 0
IsNumber names None None = ⊤
IsNumber names None (Some x) = ⊥
IsNumber names (Some n) None = ⊥
IsNumber names (Some n) (Some x) = name_at names n ≡ Some x

-- a place with its marks
pub record IsSpot (l : MarkList) (p : Place) (s : DeclarationId) : Type 0 where
  pub kind : p.kind ≡ s.kind
  pub name : IsNumber l.names.keys p.name s.name
  pub within : p.end ≤ length (says l)
  pub flats : flats_between l p.start p.end ≡ s.flats
