-- What loading comes to of the modules that were asked for, alone.
use Rattle.std.specs.Prelude.{◌≡◌, List, Bool, true}
use Rattle.std.specs.List.{Contains}
use Rattle.wesl_resolve.specs.Found.{Asked, HasAsked}
use Rattle.core_link_spec.specs.Modules.{Path}
use Rattle.core_link_spec.specs.Rounds.{Sources}

-- what is found at these paths, and nothing at others
abbrev pub only : (Path → Bool) → Sources → Sources
only inside found p a = (inside p ≡ true) × found p a

-- whatever was asked for meanwhile is at these paths
abbrev pub AsksInside : (Path → Bool) → Asked → Asked → Type 0
AsksInside inside before after = (ps : List Path) → HasAsked before ps after → (p : Path) → Contains ps p → inside p ≡ true

-- this is said of any paths at which all stands that was asked for meanwhile
abbrev pub Alone : Asked → Asked → ((Path → Bool) → Type 0) → Type 0
Alone before after Says = (inside : Path → Bool) → AsksInside inside before after → Says inside

-- some more was asked for, or nothing
abbrev pub AsksMore : Asked → Asked → Type 0
AsksMore before after = (ps : List Path) × HasAsked before ps after
