-- Sources that agree on what is asked of one of them.
use Rattle.std.specs.Prelude.{ℕ, ◌↔◌, List}
use Rattle.core_syntax.specs.Tree.{UnitTree}
use Rattle.wesl_resolve.specs.Found.{Answer, unit_of}
use Rattle.core_link_spec.specs.Occurrences.{Name}
use Rattle.core_link_spec.specs.Modules.{Path}
use Rattle.core_link_spec.specs.Rounds.{Sources}
use Rattle.weslc_errors.specs.Asked.{IsAskedOf}

-- What is found at each path, the root's path, the names that are asked for, and how many modules may be loaded.
module _ (found : Sources) (root : Path) (asked : List Name) (max : ℕ) where
  -- other sources agree on what is asked of these: the same is found there
  abbrev pub AgreesOnAsked : Sources → Type 0
  AgreesOnAsked other = (p : Path) → IsAskedOf found root asked max p → (a : Answer) → found p a ↔ other p a

  -- other sources have each unit that is asked of these
  abbrev pub HasAskedUnits : Sources → Type 0
  HasAskedUnits other = (p : Path) → IsAskedOf found root asked max p → (u : UnitTree) → found p (unit_of u) → other p (unit_of u)
