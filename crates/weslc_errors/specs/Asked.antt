-- Which modules a call asks for, by their printed paths.
use Rattle.std.specs.Prelude.{ℕ, ◌<◌, List}
use Rattle.std.specs.List.{Contains}
use Rattle.wesl_resolve.specs.Found.{Asked, HasAsked}
use Rattle.core_link_spec.specs.Occurrences.{Name}
use Rattle.core_link_spec.specs.Modules.{Path, Modules}
use Rattle.core_link_spec.specs.Rounds.{Sources, AreDistinct}
use Rattle.core_link_spec.specs.Asks.{printed_paths, Asks}
use Rattle.core_laws.specs.Headline.{AreKept}
use Rattle.weslc_errors.specs.Answers.{AreLoadedFrom}

-- What is found at each path, the root's path, the names that are asked for, and how many modules may be loaded.
module _ (found : Sources) (root : Path) (asked : List Name) (max : ℕ) where
  -- the path of the root, or one that loading asks for from it on
  pub data IsAskedOf : Path → Type 0 where
    the_root : 0 < max → IsAskedOf root
    behind_the_root : {kept : List Name} {p : Path} → AreKept found root asked kept → Asks found root kept max p → IsAskedOf p

  -- what a call asked for: each of these as loading asks for it, and none twice
  pub record AreAsked (before after : Asked) : Type 0 where
    pub paths : List Path
    pub has : HasAsked before paths after
    pub each : (p : Path) → Contains paths p → IsAskedOf p
    pub once : AreDistinct paths

  -- it asked for the loaded modules, in the order in which they were loaded, and for nothing else
  pub record AreAskedAsLoaded (before after : Asked) : Type 0 where
    pub kept : List Name
    pub modules : Modules
    pub loaded : AreLoadedFrom found root asked max kept modules
    pub has : HasAsked before (printed_paths modules) after
