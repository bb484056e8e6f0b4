-- Of what is found, nothing else counts than what is asked for.
use Rattle.std.specs.Prelude.{ℕ, List, Result, ◌↔◌}
use Rattle.wesl_resolve.specs.Found.{Answer}
use Rattle.core_link_spec.specs.Occurrences.{Name}
use Rattle.core_link_spec.specs.Modules.{Path, Modules}
use Rattle.core_link_spec.specs.Rounds.{Sources, LoadError, IsLoadingResult}
use Rattle.core_link_spec.specs.Asks.{Asks}
use Rattle.core_modules_meaning.specs.Determined.{IsFunctional, SameOutcome}

-- Two sources that agree on what is asked of one of them come to the same, where the other has one answer at each path.
abbrev pub OnlyWhatIsAskedCounts : Sources → Sources → Type 0
OnlyWhatIsAskedCounts found other = IsFunctional other → (root : Path) (keep : List Name) (max : ℕ)
    → ((p : Path) → Asks found root keep max p → (a : Answer) → found p a ↔ other p a)
    → (one two : Result Modules LoadError) → IsLoadingResult found root keep max one → IsLoadingResult other root keep max two → SameOutcome one two
