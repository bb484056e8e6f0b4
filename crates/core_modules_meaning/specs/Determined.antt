-- What loading comes to is determined.
use Rattle.std.specs.Prelude.{◌≡◌, ℕ, List, map, Result, Ok, Err}
use Rattle.wgsl_path.specs.Paths.{path_text}
use Rattle.core_syntax.specs.Tree.{UnitTree}
use Rattle.wesl_resolve.specs.Found.{Answer}
use Rattle.core_link_spec.specs.Occurrences.{Name}
use Rattle.core_link_spec.specs.Modules.{Path, Modules}
use Rattle.core_link_spec.specs.Rounds.{Sources, LoadError, IsLoadingResult}

-- the modules by their printed paths
abbrev pub listed : Modules → List (Path × UnitTree)
listed modules = map (λ a. (path_text a.0, a.1)) modules

-- the same refusal, or the same units at the same printed paths, in one order
abbrev pub SameOutcome : Result Modules LoadError → Result Modules LoadError → Type 0
SameOutcome (Ok a) (Ok b) = listed a ≡ listed b
SameOutcome (Ok a) (Err r) = ⊥
SameOutcome (Err r) (Ok b) = ⊥
SameOutcome (Err r) (Err q) = r ≡ q

-- at each path one answer is found at most
abbrev pub IsFunctional : Sources → Type 0
IsFunctional found = (p : Path) (a b : Answer) → found p a → found p b → a ≡ b

-- for what is found at each path
abbrev pub LoadingComesToOne : Sources → Type 0
LoadingComesToOne found = IsFunctional found → (root : Path) (keep : List Name) (max : ℕ) (one other : Result Modules LoadError)
    → IsLoadingResult found root keep max one → IsLoadingResult found root keep max other → SameOutcome one other
