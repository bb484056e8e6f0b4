-- Where modules come from, and those that are loaded.
use Rattle.std.specs.Prelude.{◌≡◌, ◌⊎◌, List, [], ◌∷◌, Option, Some, None, if◌then◌else◌}
use Rattle.std.specs.Option.{option_map}
use Rattle.std.specs.Str.{bytes_eq}
use Rattle.wesl_chains.specs.ModulePath.{ModulePath}
use Rattle.wgsl_token.specs.declared.fault.error.Error.{Error}
use Rattle.wgsl_token.specs.declared.fault.error.Refusal.{Refusal}
use Rattle.wesl_conditions.specs.declared.features.error.CondCompError.{CondCompError}
use Rattle.wgsl_skeleton.specs.DeclarationsTree.{UnitTree}
use Rattle.wesl_chains.specs.Outlines.{Path, Finder}
pub use Rattle.wesl_chains.specs.Canonical.{canonical}
use Rattle.wesl_linking_spec.specs.Outlining.{outline_of}

-- What is found at a path, once conditions are decided: a module's unit; that there is none; what is wrong with its text, or with its
-- conditions; that a condition is left; or why the parser gave up on the text.
pub data Answer : Type 0 where
  unit_of : UnitTree → Answer
  not_found : Answer
  faulty : Error → Answer
  conditioned : CondCompError → Answer
  left_open : Answer
  gave_up : Refusal → Answer

-- what is found at each printed path
abbrev pub Sources : Type 1
Sources = Path → Answer → Type 0

-- one thing is found at a path; laws on answers that are one need this
abbrev pub AreOne : Sources → Type 0
AreOne found = (p : Path) (a b : Answer) → found p a → found p b → a ≡ b

-- the root's unit is handed in, other modules are found
abbrev pub with_root : Path → UnitTree → Sources → Sources
with_root root u found p a = ((p ≡ root) × (a ≡ unit_of u)) ⊎ ((p ≡ root → ⊥) × found p a)

-- ---- paths

-- what a resolver finds, which is asked by paths
abbrev pub sources_of : (ModulePath → Answer → Type 0) → Sources
sources_of found p a = found (canonical p) a

-- ---- loaded modules

-- the modules that are loaded, by their printed paths, in the order of loading
abbrev pub Modules : Type 0
Modules = List (Path × UnitTree)

abbrev pub unit_at : Modules → Path → Option UnitTree
unit_at [] p = None
unit_at (m ∷ ms) p = if bytes_eq m.0 p then Some m.1 else unit_at ms p

-- their outlines
abbrev pub finder : Modules → Finder
finder ms p = option_map (outline_of (canonical p)) (unit_at ms p)
