-- What was asked for.
use Rattle.std.specs.Prelude.{⊤, List, map, ℕ, Some, None}
use Rattle.std.specs.List.{Contains}
use Rattle.wgsl_path.specs.Paths.{path_text}
use Rattle.wesl_resolvers.specs.Found.{Asked}

-- the module at a printed path was asked for, as far as is known
abbrev pub IsAsked : Asked → List ℕ → Type 0
IsAsked None p = ⊤
IsAsked (Some paths) p = Contains (map path_text paths) p

-- what was asked for stays so
abbrev pub StayAsked : Asked → Asked → Type 0
StayAsked old new = (p : List ℕ) → IsAsked old p → IsAsked new p
