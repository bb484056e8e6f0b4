-- Values that are held in pieces.
use Rattle.std.specs.Prelude.{List, [], ◌∷◌, ◌++◌}

-- pieces, one behind the other
abbrev pub flattened : {X : Type 0} → List (List X) → List X
flattened [] = []
flattened (xs ∷ ps) = xs ++ flattened ps

-- Pieces behind a front. A front without values has none behind it.
abbrev pub behind : {X : Type 0} → List X → List (List X) → List X
behind [] ps = []
behind (x ∷ xs) ps = x ∷ (xs ++ flattened ps)
