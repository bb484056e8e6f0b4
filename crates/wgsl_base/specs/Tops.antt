-- The uppermost values of a stack.
use Rattle.std.specs.Prelude.{List, [], ◌∷◌, Option, Some, None}

abbrev pub first : {X : Type 0} → List X → Option X
first [] = None
first (x ∷ xs) = Some x

abbrev pub second : {X : Type 0} → List X → Option X
second [] = None
second (x ∷ xs) = first xs

-- a stack with another uppermost value, if it has any
abbrev pub with_first : {X : Type 0} → List X → X → List X
with_first [] y = []
with_first (x ∷ xs) y = y ∷ xs

-- a stack without its uppermost value, if it has any
abbrev pub without_first : {X : Type 0} → List X → List X
without_first [] = []
without_first (x ∷ xs) = xs
