-- Walks that change what they meet and pass a state on.
use Rattle.std.specs.Prelude.{List, [], ◌∷◌, Option, Some, None}

module _ {T S : Type 0} (w : T → S → T × S) where
  -- the elements of a list, one by one
  abbrev pub each : List T → S → List T × S
  each [] s = ([], s)
  each (x ∷ xs) s = let a = w x s in let b = each xs a.1 in (a.0 ∷ b.0, b.1)

  -- what may be absent
  abbrev pub if_there : Option T → S → Option T × S
  if_there None s = (None, s)
  if_there (Some x) s = let a = w x s in (Some a.0, a.1)
