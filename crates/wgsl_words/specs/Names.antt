-- Names, and tables of them.
use Rattle.std.specs.Prelude.{ℕ, List, map, Bool}
use Rattle.std.specs.List.{list_any}
use Rattle.std.specs.Str.{bytes_eq}
use Rattle.std.specs.Borrow.{Bor}

-- a name, by its bytes
abbrev pub Name : Type 0
Name = List ℕ

abbrev pub is_in : Name → List Name → Bool
is_in x xs = list_any (bytes_eq x) xs

-- a table of names
abbrev pub texts : List (Bor (List ℕ)) → List Name
texts table = map (λ x. x.now) table
