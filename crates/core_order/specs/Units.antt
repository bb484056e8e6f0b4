-- The start of a unit of one module: its values, by the declarations that they mention.
use Rattle.std.specs.Prelude.{ℕ, suc, List, [], ◌∷◌, Option, Some, None}
use Rattle.core_syntax.specs.Tree.{Decl}
use Rattle.core_validate.specs.declared.place.Row.{Row}
use Rattle.core_validate.specs.Scopes.{rows}
use Rattle.core_validate.specs.Rings.{Chain}
use Rattle.core_order.specs.Order.{IsStartOrder}

-- what each declaration of a list declares, and what occurs in it
abbrev pub rows_of : List Decl → List Row
rows_of ds = rows (record { imports = []; declarations = ds })

-- the position, if the row is a value's
abbrev pub if_value : ℕ → Option ℕ → List ℕ → List ℕ
if_value i None rest = i ∷ rest
if_value i (Some parameters) rest = rest

-- the positions of the values, in text order, where the first row has this position
abbrev pub values_from : ℕ → List Row → List ℕ
values_from i [] = []
values_from i (r ∷ rs) = if_value i r.parameters (values_from (suc i) rs)

abbrev pub IsStartOf : List Row → List ℕ → Type 0
IsStartOf rows order = IsStartOrder (Chain rows) (values_from 0 rows) order

-- the order in which the values of these declarations are started, by their positions
abbrev pub IsStartOrderOf : List Decl → List ℕ → Type 0
IsStartOrderOf ds order = IsStartOf (rows_of ds) order
