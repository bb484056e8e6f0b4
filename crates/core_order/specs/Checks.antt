-- What is checked of a list of values before it is taken for the order of the start.
use Rattle.std.specs.Prelude.{◌≡◌, ◌⊎◌, ℕ, ◌+◌, ◌<◌, ◌≤◌, List, length, slice_index, Option, Some, None}
use Rattle.std.specs.List.{Contains, slice_index_or}
use Rattle.core_validate.specs.declared.place.Place.{Place}
use Rattle.core_validate.specs.declared.place.Row.{Row}
use Rattle.core_validate.specs.Rings.{Leads, Chain}
use Rattle.core_validate.specs.Searches.{Targets}
use Rattle.core_order.specs.Units.{values_from}

-- the declaration at this position is a value
abbrev pub IsValue : List Row → ℕ → Type 0
IsValue rows x = Contains (values_from 0 rows) x

-- the list has values only, the first of rank 1, the next of rank 2 and so on
pub record AreListed (rows : List Row) (order ranks : List ℕ) : Type 0 where
  pub values : (k : ℕ) → k < length order → IsValue rows (slice_index order k)
  pub ranked : (k : ℕ) → k < length order → slice_index ranks (slice_index order k) ≡ k + 1

-- it has each value
abbrev pub IsWhole : List Row → List ℕ → Type 0
IsWhole rows order = (x : ℕ) → IsValue rows x → Contains order x

-- what a declaration mentions has no greater rank, and a smaller one where the declaration is a value
pub record AreBehind (rows : List Row) (ranks : List ℕ) : Type 0 where
  pub any : (i j : ℕ) → Leads rows i j → slice_index ranks j ≤ slice_index ranks i
  pub value : (i j : ℕ) → Leads rows i j → IsValue rows i → slice_index ranks j < slice_index ranks i

-- a value of the list, at `last` or before, leads to declaration x
pub record IsNeeded (rows : List Row) (order : List ℕ) (last x : ℕ) : Type 0 where
  pub user : ℕ
  pub within : user ≤ last
  pub leads : Chain rows (slice_index order user) x

-- where a value stands before one that stands before it in the text, it is needed by then
abbrev pub AreNeeded : List Row → List ℕ → Type 0
AreNeeded rows order =
    (i j : ℕ) → i < j → j < length order → slice_index order j < slice_index order i → IsNeeded rows order j (slice_index order i)

-- all that is checked
pub record IsChecked (rows : List Row) (order ranks : List ℕ) : Type 0 where
  pub listed : AreListed rows order ranks
  pub whole : IsWhole rows order
  pub behind : AreBehind rows ranks
  pub needed : AreNeeded rows order

-- ---- users

-- the value at `user` of the list is declaration x, or leads to it as the users of x say
abbrev pub Uses : List ℕ → List (Option ℕ) → ℕ → ℕ → Type 0
Uses order users x user = (slice_index order user ≡ x) ⊎ (slice_index_or users x None ≡ Some user)

-- the user of what is mentioned at these places was noted, and nothing else
abbrev pub Marks : List Place → Option ℕ → List (Option ℕ) → List (Option ℕ) → Type 0
Marks places user old new =
    (j u : ℕ) → slice_index_or new j None ≡ Some u → (slice_index_or old j None ≡ Some u) ⊎ (Targets places j × (user ≡ Some u))

-- each user leads there
abbrev pub AreUsers : List Row → List ℕ → List (Option ℕ) → Type 0
AreUsers rows order users = (x u : ℕ) → slice_index_or users x None ≡ Some u → Chain rows (slice_index order u) x

-- the user of x stands at `last` or before
pub record IsUsedBy (users : List (Option ℕ)) (last x : ℕ) : Type 0 where
  pub user : ℕ
  pub is : slice_index_or users x None ≡ Some user
  pub within : user ≤ last

-- where a value stands before one that stands before it in the text, it is used by then
abbrev pub AreUsedInTime : List ℕ → List (Option ℕ) → Type 0
AreUsedInTime order users =
    (i j : ℕ) → i < j → j < length order → slice_index order j < slice_index order i → IsUsedBy users j (slice_index order i)

-- none stands after a greater one
abbrev pub AreOrdered : List ℕ → Type 0
AreOrdered xs = (a b : ℕ) → a < b → b < length xs → slice_index xs a ≤ slice_index xs b

-- what was taken off is used by `last`
pub record Closes (users : List (Option ℕ)) (last : ℕ) (old new : List ℕ) : Type 0 where
  pub covers : (x : ℕ) → Contains old x → IsUsedBy users last x ⊎ Contains new x
  pub ordered : AreOrdered old → AreOrdered new
