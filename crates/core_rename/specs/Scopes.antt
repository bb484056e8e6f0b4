-- What scopes and lists of names in the code stand for.
use Rattle.std.specs.Prelude.{◌≡◌, ℕ, List, map}
use Rattle.std.specs.BTreeSet.{BTreeSet, contains_by}
use Rattle.std.specs.Ordering.{nat_cmp}
use Rattle.std.specs.Cmp.Lexicographic.{slice_cmp}
use denote.Ref.{Bor}
use Rattle.core_link_spec.specs.Occurrences.{Name, is_among}

-- the texts behind references
abbrev pub texts : List (Bor (List ℕ)) → List Name
texts names = map (λ name. name.now) names

-- the set has just these names
abbrev pub HasNames : BTreeSet (Bor (List ℕ)) → List Name → Type 0
HasNames set names = (x : Name) → contains_by (λ k. slice_cmp nat_cmp x k.now) set ≡ is_among x names
