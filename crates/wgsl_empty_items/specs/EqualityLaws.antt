-- What `==` of syntax trees says of the trees without places that they stand for.
use Rattle.std.specs.Prelude.{◌≡◌, ℕ, Bool, true, false, List, map}
use Rattle.std.specs.Bool.{Decides}
use Rattle.std.specs.List.{list_any, Contains}
use Rattle.wgsl_path.specs.declared.span.Spanned.{Spanned}

-- The test is true of two of them exactly where they stand for the same tree.
abbrev pub TellsTrees : {A T : Type 0} → (A → A → Bool) → (A → T) → Type 0
TellsTrees {A} test tree = (a b : A) → Decides (test a b) (tree a ≡ tree b)

-- Two of which the test is true stand for the same tree.
abbrev pub OneTreeWhereTrue : {A T : Type 0} → (A → A → Bool) → (A → T) → Type 0
OneTreeWhereTrue {A} test tree = (a b : A) → test a b ≡ true → tree a ≡ tree b

-- Of two that have no empty item, the test is true exactly where they stand for the same tree.
abbrev pub TellsTreesOfThoseWithout : {A T : Type 0} → (A → ℕ) → (A → A → Bool) → (A → T) → Type 0
TellsTreesOfThoseWithout {A} voids test tree = (a b : A) → voids a ≡ 0 → voids b ≡ 0 → Decides (test a b) (tree a ≡ tree b)

-- Of what a change leaves of two, the test is true exactly where the two stand for the same tree.
abbrev pub TellsTreesAfter : {A T : Type 0} → (A → A) → (A → A → Bool) → (A → T) → Type 0
TellsTreesAfter {A} change test tree = (a b : A) → Decides (test (change a) (change b)) (tree a ≡ tree b)

-- Some two stand for the same tree, and the test is false of them.
abbrev pub MissesSome : {A T : Type 0} → (A → A → Bool) → (A → T) → Type 0
MissesSome {A} test tree = (a : A) × (b : A) × (tree a ≡ tree b) × (test a b ≡ false)

-- The test is true of one of some placed nodes exactly where the tree is among theirs.
abbrev pub TellsContained : {A T : Type 0} → (A → A → Bool) → (A → T) → Type 0
TellsContained {A} test tree = (a : A) (xs : List (Spanned A)) → Decides (list_any (λ n. test n.node a) xs) (Contains (map (λ n. tree n.node) xs) (tree a))
