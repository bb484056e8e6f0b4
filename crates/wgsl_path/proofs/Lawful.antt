-- The laws of paths.
use Rattle.std.proofs.Common.{◌≡◌, ℕ, zero, suc, ◌+◌, ◌-◌, ◌<◌, ◌≤◌, ◌^◌, min, List, [], ◌++◌, length, take, refl, sym, ap, ◌∙◌, arith, append_assoc, length-append, ◌⊎◌, inl, inr}
use Rattle.std.proofs.lemmas.List.{append-nil, take_all, take-append-le, length-take-le, take-take}
use Rattle.std.proofs.Math.Seq.{take-append-add}
use Rattle.wgsl_path.specs.declared.path.PathOrigin.{PathOrigin}
use Rattle.wgsl_path.specs.declared.path.PathOrigin.TheVariants.{Absolute, Relative, Package}
use Rattle.wgsl_path.specs.declared.path.ModulePath.{ModulePath}
use Rattle.wgsl_path.specs.Joining.{origin_above, seen_from, joined, supers_of}
use Rattle.wgsl_path.specs.Laws.{JoinsInAnyOrder, SelfBefore, SelfBehind, BeginsWithItself, BeginsAlong, BeginsWithTheFirst}

-- ---- what starts with what

pub reflexive : BeginsWithItself
reflexive path = (refl, ([], sym (append-nil path.components)))

pub transitive : BeginsAlong
transitive a b c ab bc = (
  ab.0 ∙ bc.0,
  (
    bc.1.0 ++ ab.1.0,
    ab.1.1 ∙ ap (λ names. names ++ ab.1.0) bc.1.1 ∙ append_assoc c.components bc.1.0 ab.1.0,
  ),
)

pub first : BeginsWithTheFirst
first path names = (refl, (names, refl))

-- ---- the path `self`

stays_within : (supers : ℕ) → supers < 2 ^ 64 → min (0 + (supers - 0)) (2 ^ 64 - 1) ≡ supers
stays_within supers fits = omega (arith, fits)

before_at : (origin : PathOrigin) (names : List (List ℕ)) → supers_of origin < 2 ^ 64 → seen_from (record { origin = Relative 0; components = [] }) origin names ≡ record { origin = origin; components = names }
before_at Absolute names fits = refl
before_at (Relative supers) names fits =
    ap (λ n. record { origin = Relative n; components = take (0 - supers) [] ++ names }) (stays_within supers fits)
    ∙ ap (λ kept. record { origin = Relative supers; components = kept ++ names }) (take_all (0 - supers) [] (omega arith))
before_at (Package name) names fits = refl

pub before : SelfBefore
before path fits = before_at path.origin path.components fits

behind_origin : (origin : PathOrigin) (n : ℕ) → supers_of origin < 2 ^ 64 → origin_above (0 - n) origin ≡ origin
behind_origin Absolute n fits = refl
behind_origin (Relative supers) n fits = let same : min (supers + (0 - n)) (2 ^ 64 - 1) ≡ supers = omega (arith, fits) in ap Relative same
behind_origin (Package name) n fits = refl

behind_names : (names : List (List ℕ)) → take (length names - 0) names ++ [] ≡ names
behind_names names = append-nil (take (length names - 0) names) ∙ take_all (length names - 0) names (omega arith)

pub behind : SelfBehind
behind path fits =
    ap (λ origin. record { origin = origin; components = take (length path.components - 0) path.components ++ [] }) (behind_origin path.origin (length path.components) fits)
    ∙ ap (λ names. record { origin = path.origin; components = names }) (behind_names path.components)

-- ---- three paths

above_twice : (origin : PathOrigin) (p q : ℕ) → origin_above q (origin_above p origin) ≡ origin_above (p + q) origin
above_twice Absolute p q = refl
above_twice (Relative supers) p q =
    let same : min (min (supers + p) (2 ^ 64 - 1) + q) (2 ^ 64 - 1) ≡ min (supers + (p + q)) (2 ^ 64 - 1) = omega arith in
    ap Relative same
above_twice (Package name) p q = refl

-- the levels that two paths behind a first one go up from its origin, and those that the two go up at once
same_levels : (x m d k : ℕ) → m + (k - d) < 2 ^ 64 → (m - x) + (k - ((x - m) + d)) ≡ min (m + (k - d)) (2 ^ 64 - 1) - x
same_levels x m d k fits = omega (arith, fits)

le_or_lt : (n m : ℕ) → (n ≤ m) ⊎ (m < n)
le_or_lt zero m = inl (omega arith)
le_or_lt (suc n) zero = inr (omega arith)
le_or_lt (suc n) (suc m) = elim (le_or_lt n m) [ inl le ↦ inl (omega (arith, le)) | inr lt ↦ inr (omega (arith, lt)) ]

-- the names that are left of a first path and a second one, where the third has so many `super`
left_names : (xs ds : List (List ℕ)) (m k : ℕ) → m + (k - length ds) < 2 ^ 64
    → take (length (take (length xs - m) xs ++ ds) - k) (take (length xs - m) xs ++ ds)
    ≡ take (length xs - min (m + (k - length ds)) (2 ^ 64 - 1)) xs ++ take (length ds - k) ds
left_names xs ds m k fits = elim (le_or_lt k (length ds)) [
  | inl few ↦
      let count : length (kept ++ ds) - k ≡ length kept + (length ds - k) = omega (arith, few, length-append kept ds) in
      let same : length xs - m ≡ length xs - min (m + (k - length ds)) (2 ^ 64 - 1) = omega (arith, few, fits) in
      ap (λ n. take n (kept ++ ds)) count
      ∙ take-append-add kept ds (length ds - k)
      ∙ ap (λ n. take n xs ++ take (length ds - k) ds) same
  | inr many ↦
      let count : length (kept ++ ds) - k ≡ length xs - min (m + (k - length ds)) (2 ^ 64 - 1) = omega (arith, many, fits, kept_many, length-append kept ds) in
      let below : length (kept ++ ds) - k ≤ length kept = omega (arith, many, length-append kept ds) in
      let below_all : length (kept ++ ds) - k ≤ length xs - m = omega (arith, below, kept_many) in
      let none : length ds - k ≡ 0 = omega (arith, many) in
      take-append-le (length (kept ++ ds) - k) kept ds below
      ∙ take-take (length (kept ++ ds) - k) (length xs - m) xs below_all
      ∙ ap (λ n. take n xs) count
      ∙ sym (append-nil (take (length xs - min (m + (k - length ds)) (2 ^ 64 - 1)) xs))
      ∙ ap (λ n. take (length xs - min (m + (k - length ds)) (2 ^ 64 - 1)) xs ++ take n ds) (sym none)
]
  where
    kept : List (List ℕ)
    kept = take (length xs - m) xs

    kept_many : length kept ≡ length xs - m
    kept_many = length-take-le (length xs - m) xs (omega arith)

at_relatives : (origin : PathOrigin) (xs ds es : List (List ℕ)) (m k : ℕ) → m + (k - length ds) < 2 ^ 64
    → joined (joined (record { origin = origin; components = xs }) (record { origin = Relative m; components = ds })) (record { origin = Relative k; components = es })
    ≡ joined (record { origin = origin; components = xs }) (joined (record { origin = Relative m; components = ds }) (record { origin = Relative k; components = es }))
at_relatives origin xs ds es m k fits =
    let kept = take (length xs - m) xs in
    let kept_many : length kept ≡ length xs - m = length-take-le (length xs - m) xs (omega arith) in
    let long : length (kept ++ ds) ≡ (length xs - m) + length ds = length-append kept ds ∙ ap (λ n. n + length ds) kept_many in
    let origins = above_twice origin (m - length xs) (k - length (kept ++ ds))
    ∙ ap (λ n. origin_above ((m - length xs) + (k - n)) origin) long
    ∙ ap (λ n. origin_above n origin) (same_levels (length xs) m (length ds) k fits) in
    let names = ap (λ front. front ++ es) (left_names xs ds m k fits)
    ∙ append_assoc (take (length xs - min (m + (k - length ds)) (2 ^ 64 - 1)) xs) (take (length ds - k) ds) es in
    ap (λ o. record { origin = o; components = take (length (kept ++ ds) - k) (kept ++ ds) ++ es }) origins
    ∙ ap (λ n. record { origin = origin_above (min (m + (k - length ds)) (2 ^ 64 - 1) - length xs) origin; components = n }) names

joins : (a : ModulePath) (second third : PathOrigin) (ds es : List (List ℕ)) → supers_of second + (supers_of third - length ds) < 2 ^ 64
    → joined (joined a (record { origin = second; components = ds })) (record { origin = third; components = es })
    ≡ joined a (joined (record { origin = second; components = ds }) (record { origin = third; components = es }))
joins a second Absolute ds es fits = refl
joins a second (Package name) ds es fits = refl
joins a Absolute (Relative k) ds es fits = refl
joins a (Package name) (Relative k) ds es fits = refl
joins a (Relative m) (Relative k) ds es fits = at_relatives a.origin a.components ds es m k fits

pub associative : JoinsInAnyOrder
associative a b c fits = joins a b.origin c.origin b.components c.components fits
