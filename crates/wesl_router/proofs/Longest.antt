-- The best prefix is the longest, and of those of its length the last.
use Rattle.std.proofs.Common.{◌≡◌, refl, sym, ap, ◌∙◌, subst, ℕ, zero, suc, ◌+◌, ◌<◌, ◌≤◌, List, [], ◌∷◌, length, slice_get, Bool, true, false, Option, Some, None, ◌⊎◌, inl, inr, arith}
use Rattle.std.specs.Prelude.{◌&&◌, ⊤, leb, if◌then◌else◌}
use Rattle.std.proofs.lemmas.Bool.Decides.{leb_tells}
use Rattle.wgsl_path.specs.declared.path.ModulePath.{ModulePath}
use Rattle.wgsl_path.specs.Joining.{StartsWith}
use Rattle.wesl_router.specs.declared.choice.Served.{Served}
use Rattle.wesl_router.specs.Choice.{starts, is_no_shorter, better, best_from, best_of}
use Rattle.wesl_router.specs.Longest.{Serves, TheLongestServes, OthersServeNothing}
use Rattle.wesl_router.proofs.Starting.{from_test, to_test}

-- the second is as long as the first, and stands behind it if it is no longer
abbrev NoWorse : Option Served → Option Served → Type 0
NoWorse None r = ⊤
NoWorse (Some a) None = ⊥
NoWorse (Some a) (Some s) = (a.names ≤ s.names) × (a.names ≡ s.names → a.place ≤ s.place)

-- it stands before a place
abbrev Before : Option Served → ℕ → Type 0
Before None k = ⊤
Before (Some a) k = a.place < k

itself : (o : Option Served) → NoWorse o o
itself None = tt
itself (Some a) = (omega arith, λ h. omega arith)

along : (x y z : Option Served) → NoWorse x y → NoWorse y z → NoWorse x z
along None y z h k = tt
along (Some a) None z h k = absurd h
along (Some a) (Some b) None h k = absurd k
along (Some a) (Some b) (Some c) h k =
    let first = h.0 in
    let second = k.0 in
    (omega arith, λ same. (let one : a.names ≡ b.names = omega arith in let two : b.names ≡ c.names = omega arith in let p = h.1 one in let q = k.1 two in omega arith))

module _ (path : ModulePath) where
  -- ---- one more prefix

  grown_by : (place : ℕ) (best : Option Served) (n : ℕ) (b c : Bool) → is_no_shorter best n ≡ c → Before best place
      → NoWorse best (if b && c then Some (record { place = place; names = n }) else best)
  grown_by place best n false c is before = itself best
  grown_by place best n true false is before = itself best
  grown_by place None n true true is before = tt
  grown_by place (Some a) n true true is before =
      elim (leb_tells a.names n) [
        | inl h ↦ (h.1, λ same. omega (arith, before))
        | inr h ↦ (let wrong : true ≡ false = sym is ∙ h.0 in absurd (cc))
      ]

  grown : (place : ℕ) (best : Option Served) (q : ModulePath) → Before best place → NoWorse best (better path place best q)
  grown place best q before = grown_by place best (length q.components) (starts path q) (is_no_shorter best (length q.components)) refl before

  counted_by : (place : ℕ) (best : Option Served) (n : ℕ) (b c : Bool) → b ≡ true → is_no_shorter best n ≡ c
      → NoWorse (Some (record { place = place; names = n })) (if b && c then Some (record { place = place; names = n }) else best)
  counted_by place best n false c is tests = absurd (cc)
  counted_by place best n true true is tests = (omega arith, λ same. omega arith)
  counted_by place None n true false is tests = absurd (cc)
  counted_by place (Some a) n true false is tests =
      elim (leb_tells a.names n) [
        | inl h ↦ (let wrong : true ≡ false = sym h.0 ∙ tests in absurd (cc))
        | inr h ↦ (let less = h.1 in (omega arith, λ same. absurd (omega arith)))
      ]

  counted : (place : ℕ) (best : Option Served) (q : ModulePath) → starts path q ≡ true → NoWorse (Some (record { place = place; names = length q.components })) (better path place best q)
  counted place best q is = counted_by place best (length q.components) (starts path q) (is_no_shorter best (length q.components)) is refl

  placed_by : (place : ℕ) (best : Option Served) (n : ℕ) (b : Bool) → Before best place → Before (if b then Some (record { place = place; names = n }) else best) (suc place)
  placed_by place None n false before = tt
  placed_by place (Some a) n false before = omega (arith, before)
  placed_by place best n true before = omega arith

  placed : (place : ℕ) (best : Option Served) (q : ModulePath) → Before best place → Before (better path place best q) (suc place)
  placed place best q before = placed_by place best (length q.components) (starts path q && is_no_shorter best (length q.components)) before

  -- ---- all of them

  grows : (qs : List ModulePath) (place : ℕ) (best : Option Served) → Before best place → NoWorse best (best_from path place best qs)
  grows [] place best before = itself best
  grows (q ∷ qs) place best before =
      along best (better path place best q) (best_from path (suc place) (better path place best q) qs) (grown place best q before)
      (grows qs (suc place) (better path place best q) (placed place best q before))

  counts : (qs : List ModulePath) (place : ℕ) (best : Option Served) → Before best place → (i : ℕ) (q : ModulePath) → slice_get qs i ≡ Some q → starts path q ≡ true
      → NoWorse (Some (record { place = place + i; names = length q.components })) (best_from path place best qs)
  counts [] place best before i q there is = absurd (cc)
  counts (p ∷ qs) place best before zero q there is =
      let one : p ≡ q = cc in
      let first : NoWorse (Some (record { place = place; names = length q.components })) (better path place best p) = subst (λ (x : ModulePath). NoWorse (Some (record { place = place; names = length q.components })) (better path place best x)) (sym one) (counted place best q is) in
      let all = along (Some (record { place = place; names = length q.components })) (better path place best p) (best_from path (suc place) (better path place best p) qs) first (grows qs (suc place) (better path place best p) (placed place best p before)) in
      let same : place ≡ place + zero = omega arith in
      subst (λ n. NoWorse (Some (record { place = n; names = length q.components })) (best_from path place best (p ∷ qs))) same all
  counts (p ∷ qs) place best before (suc i) q there is =
      let same : suc place + i ≡ place + suc i = omega arith in
      subst (λ n. NoWorse (Some (record { place = n; names = length q.components })) (best_from path place best (p ∷ qs))) same
      (counts qs (suc place) (better path place best p) (placed place best p before) i q there is)

  -- ---- it is one of them

  pub record Found (qs : List ModulePath) (place : ℕ) (r : Option Served) : Type 0 where
    pub index : ℕ
    pub prefix : ModulePath
    pub there : slice_get qs index ≡ Some prefix
    pub begins : starts path prefix ≡ true
    pub is : r ≡ Some (record { place = place + index; names = length prefix.components })

  new_by : (place : ℕ) (best : Option Served) (q : ModulePath) (b c : Bool) → starts path q ≡ b → ((if b && c then Some (record { place = place; names = length q.components }) else best) ≡ best)
      ⊎ ((starts path q ≡ true) × ((if b && c then Some (record { place = place; names = length q.components }) else best) ≡ Some (record { place = place; names = length q.components })))
  new_by place best q false c is = inl refl
  new_by place best q true false is = inl refl
  new_by place best q true true is = inr (is, refl)

  finds : (qs : List ModulePath) (place : ℕ) (best : Option Served) → (best_from path place best qs ≡ best) ⊎ Found qs place (best_from path place best qs)
  finds [] place best = inl refl
  finds (q ∷ qs) place best = by (finds qs (suc place) (better path place best q)) (new_by place best q (starts path q) (is_no_shorter best (length q.components)) refl)
    where
      by : (best_from path (suc place) (better path place best q) qs ≡ better path place best q) ⊎ Found qs (suc place) (best_from path (suc place) (better path place best q) qs)
          → (better path place best q ≡ best) ⊎ ((starts path q ≡ true) × (better path place best q ≡ Some (record { place = place; names = length q.components })))
          → (best_from path place best (q ∷ qs) ≡ best) ⊎ Found (q ∷ qs) place (best_from path place best (q ∷ qs))
      by (inr f) new =
          let same : suc place + f.index ≡ place + suc f.index = omega arith in
          inr (record { index = suc f.index; prefix = f.prefix; there = f.there; begins = f.begins; is = f.is ∙ ap (λ n. Some (record { place = n; names = length f.prefix.components })) same })
      by (inl kept) (inl old) = inl (kept ∙ old)
      by (inl kept) (inr new) =
          let same : place ≡ place + zero = omega arith in
          inr (record { index = zero; prefix = q; there = refl; begins = new.0; is = kept ∙ new.1 ∙ ap (λ n. Some (record { place = n; names = length q.components })) same })

the_longest_by : (path : ModulePath) (prefixes : List ModulePath) (s : Served) → best_of path prefixes ≡ Some s → (best_of path prefixes ≡ None) ⊎ Found path prefixes zero (best_of path prefixes) → Serves path prefixes s
the_longest_by path prefixes s is (inl none) = let wrong : None ≡ Some s = sym none ∙ is in absurd (cc)
the_longest_by path prefixes s is (inr f) =
    let one : s ≡ record { place = zero + f.index; names = length f.prefix.components } = (let both : Some s ≡ Some (record { place = zero + f.index; names = length f.prefix.components }) = sym is ∙ f.is in cc) in
    let place : s.place ≡ f.index = ap (λ (x : Served). x.place) one ∙ (let same : zero + f.index ≡ f.index = omega arith in same) in
    let no_worse : (i : ℕ) (q : ModulePath) → slice_get prefixes i ≡ Some q → StartsWith path q → NoWorse (Some (record { place = zero + i; names = length q.components })) (Some s) = λ i q there begins. subst (NoWorse (Some (record { place = zero + i; names = length q.components }))) is (counts path prefixes zero None tt i q there (to_test path q begins)) in
    record {
      prefix = f.prefix;
      stands = subst (λ n. slice_get prefixes n ≡ Some f.prefix) (sym place) f.there;
      begins = from_test path f.prefix f.begins;
      names = ap (λ (x : Served). x.names) one;
      longest = λ i q there begins. (no_worse i q there begins).0;
      last = λ i q there begins same. (let h : zero + i ≤ s.place = (no_worse i q there begins).1 same in omega (arith, h));
    }

pub the_longest_serves : TheLongestServes
the_longest_serves path prefixes s is = the_longest_by path prefixes s is (finds path prefixes zero None)

pub others_serve_nothing : OthersServeNothing
others_serve_nothing path prefixes none i q there begins =
    subst (NoWorse (Some (record { place = zero + i; names = length q.components }))) none (counts path prefixes zero None tt i q there (to_test path q begins))
