-- A list without error that features have settled has none.
use Rattle.std.proofs.Common.{◌≡◌, refl, sym, ap, ◌∙◌, subst, List, [], ◌∷◌, map, Bool, true, false, not, ◌&&◌, cond, Option, Some, None}
use Rattle.std.specs.Prelude.{if◌then◌else◌}
use Rattle.std.specs.Option.{option_or}
use Rattle.wgsl_expressions.specs.AttributesTree.{Attr, if_true, else_if, otherwise}
use Rattle.wgsl_expressions.specs.Tree.{Exp}
use Rattle.wesl_conditions.specs.declared.features.feature.Features.{Features}
use Rattle.wesl_conditions.specs.declared.features.error.CondCompError.{CondCompError}
use Rattle.wesl_conditions.specs.declared.meaning.chain.Chain.{Chain}
use Rattle.wesl_conditions.specs.Conditions.{known, simplified, condition_fault}
use Rattle.wesl_conditions.specs.Chains.{Mark, if_mark, elif_mark, else_mark, marks, marks_of, opens, continues, HasAttributes, bare, marked, Standing, goes, stays, waits, standing, left}
use Rattle.wesl_conditions.specs.Seen.{item_fault, Seen, list_fault}
use Rattle.wesl_conditions.specs.Walks.{start, goes_on, chain_at, standing_in, behind_standing, behind, is_left, attributes_with, settled, inside_of, checked}
use Rattle.wesl_conditions.proofs.Walking.{settled_is_left}
use Rattle.wesl_conditions.proofs.Checking.{checked_is_fault}
use Rattle.wesl_cond_laws.proofs.Simplifying.{first_none, second_none, simplified_faultless}
use Rattle.wesl_cond_laws.proofs.Standings.{IsLawful, IsOpen, waiting}
use Rattle.wesl_cond_laws.proofs.Keeping.{second_and, and_false, all_else, else_continues, marks_marked, marks_bare}
use Rattle.wesl_cond_laws.proofs.Again.{Follows, else_stays, still_waits, enter, goes_there}

else_faultless : (features : Features) (first : Bool) (ms : List Mark) → item_fault features first ms ≡ None → item_fault features false (all_else ms) ≡ None
else_faultless features first [] h = refl
else_faultless features first (m ∷ []) h = refl
else_faultless features first (m ∷ n ∷ ms) h = absurd (cc)

-- the condition of an item that waits
condition_faultless : (features : Features) (first : Bool) (ms : List Mark) (e : Exp) → standing features ms ≡ waits e → item_fault features first ms ≡ None
    → condition_fault features e ≡ None
condition_faultless features first [] e is h = absurd (cc)
condition_faultless features first (if_mark x ∷ []) e is h = by (known (simplified features x)) is
  where
    by : (o : Option Bool) → elim o [ Some b ↦ (if b then stays else goes) | None ↦ waits (simplified features x) ] ≡ waits e → condition_fault features e ≡ None
    by (Some true) is = absurd (cc)
    by (Some false) is = absurd (cc)
    by None is =
        let same : simplified features x ≡ e = cc in
        ap (condition_fault features) (sym same) ∙ simplified_faultless features x h
condition_faultless features true (elif_mark x ∷ []) e is h = absurd (cc)
condition_faultless features false (elif_mark x ∷ []) e is h = by (known (simplified features x)) is
  where
    by : (o : Option Bool) → elim o [ Some b ↦ (if b then stays else goes) | None ↦ waits (simplified features x) ] ≡ waits e → condition_fault features e ≡ None
    by (Some true) is = absurd (cc)
    by (Some false) is = absurd (cc)
    by None is =
        let same : simplified features x ≡ e = cc in
        ap (condition_fault features) (sym same) ∙ simplified_faultless features x h
condition_faultless features first (else_mark ∷ []) e is h = absurd (cc)
condition_faultless features first (m ∷ n ∷ ms) e is h = absurd (cc)

module _ (features : Features) where
  -- no item has an error, and none that stays has one inside
  abbrev Clean : Chain → List Seen → Type 0
  Clean chain [] = Unit
  Clean chain (x ∷ xs) =
      (item_fault features (not (goes_on chain x.conditions)) x.conditions ≡ None)
      × (inside_of (standing_in features chain x.conditions) x ≡ None) × Clean (behind features chain x.conditions) xs

  inside_none : (chain : Chain) (inside : Option CondCompError) (xs : List Seen) → checked features chain inside xs ≡ None → inside ≡ None
  inside_none chain inside [] h = h
  inside_none chain inside (x ∷ xs) h = by (inside_none b (option_or inside io) xs) (goes_on chain x.conditions) h
    where
      b : Chain
      b = behind features chain x.conditions

      io : Option CondCompError
      io = inside_of (standing_in features chain x.conditions) x

      by : (checked features b (option_or inside io) xs ≡ None → option_or inside io ≡ None) → (go : Bool)
          → (if go then option_or (item_fault features false x.conditions) (checked features b (option_or inside io) xs) else option_or inside (option_or (item_fault features true x.conditions) (checked features b io xs))) ≡ None
          → inside ≡ None
      by rest true h = first_none features inside io (rest (second_none features (item_fault features false x.conditions) (checked features b (option_or inside io) xs) h))
      by rest false h = first_none features inside (option_or (item_fault features true x.conditions) (checked features b io xs)) h

  clean : (chain : Chain) (inside : Option CondCompError) (xs : List Seen) → checked features chain inside xs ≡ None → Clean chain xs
  clean chain inside [] h = tt
  clean chain inside (x ∷ xs) h = by (λ i. clean b i xs) (goes_on chain x.conditions) h
    where
      b : Chain
      b = behind features chain x.conditions

      io : Option CondCompError
      io = inside_of (standing_in features chain x.conditions) x

      by : ((i : Option CondCompError) → checked features b i xs ≡ None → Clean b xs) → (go : Bool)
          → (if go then option_or (item_fault features false x.conditions) (checked features b (option_or inside io) xs) else option_or inside (option_or (item_fault features true x.conditions) (checked features b io xs))) ≡ None
          → (item_fault features (not go) x.conditions ≡ None) × (io ≡ None) × Clean b xs
      by rest true h =
          let later = second_none features (item_fault features false x.conditions) (checked features b (option_or inside io) xs) h in (
            first_none features (item_fault features false x.conditions) (checked features b (option_or inside io) xs) h,
            second_none features inside io (inside_none b (option_or inside io) xs later),
            rest (option_or inside io) later,
          )
      by rest false h =
          let here = second_none features inside (option_or (item_fault features true x.conditions) (checked features b io xs)) h in
          let later = second_none features (item_fault features true x.conditions) (checked features b io xs) here in
          (first_none features (item_fault features true x.conditions) (checked features b io xs) here, inside_none b io xs later, rest io later)

  faultless : (chain : Chain) (xs : List Seen) → Clean chain xs → checked features chain None xs ≡ None
  faultless chain [] h = refl
  faultless chain (x ∷ xs) h = by (goes_on chain x.conditions) h.0 ∙ faultless b xs h.2
    where
      b : Chain
      b = behind features chain x.conditions

      io : Option CondCompError
      io = inside_of (standing_in features chain x.conditions) x

      by : (go : Bool) → item_fault features (not go) x.conditions ≡ None
          → (if go then option_or (item_fault features false x.conditions) (checked features b (option_or None io) xs) else option_or None (option_or (item_fault features true x.conditions) (checked features b io xs)))
          ≡ checked features b None xs
      by true e = λ i. option_or (e i) (checked features b (h.1 i) xs)
      by false e = λ i. option_or (e i) (checked features b (h.1 i) xs)

  module _ {T : Type 0} (has : HasAttributes T) (law : IsLawful has) (inner : T → Option CondCompError)
      (within : (new : List Attr) (x : T) → inner (has.with_attributes new x) ≡ inner x) where
    abbrev pub see : T → Seen
    see x = record { conditions = marks_of has x; inside = inner x }

    -- the same items, with no error inside where there was none
    abbrev pub Improves : List T → List T → Type 0
    Improves [] [] = Unit
    Improves (x ∷ xs) (y ∷ ys) = (has.attributes y ≡ has.attributes x) × (inner x ≡ None → inner y ≡ None) × Improves xs ys
    Improves _ _ = ⊥

    abbrev S : Chain → List T → List T
    S chain xs = settled features has chain xs

    abbrev stands : Bool → Standing → Standing
    stands d s = if d then goes else s

    abbrev Cleans : Chain → List T → Type 0
    Cleans chain xs = Clean chain (map see xs)

    abbrev clean_at : Bool → Chain → List Mark → Standing → T → List T → Type 0
    clean_at go c ms s y r =
        (item_fault features (not go) ms ≡ None) × (inside_of (stands c.is_decided s) (see y) ≡ None)
        × Cleans (behind_standing (opens ms) c (stands c.is_decided s)) r

    abbrev waits_on : Chain
    waits_on = record { is_open = true; is_waiting = true; is_decided = false }

    -- an item in a chain that waits
    in_waiting : (after : Chain) → Follows after false true → (y : T) (ms : List Mark) (s : Standing) → marks_of has y ≡ ms → continues ms ≡ true
        → standing features ms ≡ s → (r : List T) → clean_at true waits_on ms s y r → Cleans after (y ∷ r)
    in_waiting after fit y ms s same continuing stand r h =
        subst (λ ns. clean_at (goes_on after ns) (chain_at after ns) ns (standing features ns) y r) (sym same)
        (subst (λ k. clean_at (after.is_open && k) (if after.is_open && k then after else start) ms (standing features ms) y r) (sym continuing)
        (subst (λ t. clean_at (after.is_open && true) (if after.is_open && true then after else start) ms t y r) (sym stand)
        (subst (λ (c : Chain). clean_at (c.is_open && true) (if c.is_open && true then c else start) ms s y r) (sym are) h)))
      where
        are : after ≡ waits_on
        are = λ i. record { is_open = fit.0 i; is_waiting = fit.1 i; is_decided = fit.2 i }

    -- an item that begins a chain
    in_new : (after : Chain) (y : T) (ms : List Mark) (s : Standing) → marks_of has y ≡ ms → continues ms ≡ false → standing features ms ≡ s → (r : List T)
        → clean_at false start ms s y r → Cleans after (y ∷ r)
    in_new after y ms s same continuing stand r h =
        subst (λ ns. clean_at (goes_on after ns) (chain_at after ns) ns (standing features ns) y r) (sym same)
        (subst (λ k. clean_at (after.is_open && k) (if after.is_open && k then after else start) ms (standing features ms) y r) (sym continuing)
        (subst (λ t. clean_at (after.is_open && false) (if after.is_open && false then after else start) ms t y r) (sym stand)
        (subst (λ o. clean_at o (if o then after else start) ms s y r) (sym (and_false after.is_open)) h)))

    module _ (x y : T) (xs ys : List T) (attributes : has.attributes y ≡ has.attributes x) (inside : inner x ≡ None → inner y ≡ None)
        (rest : (after chain : Chain) → Follows after chain.is_decided chain.is_waiting → Cleans chain xs → Cleans after (S chain ys)) where
      abbrev ms : List Mark
      ms = marks_of has y

      abbrev at : Bool → Bool → Chain
      at d w = record { is_open = false; is_waiting = w; is_decided = d }

      abbrev later : Bool → Bool → Standing → List T
      later d w s = S (behind_standing (opens ms) (at d w) (stands d s)) ys

      abbrev found : Bool → Bool → Standing → List T
      found d w s = cond (is_left (stands d s)) (has.with_attributes (attributes_with w (stands d s) (has.attributes y)) y ∷ later d w s) (later d w s)

      abbrev next : Bool → Bool → Standing → Chain
      next d w s = behind_standing (opens ms) (at d w) (stands d s)

      item : (go d w : Bool) (after : Chain) (s : Standing) → standing features ms ≡ s → (w ≡ true → continues ms ≡ true) → Follows after d w
          → item_fault features (not go) ms ≡ None → inside_of (stands d s) (see x) ≡ None → Cleans (next d w s) xs → Cleans after (found d w s)
      item go true w after s is continuing fit none held h = rest after (next true w s) tt h
      item go false w after goes is continuing fit none held h = rest after (next false w goes) fit h
      item go false true after stays is continuing fit none held h =
          in_waiting after fit (marked has otherwise y) (all_else ms) stays (marks_marked has law otherwise else_mark refl y) (else_continues ms (continuing refl)) (else_stays features ms) (later false true stays) (
            else_faultless features (not go) ms none,
            within _ y ∙ inside held,
            rest (behind_standing (opens (all_else ms)) waits_on stays) (next false true stays) tt h,
          )
      item go false false after stays is continuing fit none held h =
          in_new after (bare has y) [] stays (marks_bare has law y) refl refl (later false false stays)
          (refl, within _ y ∙ inside held, rest (behind_standing false start stays) (next false false stays) tt h)
      item go false true after (waits e) is continuing fit none held h =
          in_waiting after fit (marked has (else_if e) y) (elif_mark e ∷ []) (waits e)
          (marks_marked has law (else_if e) (elif_mark e) refl y ∙ ap (map (λ n. elif_mark e)) known_open.single) refl (still_waits features ms e known_open) (later false true (waits e)) (
            condition_faultless features (not go) ms e is none,
            within _ y ∙ inside held,
            rest waits_on (next false true (waits e)) (refl, refl, refl) h,
          )
        where
          known_open : IsOpen features ms e
          known_open = waiting features ms e is
      item go false false after (waits e) is continuing fit none held h =
          in_new after (marked has (if_true e) y) (if_mark e ∷ []) (waits e)
          (marks_marked has law (if_true e) (if_mark e) refl y ∙ ap (map (λ n. if_mark e)) known_open.single) refl (still_waits features ms e known_open) (later false false (waits e)) (
            condition_faultless features (not go) ms e is none,
            within _ y ∙ inside held,
            rest waits_on (next false false (waits e)) (refl, refl, refl) h,
          )
        where
          known_open : IsOpen features ms e
          known_open = waiting features ms e is

    kept_clean : (xs ys : List T) → Improves xs ys → (after chain : Chain) → Follows after chain.is_decided chain.is_waiting → Cleans chain xs → Cleans after (S chain ys)
    kept_clean [] [] same after chain fit h = tt
    kept_clean [] (y ∷ ys) same after chain fit h = absurd same
    kept_clean (x ∷ xs) [] same after chain fit h = absurd same
    kept_clean (x ∷ xs) (y ∷ ys) same after chain fit h =
        item x y xs ys same.0 same.1 (kept_clean xs ys same.2) go go_decided go_waiting after (standing features ms) refl
        (λ k. second_and chain.is_open (continues ms) (goes_there features has law go chain k)) (enter features has law after go chain fit)
        moved.0 moved.1 moved.2
      where
        ms : List Mark
        ms = marks_of has y

        go : Bool
        go = goes_on chain ms

        go_decided : Bool
        go_decided = (chain_at chain ms).is_decided

        go_waiting : Bool
        go_waiting = (chain_at chain ms).is_waiting

        moved : (item_fault features (not go) ms ≡ None) × (inside_of (standing_in features chain ms) (see x) ≡ None) × Cleans (behind features chain ms) xs
        moved = subst (λ attrs. (item_fault features (not (goes_on chain (marks attrs))) (marks attrs) ≡ None)
            × (inside_of (standing_in features chain (marks attrs)) (see x) ≡ None) × Cleans (behind features chain (marks attrs)) xs) (sym same.0) h

    pub left_faultless : (xs ys : List T) → Improves xs ys → list_fault features (map see xs) ≡ None → list_fault features (map see (left features has ys)) ≡ None
    left_faultless xs ys same h =
        sym (checked_is_fault features (map see (left features has ys))) ∙ ap (λ zs. checked features start None (map see zs)) (sym (settled_is_left features has ys))
        ∙ faultless start (map see (S start ys)) (kept_clean xs ys same start start tt (clean start None (map see xs) (checked_is_fault features (map see xs) ∙ h)))
