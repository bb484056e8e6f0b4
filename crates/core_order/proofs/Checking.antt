-- Why a list that passes the checks is the order of the start.
use Rattle.std.proofs.Common.{◌≡◌, ◌⊎◌, inl, inr, ℕ, zero, suc, ◌+◌, ◌<◌, ◌≤◌, List, [], ◌∷◌, ◌++◌, length, take, Option, Some, None, refl, sym, ap, ◌∙◌, subst, arith}
use Rattle.std.specs.Prelude.{slice_index}
use Rattle.std.specs.List.{Contains}
use Rattle.std.proofs.lemmas.Bool.{cases_order}
use Rattle.std.proofs.lemmas.Grind.{get_or_default_zero}
use Rattle.std.proofs.lemmas.List.{take_more, take_all}
use Rattle.std.proofs.lemmas.List.Elements.{Contains-append_left, Contains-push, Contains-push_cases}
use Rattle.wgsl_base.proofs.Members.{first_in, later_in, in_cases, in_none}
use Rattle.core_validate.specs.declared.place.Row.{Row}
use Rattle.core_validate.specs.Rings.{Chain, step, onward}
use Rattle.core_order.specs.Order.{Progress, beginning, ending, Selects, nothing_left, takes, leaves, none_left, passes, starts, nothing_yet}
use Rattle.core_order.specs.Units.{if_value, values_from, IsStartOf}
use Rattle.core_order.specs.Progressing.{StartsAll}
use Rattle.core_order.specs.Checks.{IsValue, IsNeeded, IsChecked}
use Rattle.core_order.proofs.Deciding.{Decided, chain_append, chain_decided}
use Rattle.core_order.proofs.Starting.{values_within, starts_keeps}

-- each is less than those behind it
abbrev pub Rising : List ℕ → Type 0
Rising [] = ◌≡◌ {A = ℕ} 0 0
Rising (x ∷ xs) = ((z : ℕ) → Contains xs z → x < z) × Rising xs

rising_values : (i : ℕ) (rows : List Row) → Rising (values_from i rows)
rising_values i [] = refl
rising_values i (r ∷ rs) = at r.parameters (rising_values (suc i) rs)
  where
    at : (o : Option ℕ) → Rising (values_from (suc i) rs) → Rising (if_value i o (values_from (suc i) rs))
    at None h = (λ z c. omega (arith, (values_within (suc i) rs z c).0), h)
    at (Some n) h = h

module _ (rows : List Row) (order ranks : List ℕ) (checked : IsChecked rows order ranks) where
  abbrev at : ℕ → ℕ
  at k = slice_index order k

  abbrev all : List ℕ
  all = values_from 0 rows

  -- y is one of the first i of the order
  abbrev Before : ℕ → ℕ → Type 0
  Before i y = (k : ℕ) × (k < i) × (slice_index order k ≡ y)

  -- ---- places and ranks

  one_place : (a b : ℕ) → a < length order → b < length order → at a ≡ at b → a ≡ b
  one_place a b h g e =
      omega (arith, checked.listed.ranked a h, ap (slice_index ranks) e, checked.listed.ranked b g)

  chain_ranks : (i j : ℕ) → Chain rows i j → slice_index ranks j ≤ slice_index ranks i
  chain_ranks i j (step l) = checked.behind.any i j l
  chain_ranks i j (onward {j = k} l c) = omega (arith, checked.behind.any i k l, chain_ranks k j c)

  value_ranks : (i j : ℕ) → IsValue rows i → Chain rows i j → slice_index ranks j < slice_index ranks i
  value_ranks i j v (step l) = checked.behind.value i j l v
  value_ranks i j v (onward {j = k} l c) = omega (arith, checked.behind.value i k l v, chain_ranks k j c)

  -- what the value at a reaches stands before it
  places_fall : (a b : ℕ) → a < length order → b < length order → Chain rows (at a) (at b) → b < a
  places_fall a b h g c =
      omega (arith, value_ranks (at a) (at b) (checked.listed.values a h) c, checked.listed.ranked a h, checked.listed.ranked b g)

  place_of : (y : ℕ) → IsValue rows y → Before (length order) y
  place_of y v = let c = checked.whole y v in (c.0, c.1, sym (get_or_default_zero order c.0 y c.1) ∙ c.2)

  -- ---- one value

  -- Where y is the least of the values from i up to its own place, it reaches all those before it: each is needed by one behind it.
  module _ (i place y : ℕ) (within : place < length order) (is : at place ≡ y) (least : (m : ℕ) → i ≤ m → m < place → y < at m) where
    needed_by : (m : ℕ) → i ≤ m → m < place → IsNeeded rows order place (at m)
        → ((u : ℕ) → m < u → u < place → Chain rows y (at u)) → Chain rows y (at m)
    needed_by m near below n more = by (cases_order n.user place)
      where
        by : (n.user ≡ place) ⊎ ((n.user < place) ⊎ (place < n.user)) → Chain rows y (at m)
        by (inl e) = subst (λ v. Chain rows v (at m)) (ap at e ∙ is) n.leads
        by (inr (inl b)) = chain_append rows y (at n.user) (at m) (more n.user (places_fall n.user m (omega arith) (omega arith) n.leads) b) n.leads
        by (inr (inr b)) = absurd (omega (arith, n.within))

    reaches_between : (d m : ℕ) → place ≤ m + d → i ≤ m → m < place → Chain rows y (at m)
    reaches_between zero m near from below = absurd (omega arith)
    reaches_between (suc d) m near from below =
        needed_by m from below (checked.needed m place below within (omega (arith, least m from below, is)))
        (λ u after b. reaches_between d u (omega arith) (omega arith) b)

  -- ---- the values of which P holds, in turn

  -- The first i values of the order are started, and those of which W holds wait. Those of which P holds stand before `bound`,
  -- and from i on no other does. Of them only `rest` may be left.
  record Stage (P W : ℕ → Type 0) (bound i : ℕ) (rest : List ℕ) (p : Progress ℕ) : Type 0 where
    pub decided : (y : ℕ) → Decided (P y)
    pub bounded : bound ≤ length order
    pub near : i ≤ bound
    pub before : (y : ℕ) → IsValue rows y → P y → Before bound y
    pub between : (k : ℕ) → i ≤ k → k < bound → P (at k)
    pub waits : (k : ℕ) → k < bound → W (at k) → ⊥
    pub left : (y : ℕ) → IsValue rows y → P y → Before i y ⊎ Contains rest y
    pub values : (y : ℕ) → Contains rest y → IsValue rows y
    pub rising : Rising rest
    pub started : p.started ≡ take i order
    pub begun : (y : ℕ) → Contains p.begun y → Before i y ⊎ W y
    pub kept : (k : ℕ) → k < i → Contains p.begun (at k)

  -- they were started, and all before `bound` is
  record Walked (P W : ℕ → Type 0) (bound : ℕ) (rest : List ℕ) (p : Progress ℕ) : Type 0 where
    pub chosen : List ℕ
    pub selects : Selects P rest chosen
    pub last : Progress ℕ
    pub comes : StartsAll rows p chosen last
    pub started : last.started ≡ take bound order
    pub begun : (y : ℕ) → Contains last.begun y → Before bound y ⊎ W y
    pub kept : (k : ℕ) → k < bound → Contains last.begun (at k)

  abbrev Walks : ℕ → List ℕ → Type 1
  Walks fuel rest =
      (P W : ℕ → Type 0) (bound i : ℕ) (p : Progress ℕ) → bound ≤ fuel → Stage P W bound i rest p → Walked P W bound rest p

  walk_ends : (fuel : ℕ) → Walks fuel []
  walk_ends fuel P W bound i p enough s = record {
    chosen = [];
    selects = nothing_left;
    last = p;
    comes = none_left;
    started = s.started ∙ ap (λ k. take k order) ended;
    begun = λ y c. subst (λ k. Before k y ⊎ W y) ended (s.begun y c);
    kept = λ k below. s.kept k (omega (arith, below, ended));
  }
    where
      none : i < bound → Before i (at i) ⊎ Contains [] (at i) → ⊥
      none h (inl b) = let e : b.0 ≡ i = one_place b.0 i (omega (arith, b.1, s.bounded)) (omega (arith, s.bounded)) b.2 in omega (arith, b.1, e)
      none h (inr c) = in_none (at i) c

      by : (i ≡ bound) ⊎ ((i < bound) ⊎ (bound < i)) → i ≡ bound
      by (inl e) = e
      by (inr (inl h)) = absurd (none h (s.left (at i) (checked.listed.values i (omega (arith, s.bounded))) (s.between i (omega arith) h)))
      by (inr (inr h)) = absurd (omega (arith, s.near))

      ended : i ≡ bound
      ended = by (cases_order i bound)

  -- ---- one more value

  module _ (P W : ℕ → Type 0) (bound i : ℕ) (y : ℕ) (rest : List ℕ) (p : Progress ℕ) (s : Stage P W bound i (y ∷ rest) p) where
    -- P doesn't hold of it
    stage_away : (P y → ⊥) → Stage P W bound i rest p
    stage_away away = record {
      decided = s.decided;
      bounded = s.bounded;
      near = s.near;
      before = s.before;
      between = s.between;
      waits = s.waits;
      left = λ z v h. left z h (s.left z v h);
      values = λ z c. s.values z (later_in z y rest c);
      rising = s.rising.1;
      started = s.started;
      begun = s.begun;
      kept = s.kept;
    }
      where
        there : (z : ℕ) → P z → (y ≡ z) ⊎ Contains rest z → Contains rest z
        there z h (inl e) = absurd (away (subst P (sym e) h))
        there z h (inr c) = c

        left : (z : ℕ) → P z → Before i z ⊎ Contains (y ∷ rest) z → Before i z ⊎ Contains rest z
        left z h (inl b) = inl b
        left z h (inr c) = inr (there z h (in_cases y rest z c))

    -- it is started
    stage_past : Before i y → Stage P W bound i rest p
    stage_past past = record {
      decided = s.decided;
      bounded = s.bounded;
      near = s.near;
      before = s.before;
      between = s.between;
      waits = s.waits;
      left = λ z v h. left z (s.left z v h);
      values = λ z c. s.values z (later_in z y rest c);
      rising = s.rising.1;
      started = s.started;
      begun = s.begun;
      kept = s.kept;
    }
      where
        there : (z : ℕ) → (y ≡ z) ⊎ Contains rest z → Before i z ⊎ Contains rest z
        there z (inl e) = inl (subst (Before i) e past)
        there z (inr c) = inr c

        left : (z : ℕ) → Before i z ⊎ Contains (y ∷ rest) z → Before i z ⊎ Contains rest z
        left z (inl b) = inl b
        left z (inr c) = there z (in_cases y rest z c)

    module _ (k : ℕ) (below : k < bound) (is : at k ≡ y) (from : i ≤ k) where
      same_place : (m : ℕ) → m < bound → at m ≡ y → m ≡ k
      same_place m h e = one_place m k (omega (arith, s.bounded)) (omega (arith, s.bounded)) (e ∙ sym is)

      least : (m : ℕ) → i ≤ m → m < k → y < at m
      least m near h = by (s.left (at m) (checked.listed.values m (omega (arith, s.bounded))) (s.between m near (omega arith)))
        where
          there : (y ≡ at m) ⊎ Contains rest (at m) → y < at m
          there (inl e) = let same : m ≡ k = same_place m (omega arith) (sym e) in absurd (omega arith)
          there (inr c) = s.rising.0 (at m) c

          by : Before i (at m) ⊎ Contains (y ∷ rest) (at m) → y < at m
          by (inl b) =
              let e : b.0 ≡ m = one_place b.0 m (omega (arith, b.1, s.near, s.bounded)) (omega (arith, s.bounded)) b.2 in absurd (omega (arith, b.1, e))
          by (inr c) = there (in_cases y rest (at m) c)

      fresh : Contains p.begun y → ⊥
      fresh c = by (s.begun y c)
        where
          by : Before i y ⊎ W y → ⊥
          by (inl b) = let e : b.0 ≡ k = same_place b.0 (omega (arith, b.1, s.near)) b.2 in omega (arith, b.1, e)
          by (inr w) = s.waits k below (subst W (sym is) w)

      -- it begins
      stage_inner : Stage (Chain rows y) (λ z. W z ⊎ (y ≡ z)) k i all (beginning y p)
      stage_inner = record {
        decided = chain_decided rows y;
        bounded = omega (arith, s.bounded);
        near = from;
        before = before;
        between = λ m near h. reaches_between i k y (omega (arith, s.bounded)) is least k m (omega arith) near h;
        waits = waits;
        left = λ z v c. inr v;
        values = λ z c. c;
        rising = rising_values 0 rows;
        started = s.started;
        begun = λ z c. begun z (Contains-push_cases p.begun y z c);
        kept = λ m h. Contains-append_left p.begun (y ∷ []) (at m) (s.kept m h);
      }
        where
          before : (z : ℕ) → IsValue rows z → Chain rows y z → Before k z
          before z v c =
              let b = place_of z v in
              (b.0, places_fall k b.0 (omega (arith, s.bounded)) b.1 (subst (Chain rows (at k)) (sym b.2) (subst (λ u. Chain rows u z) (sym is) c)), b.2)

          waits : (m : ℕ) → m < k → W (at m) ⊎ (y ≡ at m) → ⊥
          waits m h (inl w) = s.waits m (omega arith) w
          waits m h (inr e) = let same : m ≡ k = same_place m (omega arith) (sym e) in omega arith

          begun : (z : ℕ) → Contains p.begun z ⊎ (y ≡ z) → Before i z ⊎ (W z ⊎ (y ≡ z))
          begun z (inl c) = by (s.begun z c)
            where
              by : Before i z ⊎ W z → Before i z ⊎ (W z ⊎ (y ≡ z))
              by (inl b) = inl b
              by (inr w) = inr (inl w)
          begun z (inr e) = inr (inr e)

      -- it ends
      stage_next : (w : Walked (Chain rows y) (λ z. W z ⊎ (y ≡ z)) k all (beginning y p)) → Stage P W bound (k + 1) rest (ending y w.last)
      stage_next w = record {
        decided = s.decided;
        bounded = s.bounded;
        near = omega arith;
        before = s.before;
        between = λ m near h. s.between m (omega arith) h;
        waits = s.waits;
        left = λ z v h. left z (s.left z v h);
        values = λ z c. s.values z (later_in z y rest c);
        rising = s.rising.1;
        started = ap (λ l. l ++ y ∷ []) w.started ∙ ap (λ x. take k order ++ x ∷ []) (sym is) ∙ sym (take_more order k 0 (omega (arith, s.bounded)));
        begun = λ z c. begun z (w.begun z c);
        kept = λ m h. kept m (cases_order m k) h;
      }
        where
          there : (z : ℕ) → (y ≡ z) ⊎ Contains rest z → Before (k + 1) z ⊎ Contains rest z
          there z (inl e) = inl (k, omega arith, is ∙ e)
          there z (inr c) = inr c

          left : (z : ℕ) → Before i z ⊎ Contains (y ∷ rest) z → Before (k + 1) z ⊎ Contains rest z
          left z (inl b) = inl (b.0, omega (arith, b.1), b.2)
          left z (inr c) = there z (in_cases y rest z c)

          begun : (z : ℕ) → Before k z ⊎ (W z ⊎ (y ≡ z)) → Before (k + 1) z ⊎ W z
          begun z (inl b) = inl (b.0, omega (arith, b.1), b.2)
          begun z (inr (inl v)) = inr v
          begun z (inr (inr e)) = inl (k, omega arith, is ∙ e)

          here : (m : ℕ) → m ≡ k → Contains w.last.begun (at m)
          here m e =
              subst (Contains w.last.begun) (sym (ap at e ∙ is))
              (starts_keeps (Chain rows) all (beginning y p) w.last w.chosen w.comes y (Contains-push p.begun y))

          kept : (m : ℕ) → (m ≡ k) ⊎ ((m < k) ⊎ (k < m)) → m < k + 1 → Contains w.last.begun (at m)
          kept m (inl e) h = here m e
          kept m (inr (inl b)) h = w.kept m b
          kept m (inr (inr b)) h = absurd (omega arith)

      walked_next : (w : Walked (Chain rows y) (λ z. W z ⊎ (y ≡ z)) k all (beginning y p)) → P y → Walked P W bound rest (ending y w.last)
          → Walked P W bound (y ∷ rest) p
      walked_next w h r = record {
        chosen = y ∷ r.chosen;
        selects = takes h r.selects;
        last = r.last;
        comes = starts w.chosen fresh w.selects w.comes r.comes;
        started = r.started;
        begun = r.begun;
        kept = r.kept;
      }

  abbrev Inner : ℕ → Type 1
  Inner fuel = (P W : ℕ → Type 0) (bound i : ℕ) (p : Progress ℕ) → bound < fuel → Stage P W bound i all p → Walked P W bound all p

  walk_more : (fuel : ℕ) (y : ℕ) (rest : List ℕ) → Inner fuel → Walks fuel rest → Walks fuel (y ∷ rest)
  walk_more fuel y rest inner more P W bound i p enough s = by (s.decided y)
    where
      away : (P y → ⊥) → Walked P W bound (y ∷ rest) p
      away n =
          let r = more P W bound i p enough (stage_away P W bound i y rest p s n) in
          record { chosen = r.chosen; selects = leaves n r.selects; last = r.last; comes = r.comes; started = r.started; begun = r.begun; kept = r.kept }

      past : P y → Before i y → Walked P W bound (y ∷ rest) p
      past h b =
          let r = more P W bound i p enough (stage_past P W bound i y rest p s b) in
          record {
            chosen = y ∷ r.chosen;
            selects = takes h r.selects;
            last = r.last;
            comes = passes (subst (Contains p.begun) b.2 (s.kept b.0 b.1)) r.comes;
            started = r.started;
            begun = r.begun;
            kept = r.kept;
          }

      next : P y → (k : ℕ) → k < bound → at k ≡ y → i ≤ k → Walked P W bound (y ∷ rest) p
      next h k below is from =
          let w = inner (Chain rows y) (λ z. W z ⊎ (y ≡ z)) k i (beginning y p) (omega arith) (stage_inner P W bound i y rest p s k below is from) in
          walked_next P W bound i y rest p s k below is from w h
          (more P W bound (k + 1) (ending y w.last) enough (stage_next P W bound i y rest p s k below is from w))

      at_place : P y → (b : Before bound y) → (b.0 ≡ i) ⊎ ((b.0 < i) ⊎ (i < b.0)) → Walked P W bound (y ∷ rest) p
      at_place h b (inl e) = next h b.0 b.1 b.2 (omega (arith, e))
      at_place h b (inr (inl l)) = past h (b.0, l, b.2)
      at_place h b (inr (inr g)) = next h b.0 b.1 b.2 (omega (arith, g))

      by : Decided (P y) → Walked P W bound (y ∷ rest) p
      by (inl h) = let b = s.before y (s.values y (first_in y rest)) h in at_place h b (cases_order b.0 i)
      by (inr n) = away n

  walk : (fuel : ℕ) (rest : List ℕ) → Walks fuel rest
  walk fuel [] = walk_ends fuel
  walk zero (y ∷ rest) = walk_more zero y rest (λ P W bound i p below s. absurd (omega (arith, below))) (walk zero rest)
  walk (suc fuel) (y ∷ rest) = walk_more (suc fuel) y rest (λ P W bound i p below s. walk fuel all P W bound i p (omega (arith, below)) s) (walk (suc fuel) rest)

  -- ---- all values

  selects_all : (xs ys : List ℕ) → Selects (λ (z : ℕ). ◌≡◌ {A = ℕ} z z) xs ys → ys ≡ xs
  selects_all xs ys nothing_left = refl
  selects_all xs ys (takes {x = x} {xs = more} {ys = some} h s) = ap (λ l. x ∷ l) (selects_all more some s)
  selects_all xs ys (leaves n s) = absurd (n refl)

  stage_first : Stage (λ z. z ≡ z) (λ z. ⊥) (length order) 0 all (nothing_yet (Chain rows) all)
  stage_first = record {
    decided = λ z. inl refl;
    bounded = omega arith;
    near = omega arith;
    before = λ z v h. place_of z v;
    between = λ k near h. refl;
    waits = λ k h w. w;
    left = λ z v h. inr v;
    values = λ z c. c;
    rising = rising_values 0 rows;
    started = refl;
    begun = λ z c. absurd (in_none z c);
    kept = λ k h. absurd (omega (arith, h));
  }

  pub checked_order : IsStartOf rows order
  checked_order =
      let w = walk (length order) all (λ z. z ≡ z) (λ z. ⊥) (length order) 0 (nothing_yet (Chain rows) all) (omega arith) stage_first in
      record {
        progress = w.last;
        comes = subst (λ l. StartsAll rows (nothing_yet (Chain rows) all) l w.last) (selects_all all w.chosen w.selects) w.comes;
        whole = w.started ∙ take_all (length order) order (omega arith);
      }
