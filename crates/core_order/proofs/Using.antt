-- The checks of a list of values, step by step.
use Rattle.std.proofs.Common.{◌≡◌, ◌⊎◌, inl, inr, ℕ, ◌+◌, ◌-◌, ◌<◌, ◌≤◌, List, [], ◌∷◌, ◌++◌, length, take, get_or, Option, Some, None, Bool, true, false, refl, sym, ap, ◌∙◌, subst, arith, replicate, length-append}
use Rattle.std.specs.Prelude.{slice_index, slice_get, slice_set, is_some}
use Rattle.std.specs.List.{Contains, slice_index_or}
use Rattle.std.proofs.lemmas.Bool.{cases_order}
use Rattle.std.proofs.lemmas.Grind.{get_or_default_zero}
use Rattle.std.proofs.lemmas.List.{take_more, take_all, get_or-take, get_or_append_left, get_or_push, get_or_past, get_or-replicate, get_or-set_same, get_or-set_other, length-take-le, length-replicate}
use Rattle.std.proofs.lemmas.List.Elements.{Contains-append_left, Contains-push, Contains-push_cases}
use Rattle.std.proofs.lemmas.Option.{slice_get_read, slice_get_within, get_or_from_slice_get, none-some}
use Rattle.core_validate.specs.declared.place.Meaning.TheVariants.{Global}
use Rattle.core_validate.specs.declared.place.Place.{Place}
use Rattle.core_validate.specs.declared.place.Row.{Row}
use Rattle.core_validate.specs.Rings.{Leads, Chain, step}
use Rattle.core_validate.specs.Searches.{Targets}
use Rattle.core_validate.proofs.SearchLemmas.{targets_more, targets_last, lead_to, led_from, chain_push}
use Rattle.core_order.specs.Checks.{IsValue, AreNeeded, Uses, Marks, AreUsers, IsUsedBy, AreUsedInTime, AreOrdered, Closes, AreListed, IsWhole, AreBehind, IsChecked}
use Rattle.core_order.proofs.Starting.{values_within, not_value}

-- ---- one more of a list, in a loop

-- what holds below n and at n
pub up_to : (P : ℕ → Type 0) (n : ℕ) → ((k : ℕ) → k < n → P k) → P n → (k : ℕ) → k < n + 1 → P k
up_to P n below here k h = at (cases_order k n)
  where
    at : (k ≡ n) ⊎ ((k < n) ⊎ (n < k)) → P k
    at (inl e) = subst P (sym e) here
    at (inr (inl b)) = below k b
    at (inr (inr b)) = absurd (omega arith)

-- ---- values and functions

module _ (rows : List Row) (x : ℕ) (row : Row) (within : x < length rows) (is : row ≡ get_or rows x row) where
  -- a value's row is no function's
  pub value_row : IsValue rows x → is_some row.parameters ≡ false
  value_row v = at (is_some row.parameters) refl
    where
      at : (b : Bool) → is_some row.parameters ≡ b → is_some row.parameters ≡ false
      at false e = e
      at true e = absurd (not_value rows x row within is e v)

  pub led_here : (j : ℕ) → Leads rows x j → Targets row.places j
  led_here j l = led_from rows x j row (slice_get_read rows (length rows) x row refl within is) l

pub value_position : (rows : List Row) (x : ℕ) → IsValue rows x → x < length rows
value_position rows x v = let w = values_within 0 rows x v in omega (arith, w.1)

-- ---- users

pub marks_none : (user : Option ℕ) (old : List (Option ℕ)) → Marks [] user old old
marks_none user old j u e = inl e

module _ (ps : List Place) (p : Place) (user : Option ℕ) (old mid : List (Option ℕ)) (m : Marks ps user old mid) where
  marks_still : Marks (ps ++ p ∷ []) user old mid
  marks_still j u e = at (m j u e)
    where
      at : (slice_index_or old j None ≡ Some u) ⊎ (Targets ps j × (user ≡ Some u)) → (slice_index_or old j None ≡ Some u) ⊎ (Targets (ps ++ p ∷ []) j × (user ≡ Some u))
      at (inl h) = inl h
      at (inr t) = inr (targets_more ps p j t.0, t.1)

  marks_set : (i : ℕ) → p.meaning ≡ Global i → i < length mid → Marks (ps ++ p ∷ []) user old (slice_set mid i user)
  marks_set i is within j u e = at (cases_order j i)
    where
      away : (j ≡ i → ⊥) → (slice_index_or old j None ≡ Some u) ⊎ (Targets (ps ++ p ∷ []) j × (user ≡ Some u))
      away n = marks_still j u (sym (get_or-set_other mid i j user None n) ∙ e)

      here : j ≡ i → (slice_index_or old j None ≡ Some u) ⊎ (Targets (ps ++ p ∷ []) j × (user ≡ Some u))
      here same =
          inr (
            targets_last ps p j (is ∙ ap Global (sym same)),
            sym (get_or-set_same mid i user None within) ∙ ap (λ k. slice_index_or (slice_set mid i user) k None) (sym same) ∙ e,
          )

      at : (j ≡ i) ⊎ ((j < i) ⊎ (i < j)) → (slice_index_or old j None ≡ Some u) ⊎ (Targets (ps ++ p ∷ []) j × (user ≡ Some u))
      at (inl same) = here same
      at (inr (inl b)) = away (λ same. absurd (omega arith))
      at (inr (inr b)) = away (λ same. absurd (omega arith))

one_more : (ps : List Place) (i : ℕ) (p : Place) → i < length ps → p ≡ get_or ps i p → take (i + 1) ps ≡ take i ps ++ p ∷ []
one_more ps i p within is = take_more ps i p within ∙ ap (λ q. take i ps ++ q ∷ []) (sym is)

module _ (ps : List Place) (i : ℕ) (p : Place) (user : Option ℕ) (old mid : List (Option ℕ)) (within : i < length ps) (is : p ≡ get_or ps i p)
    (m : Marks (take i ps) user old mid) where
  -- nothing is noted at a place
  pub marks_past : Marks (take (i + 1) ps) user old mid
  marks_past = subst (λ qs. Marks qs user old mid) (sym (one_more ps i p within is)) (marks_still (take i ps) p user old mid m)

  pub marks_more : (j : ℕ) → p.meaning ≡ Global j → j < length mid → Marks (take (i + 1) ps) user old (slice_set mid j user)
  marks_more j e below =
      subst (λ qs. Marks qs user old (slice_set mid j user)) (sym (one_more ps i p within is)) (marks_set (take i ps) p user old mid m j e below)

pub marks_whole : (ps : List Place) (n : ℕ) (user : Option ℕ) (old new : List (Option ℕ)) → length ps ≤ n → Marks (take n ps) user old new → Marks ps user old new
marks_whole ps n user old new past m = subst (λ qs. Marks qs user old new) (take_all n ps past) m

-- at first there are none
no_user : (n x : ℕ) (user : Option ℕ) → user ≡ None → slice_index_or (replicate n user) x user ≡ None
no_user n x user none = at (cases_order x n)
  where
    past : length (replicate n user) ≤ x → slice_index_or (replicate n user) x user ≡ None
    past h = get_or_past (replicate n user) x user h ∙ none

    at : (x ≡ n) ⊎ ((x < n) ⊎ (n < x)) → slice_index_or (replicate n user) x user ≡ None
    at (inl h) = past (omega (arith, h, length-replicate n user))
    at (inr (inl h)) = get_or-replicate n x user user h ∙ none
    at (inr (inr h)) = past (omega (arith, h, length-replicate n user))

pub users_none : (rows : List Row) (order : List ℕ) (n : ℕ) → AreUsers rows order (replicate n None)
users_none rows order n x u e = let none : slice_index_or (replicate n None) x None ≡ None = no_user n x None refl in
    absurd (none-some u (sym none ∙ e))

-- what a declaration mentions is led to by its user
pub users_more : (rows : List Row) (order : List ℕ) (old new : List (Option ℕ)) (x : ℕ) (row : Row) (user : Option ℕ) → slice_get rows x ≡ Some row
    → AreUsers rows order old → ((u : ℕ) → user ≡ Some u → Uses order old x u) → Marks row.places user old new → AreUsers rows order new
users_more rows order old new x row user stands are uses marks y u e = at (marks y u e)
  where
    mentioned : Leads rows x y → Uses order old x u → Chain rows (slice_index order u) y
    mentioned l (inl same) = subst (λ v. Chain rows v y) (sym same) (step l)
    mentioned l (inr h) = chain_push rows (slice_index order u) x y (are x u h) l

    at : (slice_index_or old y None ≡ Some u) ⊎ (Targets row.places y × (user ≡ Some u)) → Chain rows (slice_index order u) y
    at (inl h) = are y u h
    at (inr t) = mentioned (lead_to rows x y row stands t.0) (uses u t.1)

-- ---- used in time

used_later : (users : List (Option ℕ)) (a b x : ℕ) → a ≤ b → IsUsedBy users a x → IsUsedBy users b x
used_later users a b x h u = record { user = u.user; is = u.is; within = omega (arith, u.within) }

pub closes_none : (users : List (Option ℕ)) (last : ℕ) (old : List ℕ) → Closes users last old old
closes_none users last old = record { covers = λ x c. inr c; ordered = λ o. o }

ordered_first : (xs : List ℕ) (n : ℕ) → n ≤ length xs → AreOrdered xs → AreOrdered (take n xs)
ordered_first xs n h o a b less within =
    let e : length (take n xs) ≡ n = length-take-le n xs h in
    omega (arith, get_or-take n xs a 0 (omega (arith, e)), get_or-take n xs b 0 (omega (arith, e)), o a b less (omega (arith, e)))

-- the last one is taken off
pub closes_more : (users : List (Option ℕ)) (last : ℕ) (old mid : List ℕ) (x : ℕ) → Closes users last old mid → slice_get mid (length mid - 1) ≡ Some x
    → IsUsedBy users last x → Closes users last old (take (length mid - 1) mid)
closes_more users last old mid x c is used = record {
  covers = λ y h. covered y (c.covers y h);
  ordered = λ o. ordered_first mid (length mid - 1) (omega arith) (c.ordered o);
}
  where
    within : length mid - 1 < length mid
    within = slice_get_within mid (length mid - 1) x is

    whole : mid ≡ take (length mid - 1) mid ++ x ∷ []
    whole =
        sym (take_all (length mid - 1 + 1) mid (omega arith)) ∙ take_more mid (length mid - 1) 0 within
        ∙ ap (λ v. take (length mid - 1) mid ++ v ∷ []) (get_or_from_slice_get mid (length mid - 1) x 0 is)

    left : (y : ℕ) → Contains (take (length mid - 1) mid) y ⊎ (x ≡ y) → IsUsedBy users last y ⊎ Contains (take (length mid - 1) mid) y
    left y (inl h) = inr h
    left y (inr e) = inl (subst (IsUsedBy users last) e used)

    covered : (y : ℕ) → IsUsedBy users last y ⊎ Contains mid y → IsUsedBy users last y ⊎ Contains (take (length mid - 1) mid) y
    covered y (inl h) = inl h
    covered y (inr h) = left y (Contains-push_cases (take (length mid - 1) mid) x y (subst (λ l. Contains l y) whole h))

module _ (xs : List ℕ) (v : ℕ) (o : AreOrdered xs) (last : (b : ℕ) → b + 1 ≡ length xs → slice_index xs b ≤ v) where
  -- none of them is greater than v
  none_above : (a : ℕ) → a < length xs → slice_index xs a ≤ v
  none_above a h = at (cases_order (a + 1) (length xs))
    where
      at : (a + 1 ≡ length xs) ⊎ ((a + 1 < length xs) ⊎ (length xs < a + 1)) → slice_index xs a ≤ v
      at (inl e) = last a e
      at (inr (inl b)) =
          omega (arith, o a (length xs - 1) (omega arith) (omega arith), last (length xs - 1) (omega arith))
      at (inr (inr b)) = absurd (omega arith)

  pub ordered_push : AreOrdered (xs ++ v ∷ [])
  ordered_push a b less within = at (cases_order b (length xs))
    where
      size : length (xs ++ v ∷ []) ≡ length xs + 1
      size = length-append xs (v ∷ [])

      old : (k : ℕ) → k < length xs → slice_index (xs ++ v ∷ []) k ≡ slice_index xs k
      old k h = get_or_append_left xs (v ∷ []) 0 k h

      at : (b ≡ length xs) ⊎ ((b < length xs) ⊎ (length xs < b)) → slice_index (xs ++ v ∷ []) a ≤ slice_index (xs ++ v ∷ []) b
      at (inl e) = omega (arith, old a (omega (arith, e)), get_or_push xs v 0 b (sym e), none_above a (omega (arith, e)))
      at (inr (inl h)) = omega (arith, old a (omega arith), old b h, o a b less h)
      at (inr (inr h)) = absurd (omega (arith, size))

-- a list up to `at`, whose value there is v
module _ (order : List ℕ) (users : List (Option ℕ)) (at v : ℕ) (is : slice_index order at ≡ v) (old mid : List ℕ) (c : Closes users at old mid)
    (covered : (i : ℕ) → i < at → IsUsedBy users at (slice_index order i) ⊎ Contains old (slice_index order i)) where
  covered_here : (i : ℕ) → i < at → IsUsedBy users at (slice_index order i) ⊎ Contains mid (slice_index order i)
  covered_here i h = by (covered i h)
    where
      by : IsUsedBy users at (slice_index order i) ⊎ Contains old (slice_index order i) → IsUsedBy users at (slice_index order i) ⊎ Contains mid (slice_index order i)
      by (inl u) = inl u
      by (inr t) = c.covers (slice_index order i) t

  pub covered_next : (i : ℕ) → i < at + 1 → IsUsedBy users (at + 1) (slice_index order i) ⊎ Contains (mid ++ v ∷ []) (slice_index order i)
  covered_next = up_to (λ i. IsUsedBy users (at + 1) (slice_index order i) ⊎ Contains (mid ++ v ∷ []) (slice_index order i)) at
      (λ i h. later i (covered_here i h)) (inr (subst (Contains (mid ++ v ∷ [])) (sym is) (Contains-push mid v)))
    where
      later : (i : ℕ) → IsUsedBy users at (slice_index order i) ⊎ Contains mid (slice_index order i)
          → IsUsedBy users (at + 1) (slice_index order i) ⊎ Contains (mid ++ v ∷ []) (slice_index order i)
      later i (inl u) = inl (used_later users at (at + 1) (slice_index order i) (omega arith) u)
      later i (inr t) = inr (Contains-append_left mid (v ∷ []) (slice_index order i) t)

  pub passed_next : AreOrdered mid → ((b : ℕ) → b + 1 ≡ length mid → slice_index mid b ≤ v)
      → ((i j : ℕ) → i < j → j < at → slice_index order j < slice_index order i → IsUsedBy users j (slice_index order i))
      → (i j : ℕ) → i < j → j < at + 1 → slice_index order j < slice_index order i → IsUsedBy users j (slice_index order i)
  passed_next o last passed i j less below = up_to (λ k. i < k → slice_index order k < slice_index order i → IsUsedBy users k (slice_index order i)) at
      (λ k h l. passed i k l h) (λ l g. by l g (covered_here i l)) j below less
    where
      by : i < at → slice_index order at < slice_index order i → IsUsedBy users at (slice_index order i) ⊎ Contains mid (slice_index order i)
          → IsUsedBy users at (slice_index order i)
      by l g (inl u) = u
      by l g (inr t) =
          absurd (omega (arith, none_above mid v o last t.0 t.1, get_or_default_zero mid t.0 (slice_index order i) t.1, t.2, is, g))

-- the users show that what is used in time is needed
pub needed_by_users : (rows : List Row) (order : List ℕ) (users : List (Option ℕ)) → AreUsers rows order users → AreUsedInTime order users → AreNeeded rows order
needed_by_users rows order users are used i j less within falls =
    let u = used i j less within falls in record { user = u.user; within = u.within; leads = are (slice_index order i) u.user u.is }

pub checked_by : (rows : List Row) (order order1 ranks ranks1 : List ℕ) (users users1 : List (Option ℕ)) → order1 ≡ order → ranks1 ≡ ranks → users1 ≡ users
    → AreListed rows order1 ranks1 → IsWhole rows order1 → AreBehind rows ranks1 → AreUsers rows order users → AreUsedInTime order1 users1
    → IsChecked rows order ranks
checked_by rows order order1 ranks ranks1 users users1 o r u listed whole behind are used = record {
  listed = subst (AreListed rows order) r (subst (λ l. AreListed rows l ranks1) o listed);
  whole = subst (IsWhole rows) o whole;
  behind = subst (AreBehind rows) r behind;
  needed = needed_by_users rows order users are (subst (AreUsedInTime order) u (subst (λ l. AreUsedInTime l users1) o used));
}
