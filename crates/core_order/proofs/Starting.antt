-- The start of values, and why it ends.
use Rattle.std.proofs.Common.{◌≡◌, ◌⊎◌, inl, inr, ℕ, zero, suc, ◌+◌, ◌<◌, ◌≤◌, List, [], ◌∷◌, ◌++◌, length, take, drop, get_or, Option, Some, None, Bool, true, false, refl, sym, ap, ◌∙◌, subst, arith}
use Rattle.std.specs.Prelude.{is_some, slice_set, slice_index_or}
use Rattle.std.specs.List.{Contains}
use Rattle.std.proofs.lemmas.Bool.{cases_order}
use Rattle.std.proofs.lemmas.List.{append-nil, take_more, take_all, take-append-drop, get_or_default, length-take-le, get_or-set_same, get_or-set_other, length-set}
use Rattle.std.proofs.lemmas.Option.{slice_get_read}
use Rattle.std.proofs.lemmas.List.Elements.{Contains-append_left, Contains-push, Contains-push_cases, Contains-append_cases}
use Rattle.core_validate.specs.declared.place.Row.{Row}
use Rattle.wgsl_base.proofs.Members.{first_in, later_in, in_cases, in_none}
use Rattle.core_validate.specs.Rings.{Chain, step, onward}
use Rattle.core_validate.specs.Searches.{Targets}
use Rattle.core_validate.proofs.SearchLemmas.{led_from}
use Rattle.core_order.specs.declared.start.State.{State}
use Rattle.core_order.specs.Order.{Progress, beginning, ending, Selects, nothing_left, takes, leaves, Starts, none_left, passes, starts}
use Rattle.core_order.specs.Units.{if_value, values_from, IsStartOf}
use Rattle.core_order.specs.Searches.{IsOn, IsMarked, IsPast, Reaches}
use Rattle.core_order.specs.Progressing.{view, none_begun, Begins, SettlesFunction, Ends, Keeps, StartsAll, StartsOne, StartsReached}
use Rattle.core_order.proofs.Deciding.{Decided, chain_append, chain_decided}

-- ---- the values among the first declarations

if_value-append : (i : ℕ) (o : Option ℕ) (xs ys : List ℕ) → if_value i o (xs ++ ys) ≡ if_value i o xs ++ ys
if_value-append i None xs ys = refl
if_value-append i (Some n) xs ys = refl

values_from-append : (i : ℕ) (xs ys : List Row) → values_from i (xs ++ ys) ≡ values_from i xs ++ values_from (i + length xs) ys
values_from-append i [] ys = ap (λ n. values_from n ys) (omega arith)
values_from-append i (r ∷ rs) ys =
    ap (if_value i r.parameters) (values_from-append (suc i) rs ys ∙ ap (λ n. values_from (suc i) rs ++ values_from n ys) (omega arith))
    ∙ if_value-append i r.parameters (values_from (suc i) rs) (values_from (i + length (r ∷ rs)) ys)

-- the positions of the first of some rows, and so on, are these
pub values_within : (i : ℕ) (rs : List Row) (y : ℕ) → Contains (values_from i rs) y → (i ≤ y) × (y < i + length rs)
values_within i [] y c = absurd (in_none y c)
values_within i (r ∷ rs) y c = at (case r.parameters c) (values_within (suc i) rs y)
  where
    case : (o : Option ℕ) → Contains (if_value i o (values_from (suc i) rs)) y → (i ≡ y) ⊎ Contains (values_from (suc i) rs) y
    case None h = in_cases i (values_from (suc i) rs) y h
    case (Some n) h = inr h

    at : (i ≡ y) ⊎ Contains (values_from (suc i) rs) y → (Contains (values_from (suc i) rs) y → (suc i ≤ y) × (y < suc i + length rs)) → (i ≤ y) × (y < i + length (r ∷ rs))
    at (inl e) more = (omega arith, omega arith)
    at (inr h) more = let m = more h in (omega (arith, m.0), omega (arith, m.1))

values_more : (rows : List Row) (i : ℕ) (row : Row) → i < length rows → row ≡ get_or rows i row
    → values_from 0 (take (i + 1) rows) ≡ values_from 0 (take i rows) ++ if_value i row.parameters []
values_more rows i row within is =
    ap (values_from 0) (take_more rows i row within ∙ ap (λ r. take i rows ++ r ∷ []) (sym is))
    ∙ values_from-append 0 (take i rows) (row ∷ [])
    ∙ ap (λ n. values_from 0 (take i rows) ++ if_value n row.parameters []) (let e : length (take i rows) ≡ i = length-take-le i rows (omega arith) in omega arith)

value_none : (i : ℕ) (o : Option ℕ) → is_some o ≡ true → if_value i o [] ≡ []
value_none i (Some n) h = refl
value_none i None h = absurd (cc)

value_one : (i : ℕ) (o : Option ℕ) → is_some o ≡ false → if_value i o [] ≡ i ∷ []
value_one i None h = refl
value_one i (Some n) h = absurd (cc)

module _ (rows : List Row) (i : ℕ) (row : Row) (within : i < length rows) (is : row ≡ get_or rows i row) where
  pub function_next : is_some row.parameters ≡ true → values_from 0 (take (i + 1) rows) ≡ values_from 0 (take i rows)
  function_next h = values_more rows i row within is ∙ ap (λ l. values_from 0 (take i rows) ++ l) (value_none i row.parameters h) ∙ append-nil (values_from 0 (take i rows))

  pub value_next : is_some row.parameters ≡ false → values_from 0 (take (i + 1) rows) ≡ values_from 0 (take i rows) ++ i ∷ []
  value_next h = values_more rows i row within is ∙ ap (λ l. values_from 0 (take i rows) ++ l) (value_one i row.parameters h)

  pub value_in : is_some row.parameters ≡ false → Contains (values_from 0 rows) i
  value_in h =
      subst (λ l. Contains (values_from 0 l) i) (take-append-drop (i + 1) rows)
      (subst (λ l. Contains l i) (sym (values_from-append 0 (take (i + 1) rows) (drop (i + 1) rows)))
      (Contains-append_left (values_from 0 (take (i + 1) rows)) (values_from (0 + length (take (i + 1) rows)) (drop (i + 1) rows)) i
      (subst (λ l. Contains l i) (sym (value_next h)) (Contains-push (values_from 0 (take i rows)) i))))

  pub not_value : is_some row.parameters ≡ true → Contains (values_from 0 rows) i → ⊥
  not_value h c =
      at (Contains-append_cases (values_from 0 (take (i + 1) rows)) (values_from (0 + length (take (i + 1) rows)) (drop (i + 1) rows)) i
      (subst (λ l. Contains l i) (values_from-append 0 (take (i + 1) rows) (drop (i + 1) rows))
      (subst (λ l. Contains (values_from 0 l) i) (sym (take-append-drop (i + 1) rows)) c)))
    where
      at : Contains (values_from 0 (take (i + 1) rows)) i ⊎ Contains (values_from (0 + length (take (i + 1) rows)) (drop (i + 1) rows)) i → ⊥
      at (inl c) =
          let w = values_within 0 (take i rows) i (subst (λ l. Contains l i) (function_next h) c) in
          let e : length (take i rows) ≡ i = length-take-le i rows (omega arith) in absurd (omega (arith, w.1))
      at (inr c) =
          let w = values_within (0 + length (take (i + 1) rows)) (drop (i + 1) rows) i c in
          let e : length (take (i + 1) rows) ≡ i + 1 = length-take-le (i + 1) rows (omega arith) in absurd (omega (arith, w.0))

-- ---- lists of values, one after another

selects_append : {A : Type 0} (P : A → Type 0) (xs ys a b : List A) → Selects P xs a → Selects P ys b → Selects P (xs ++ ys) (a ++ b)
selects_append P xs ys a b nothing_left t = t
selects_append P xs ys a b (takes {xs = more} {ys = some} p s) t = takes p (selects_append P more ys some b s t)
selects_append P xs ys a b (leaves {xs = more} {ys = some} p s) t = leaves p (selects_append P more ys some b s t)

module _ {A : Type 0} (Reaches : A → A → Type 0) (all : List A) where
  pub starts_append : (p q r : Progress A) (xs ys : List A) → Starts Reaches all p xs q → Starts Reaches all q ys r → Starts Reaches all p (xs ++ ys) r
  starts_append p q r xs ys none_left t = t
  starts_append p q r xs ys (passes {p = p0} {q = q0} {xs = more} c s) t = passes c (starts_append p0 q0 r more ys s t)
  starts_append p q r xs ys (starts {q = q0} {r = r0} {x = x} {xs = more} reached fresh chosen inner s) t =
      starts reached fresh chosen inner (starts_append (ending x q0) r0 r more ys s t)

  -- what has begun stays so
  pub starts_keeps : (p q : Progress A) (xs : List A) → Starts Reaches all p xs q → (y : A) → Contains p.begun y → Contains q.begun y
  starts_keeps p q xs none_left y h = h
  starts_keeps p q xs (passes {p = p0} {q = q0} {xs = more} c s) y h = starts_keeps p0 q0 more s y h
  starts_keeps p q xs (starts {p = p0} {q = q0} {r = r0} {x = x} {xs = more} reached fresh chosen inner s) y h =
      starts_keeps (ending x q0) r0 more s y (starts_keeps (beginning x p0) q0 reached inner y (Contains-append_left p0.begun (x ∷ []) y h))

-- ---- marks

pub off_on : (marks : List Bool) (j : ℕ) → slice_index_or marks j false ≡ false → IsOn marks j → ⊥
off_on marks j off on = let e : false ≡ true = sym off ∙ on in cc

pub fresh_from : (rows : List Row) (state : State) (x : ℕ) → Keeps rows state → slice_index_or state.marks.items x false ≡ false → Contains state.begun.items x → ⊥
fresh_from rows state x k off c = off_on state.marks.items x off (k.marked.marked x c)

pub keeps_begin : (rows : List Row) (old new : State) (x : ℕ) → Keeps rows old → x < length rows → Begins x old new → Keeps rows new
keeps_begin rows old new x k within b = record {
  sized = ap length marks ∙ length-set old.marks.items x true ∙ k.sized;
  settled_sized = ap length b.settled ∙ k.settled_sized;
  settled = λ j p v. subst (λ l. Contains l j) (sym begun) (Contains-append_left old.begun.items (x ∷ []) j (k.settled j (subst (λ l. IsPast rows l j) b.settled p) v));
  marked = record {
    listed = λ j on. subst (λ l. Contains l j) (sym begun) (listed j (cases_order j x) (subst (λ m. IsOn m j) marks on));
    marked = λ j c. subst (λ m. IsOn m j) (sym marks) (marked j (cases_order j x) (Contains-push_cases old.begun.items x j (subst (λ l. Contains l j) begun c)));
  };
}
  where
    begun : new.begun.items ≡ old.begun.items ++ x ∷ []
    begun = ap (λ p. p.begun) b.progress

    marks : new.marks.items ≡ slice_set old.marks.items x true
    marks = b.marks

    inside : x < length old.marks.items
    inside = omega (arith, k.sized)

    other : (j : ℕ) → (j ≡ x → ⊥) → slice_index_or (slice_set old.marks.items x true) j false ≡ slice_index_or old.marks.items j false
    other j away = get_or-set_other old.marks.items x j true false away

    kept : (j : ℕ) → (j ≡ x → ⊥) → IsOn (slice_set old.marks.items x true) j → Contains (old.begun.items ++ x ∷ []) j
    kept j away on = Contains-append_left old.begun.items (x ∷ []) j (k.marked.listed j (sym (other j away) ∙ on))

    listed : (j : ℕ) → (j ≡ x) ⊎ ((j < x) ⊎ (x < j)) → IsOn (slice_set old.marks.items x true) j → Contains (old.begun.items ++ x ∷ []) j
    listed j (inl e) on = subst (λ n. Contains (old.begun.items ++ x ∷ []) n) (sym e) (Contains-push old.begun.items x)
    listed j (inr (inl b)) on = kept j (λ e. absurd (omega arith)) on
    listed j (inr (inr b)) on = kept j (λ e. absurd (omega arith)) on

    there : (j : ℕ) → j ≡ x → IsOn (slice_set old.marks.items x true) j
    there j e = subst (λ n. IsOn (slice_set old.marks.items x true) n) (sym e) (get_or-set_same old.marks.items x true false inside)

    still : (j : ℕ) → (j ≡ x → ⊥) → Contains old.begun.items j ⊎ (x ≡ j) → IsOn (slice_set old.marks.items x true) j
    still j away (inl c) = other j away ∙ k.marked.marked j c
    still j away (inr e) = absurd (away (sym e))

    marked : (j : ℕ) → (j ≡ x) ⊎ ((j < x) ⊎ (x < j)) → Contains old.begun.items j ⊎ (x ≡ j) → IsOn (slice_set old.marks.items x true) j
    marked j (inl e) c = there j e
    marked j (inr (inl b)) c = still j (λ e. absurd (omega arith)) c
    marked j (inr (inr b)) c = still j (λ e. absurd (omega arith)) c

-- how many have not begun
abbrev pub remaining : List Bool → ℕ
remaining [] = 0
remaining (true ∷ bs) = remaining bs
remaining (false ∷ bs) = suc (remaining bs)

remaining_le : (xs ys : List Bool) → length xs ≡ length ys → ((j : ℕ) → IsOn xs j → IsOn ys j) → remaining ys ≤ remaining xs
remaining_le [] [] same on = omega arith
remaining_le [] (y ∷ ys) same on = absurd (omega arith)
remaining_le (x ∷ xs) [] same on = absurd (omega arith)
remaining_le (x ∷ xs) (y ∷ ys) same on = at x y (on 0) (remaining_le xs ys (omega arith) (λ j. on (suc j)))
  where
    at : (x y : Bool) → (x ≡ true → y ≡ true) → remaining ys ≤ remaining xs → remaining (y ∷ ys) ≤ remaining (x ∷ xs)
    at true true h r = r
    at true false h r = let e : false ≡ true = h refl in absurd (cc)
    at false true h r = omega arith
    at false false h r = omega arith

remaining_falls : (xs ys : List Bool) (x : ℕ) → length xs ≡ length ys → ((j : ℕ) → IsOn xs j → IsOn ys j) → slice_index_or xs x false ≡ false → IsOn ys x
    → remaining ys < remaining xs
remaining_falls xs [] x same on off here = let e : false ≡ true = here in absurd (cc)
remaining_falls [] (y ∷ ys) x same on off here = absurd (omega arith)
remaining_falls (b ∷ xs) (y ∷ ys) zero same on off here = at b y off here (remaining_le xs ys (omega arith) (λ j. on (suc j)))
  where
    at : (b y : Bool) → b ≡ false → y ≡ true → remaining ys ≤ remaining xs → remaining (y ∷ ys) < remaining (b ∷ xs)
    at true y off here r = absurd (cc)
    at false false off here r = absurd (cc)
    at false true off here r = omega arith
remaining_falls (b ∷ xs) (y ∷ ys) (suc x) same on off here = at b y (on 0) (remaining_falls xs ys x (omega arith) (λ j. on (suc j)) off here)
  where
    at : (b y : Bool) → (b ≡ true → y ≡ true) → remaining ys < remaining xs → remaining (y ∷ ys) < remaining (b ∷ xs)
    at true true h r = r
    at true false h r = let e : false ≡ true = h refl in absurd (cc)
    at false true h r = omega arith
    at false false h r = omega arith

-- behind the beginning of a value fewer remain
pub fewer_remain : (rows : List Row) (x : ℕ) (old mid new : State) (xs : List ℕ) → Keeps rows old → Keeps rows new → slice_index_or old.marks.items x false ≡ false
    → Begins x old mid → StartsAll rows (view mid) xs (view new) → remaining new.marks.items < remaining old.marks.items
fewer_remain rows x old mid new xs k l off b s =
    remaining_falls old.marks.items new.marks.items x (k.sized ∙ sym l.sized)
    (λ j on. l.marked.marked j (later j (Contains-append_left old.begun.items (x ∷ []) j (k.marked.listed j on))))
    off (l.marked.marked x (later x (Contains-push old.begun.items x)))
  where
    later : (j : ℕ) → Contains (old.begun.items ++ x ∷ []) j → Contains new.begun.items j
    later j c = starts_keeps (Chain rows) (values_from 0 rows) (view mid) (view new) xs s j (subst (λ l. Contains l j) (sym (ap (λ p. p.begun) b.progress)) c)

-- ---- one value

pub starts_none : (rows : List Row) (x : ℕ) (p : Progress ℕ) → StartsReached rows x 0 p p
starts_none rows x p = record { reached = []; selects = nothing_left; comes = none_left }

module _ (rows : List Row) (x i : ℕ) (row : Row) (within : i < length rows) (is : row ≡ get_or rows i row) (p q : Progress ℕ) (s : StartsReached rows x i p q) where
  pub starts_function : is_some row.parameters ≡ true → StartsReached rows x (i + 1) p q
  starts_function h = record {
    reached = s.reached;
    selects = subst (λ l. Selects (Chain rows x) l s.reached) (sym (function_next rows i row within is h)) s.selects;
    comes = s.comes;
  }

  -- a value that isn't reached
  pub starts_away : is_some row.parameters ≡ false → (Chain rows x i → ⊥) → StartsReached rows x (i + 1) p q
  starts_away h away = record {
    reached = s.reached;
    selects =
        subst (λ l. Selects (Chain rows x) l s.reached) (sym (value_next rows i row within is h))
        (subst (Selects (Chain rows x) (values_from 0 (take i rows) ++ i ∷ [])) (append-nil s.reached)
        (selects_append (Chain rows x) (values_from 0 (take i rows)) (i ∷ []) s.reached [] s.selects (leaves away nothing_left)));
    comes = s.comes;
  }

  -- one that is
  pub starts_next : is_some row.parameters ≡ false → Chain rows x i → (r : Progress ℕ) → StartsAll rows q (i ∷ []) r → StartsReached rows x (i + 1) p r
  starts_next h chain r t = record {
    reached = s.reached ++ i ∷ [];
    selects =
        subst (λ l. Selects (Chain rows x) l (s.reached ++ i ∷ [])) (sym (value_next rows i row within is h))
        (selects_append (Chain rows x) (values_from 0 (take i rows)) (i ∷ []) s.reached (i ∷ []) s.selects (takes chain nothing_left));
    comes = starts_append (Chain rows) (values_from 0 rows) p q r s.reached (i ∷ []) s.comes t;
  }

-- a value ends, once all that it reaches were started
pub starts_whole : (rows : List Row) (x n : ℕ) (marks : List Bool) (old mid new last : State) → Keeps rows old → slice_index_or old.marks.items x false ≡ false
    → Begins x old mid → length rows ≤ n → StartsReached rows x n (view mid) (view new) → Ends x marks new last → StartsOne rows x old last
starts_whole rows x n marks old mid new last k off b past s e =
    subst (λ p. StartsAll rows (view old) (x ∷ []) p) (sym e.progress)
    (starts s.reached (fresh_from rows old x k off)
    (subst (λ l. Selects (Chain rows x) (values_from 0 l) s.reached) (take_all n rows past) s.selects)
    (subst (λ p. StartsAll rows p s.reached (view new)) b.progress s.comes) none_left)

-- ---- what is selected

selects_only : {A : Type 0} (P : A → Type 0) (xs ys : List A) → Selects P xs ys → (y : A) → Contains ys y → P y × Contains xs y
selects_only P xs ys nothing_left y c = absurd (in_none y c)
selects_only P xs ys (takes {x = x} {xs = more} {ys = some} p s) y c = at (in_cases x some y c) (selects_only P more some s y)
  where
    at : (x ≡ y) ⊎ Contains some y → (Contains some y → P y × Contains more y) → P y × Contains (x ∷ more) y
    at (inl e) rest = (subst P e p, subst (Contains (x ∷ more)) e (first_in x more))
    at (inr h) rest = ((rest h).0, later_in y x more (rest h).1)
selects_only P xs ys (leaves {x = x} {xs = more} {ys = some} p s) y c = let h = selects_only P more some s y c in (h.0, later_in y x more h.1)

selects_each : {A : Type 0} (P : A → Type 0) (xs ys : List A) → Selects P xs ys → (y : A) → Contains xs y → P y → Contains ys y
selects_each P xs ys nothing_left y c h = c
selects_each P xs ys (takes {x = x} {xs = more} {ys = some} p s) y c h = at (in_cases x more y c) (selects_each P more some s y)
  where
    at : (x ≡ y) ⊎ Contains more y → (Contains more y → P y → Contains some y) → Contains (x ∷ some) y
    at (inl e) rest = subst (Contains (x ∷ some)) e (first_in x some)
    at (inr m) rest = later_in y x some (rest m h)
selects_each P xs ys (leaves {x = x} {xs = more} {ys = some} p s) y c h = at (in_cases x more y c) (selects_each P more some s y)
  where
    at : (x ≡ y) ⊎ Contains more y → (Contains more y → P y → Contains some y) → Contains some y
    at (inl e) rest = absurd (p (subst P (sym e) h))
    at (inr m) rest = rest m h

selection : {A : Type 0} (P : A → Type 0) → ((x : A) → Decided (P x)) → (xs : List A) → (ys : List A) × Selects P xs ys
selection P decided [] = ([], nothing_left)
selection {A = A} P decided (x ∷ xs) = at (decided x) (selection P decided xs)
  where
    at : Decided (P x) → (ys : List A) × Selects P xs ys → (ys : List A) × Selects P (x ∷ xs) ys
    at (inl p) s = (x ∷ s.0, takes p s.1)
    at (inr n) s = (s.0, leaves n s.1)

-- what begins in a list of values
starts_each : {A : Type 0} (Reaches : A → A → Type 0) (all : List A) (p q : Progress A) (xs : List A) → Starts Reaches all p xs q → (y : A) → Contains xs y → Contains q.begun y
starts_each Reaches all p q xs none_left y c = absurd (in_none y c)
starts_each Reaches all p q xs (passes {p = p0} {q = q0} {x = x} {xs = more} h s) y c = at (in_cases x more y c) (starts_each Reaches all p0 q0 more s y)
  where
    at : (x ≡ y) ⊎ Contains more y → (Contains more y → Contains q0.begun y) → Contains q0.begun y
    at (inl e) rest = starts_keeps Reaches all p0 q0 more s y (subst (Contains p0.begun) e h)
    at (inr m) rest = rest m
starts_each Reaches all p q xs (starts {p = p0} {q = q0} {r = r0} {x = x} {xs = more} reached fresh chosen inner s) y c =
    at (in_cases x more y c) (starts_each Reaches all (ending x q0) r0 more s y)
  where
    at : (x ≡ y) ⊎ Contains more y → (Contains more y → Contains r0.begun y) → Contains r0.begun y
    at (inl e) rest =
        starts_keeps Reaches all (ending x q0) r0 more s y
        (starts_keeps Reaches all (beginning x p0) q0 reached inner y (subst (Contains (p0.begun ++ x ∷ [])) e (Contains-push p0.begun x)))
    at (inr m) rest = rest m

all_pass : {A : Type 0} (Reaches : A → A → Type 0) (all : List A) (p : Progress A) (xs : List A) → ((y : A) → Contains xs y → Contains p.begun y) → Starts Reaches all p xs p
all_pass Reaches all p [] h = none_left
all_pass Reaches all p (x ∷ xs) h = passes (h x (first_in x xs)) (all_pass Reaches all p xs (λ y c. h y (later_in y x xs c)))

-- ---- what is settled

-- once what x reaches was started, each value that x is or reaches has begun
begun_behind : (rows : List Row) (x n : ℕ) (old mid new : State) → Begins x old mid → length rows ≤ n → StartsReached rows x n (view mid) (view new)
    → (j : ℕ) → (x ≡ j) ⊎ Chain rows x j → Contains (values_from 0 rows) j → Contains new.begun.items j
begun_behind rows x n old mid new b past s j (inl e) v =
    starts_keeps (Chain rows) (values_from 0 rows) (view mid) (view new) s.reached s.comes j
    (subst (λ l. Contains l j) (sym (ap (λ p. p.begun) b.progress)) (subst (Contains (old.begun.items ++ x ∷ [])) e (Contains-push old.begun.items x)))
begun_behind rows x n old mid new b past s j (inr c) v =
    starts_each (Chain rows) (values_from 0 rows) (view mid) (view new) s.reached s.comes j
    (selects_each (Chain rows x) (values_from 0 rows) s.reached
    (subst (λ l. Selects (Chain rows x) (values_from 0 l) s.reached) (take_all n rows past) s.selects) j v c)

pub keeps_end : (rows : List Row) (x n : ℕ) (marks : List Bool) (old mid new last : State) → Keeps rows new → Begins x old mid → length rows ≤ n
    → StartsReached rows x n (view mid) (view new) → ((j : ℕ) → IsOn marks j → Chain rows x j) → Ends x marks new last → Keeps rows last
keeps_end rows x n marks old mid new last k b past s only e = record {
  sized = ap length e.marks ∙ k.sized;
  settled_sized = e.sized ∙ k.settled_sized;
  marked = subst (λ l. IsMarked last.marks.items l) (sym begun) (subst (λ l. IsMarked l new.begun.items) (sym e.marks) k.marked);
  settled = λ j p v. subst (λ l. Contains l j) (sym begun) (settled j p v);
}
  where
    begun : last.begun.items ≡ new.begun.items
    begun = ap (λ p. p.begun) e.progress

    behind : (j : ℕ) → (x ≡ j) ⊎ Chain rows x j → Contains (values_from 0 rows) j → Contains new.begun.items j
    behind = begun_behind rows x n old mid new b past s

    further : (i j : ℕ) → Chain rows x i → (i ≡ j) ⊎ Chain rows i j → Chain rows x j
    further i j c (inl same) = subst (Chain rows x) same c
    further i j c (inr d) = chain_append rows x i j c d

    onwards : (i j : ℕ) → x ≡ i → (i ≡ j) ⊎ Chain rows i j → (x ≡ j) ⊎ Chain rows x j
    onwards i j same l = subst (λ m. (m ≡ j) ⊎ Chain rows m j) (sym same) l

    case : (i j : ℕ) → (i ≡ j) ⊎ Chain rows i j → Contains (values_from 0 rows) j → IsOn new.settled.items i ⊎ ((x ≡ i) ⊎ IsOn marks i) → Contains new.begun.items j
    case i j l v (inl was) = k.settled j (record { from = i; is = was; leads = l }) v
    case i j l v (inr (inl same)) = behind j (onwards i j same l) v
    case i j l v (inr (inr on)) = behind j (inr (further i j (only i on) l)) v

    settled : (j : ℕ) → IsPast rows last.settled.items j → Contains (values_from 0 rows) j → Contains new.begun.items j
    settled j p v = case p.from j p.leads v (e.settled p.from p.is)

-- what a declaration leads to, all of whose mentions are settled
past_mentions : (rows : List Row) (x : ℕ) (row : Row) (settled : List Bool) → x < length rows → row ≡ get_or rows x row
    → ((j : ℕ) → Targets row.places j → IsOn settled j) → (j : ℕ) → Chain rows x j → IsPast rows settled j
past_mentions rows x row settled within is targets j (step l) =
    record { from = j; is = targets j (led_from rows x j row (slice_get_read rows (length rows) x row refl within is) l); leads = inl refl }
past_mentions rows x row settled within is targets j (onward {j = m} l c) =
    record { from = m; is = targets m (led_from rows x m row (slice_get_read rows (length rows) x row refl within is) l); leads = inr c }

-- where all that x mentions is settled, all that it reaches has begun
pub starts_settled : (rows : List Row) (x : ℕ) (row : Row) (state : State) → Keeps rows state → x < length rows → row ≡ get_or rows x row
    → ((j : ℕ) → Targets row.places j → IsOn state.settled.items j) → StartsReached rows x (length rows) (view state) (view state)
starts_settled rows x row state k within is targets = record {
  reached = chosen.0;
  selects = subst (λ l. Selects (Chain rows x) (values_from 0 l) chosen.0) (sym (take_all (length rows) rows (omega arith))) chosen.1;
  comes = all_pass (Chain rows) (values_from 0 rows) (view state) chosen.0
      (λ y c. let h = selects_only (Chain rows x) (values_from 0 rows) chosen.0 chosen.1 y c in k.settled y (past y h.0) h.1);
}
  where
    chosen : (ys : List ℕ) × Selects (Chain rows x) (values_from 0 rows) ys
    chosen = selection (Chain rows x) (chain_decided rows x) (values_from 0 rows)

    past : (j : ℕ) → Chain rows x j → IsPast rows state.settled.items j
    past = past_mentions rows x row state.settled.items within is targets

-- a declaration that the search doesn't mark is a function, isn't reached, or has begun
pub starts_unmarked : (rows : List Row) (x i : ℕ) (row : Row) (marks : List Bool) (mid new : State) → i < length rows → row ≡ get_or rows i row → Keeps rows mid
    → StartsReached rows x i (view mid) (view new) → Reaches rows x mid.settled.items marks → slice_index_or marks i false ≡ false
    → StartsReached rows x (i + 1) (view mid) (view new)
starts_unmarked rows x i row marks mid new within is k s r off = of (is_some row.parameters) refl
  where
    begun : is_some row.parameters ≡ false → Chain rows x i → IsOn marks i ⊎ IsPast rows mid.settled.items i → Contains new.begun.items i
    begun h c (inl on) = absurd (off_on marks i off on)
    begun h c (inr p) =
        starts_keeps (Chain rows) (values_from 0 rows) (view mid) (view new) s.reached s.comes i (k.settled i p (value_in rows i row within is h))

    at : is_some row.parameters ≡ false → Decided (Chain rows x i) → StartsReached rows x (i + 1) (view mid) (view new)
    at h (inl c) = starts_next rows x i row within is (view mid) (view new) s h c (view new) (passes (begun h c (r.whole i within c)) none_left)
    at h (inr n) = starts_away rows x i row within is (view mid) (view new) s h n

    of : (b : Bool) → is_some row.parameters ≡ b → StartsReached rows x (i + 1) (view mid) (view new)
    of true h = starts_function rows x i row within is (view mid) (view new) s h
    of false h = at h (chain_decided rows x i)

pub keeps_function : (rows : List Row) (x : ℕ) (row : Row) (old new : State) → x < length rows → row ≡ get_or rows x row → is_some row.parameters ≡ true
    → Keeps rows old → SettlesFunction row x old new → Keeps rows new
keeps_function rows x row old new within is h k e = record {
  sized = ap length e.marks ∙ k.sized;
  settled_sized = e.sized ∙ k.settled_sized;
  marked = subst (λ l. IsMarked new.marks.items l) (sym begun) (subst (λ l. IsMarked l old.begun.items) (sym e.marks) k.marked);
  settled = λ j p v. subst (λ l. Contains l j) (sym begun) (case p.from j p.leads v (e.settled p.from p.is));
}
  where
    begun : new.begun.items ≡ old.begun.items
    begun = ap (λ p. p.begun) e.progress

    here : (j : ℕ) → ((k : ℕ) → Targets row.places k → IsOn old.settled.items k) → (x ≡ j) ⊎ Chain rows x j → Contains (values_from 0 rows) j → Contains old.begun.items j
    here j targets (inl same) v = absurd (not_value rows x row within is h (subst (Contains (values_from 0 rows)) (sym same) v))
    here j targets (inr c) v = k.settled j (past_mentions rows x row old.settled.items within is targets j c) v

    case : (i j : ℕ) → (i ≡ j) ⊎ Chain rows i j → Contains (values_from 0 rows) j
        → IsOn old.settled.items i ⊎ ((x ≡ i) × ((k : ℕ) → Targets row.places k → IsOn old.settled.items k)) → Contains old.begun.items j
    case i j l v (inl was) = k.settled j (record { from = i; is = was; leads = l }) v
    case i j l v (inr t) = here j t.1 (subst (λ m. (m ≡ j) ⊎ Chain rows m j) (sym t.0) l) v

-- ---- what the code reads

pub read_mark : (marks : List Bool) (x : ℕ) (v b : Bool) → x < length marks → v ≡ slice_index_or marks x v → v ≡ b → slice_index_or marks x false ≡ b
read_mark marks x v b within is e = sym (get_or_default marks x v false within) ∙ sym is ∙ e

pub starts_begun : (rows : List Row) (state : State) (x : ℕ) → Keeps rows state → IsOn state.marks.items x → StartsOne rows x state state
starts_begun rows state x k on = passes (k.marked.listed x on) none_left

-- ---- all values

pub starts_first : (rows : List Row) (p q r : Progress ℕ) (i : ℕ) (row : Row) → i < length rows → row ≡ get_or rows i row → is_some row.parameters ≡ false
    → StartsAll rows p (values_from 0 (take i rows)) q → StartsAll rows q (i ∷ []) r → StartsAll rows p (values_from 0 (take (i + 1) rows)) r
starts_first rows p q r i row within is h s t =
    subst (λ l. StartsAll rows p l r) (sym (value_next rows i row within is h))
    (starts_append (Chain rows) (values_from 0 rows) p q r (values_from 0 (take i rows)) (i ∷ []) s t)

pub passes_function : (rows : List Row) (p q : Progress ℕ) (i : ℕ) (row : Row) → i < length rows → row ≡ get_or rows i row → is_some row.parameters ≡ true
    → StartsAll rows p (values_from 0 (take i rows)) q → StartsAll rows p (values_from 0 (take (i + 1) rows)) q
passes_function rows p q i row within is h s = subst (λ l. StartsAll rows p l q) (sym (function_next rows i row within is h)) s

pub is_order : (rows : List Row) (n : ℕ) (state : State) → length rows ≤ n → StartsAll rows none_begun (values_from 0 (take n rows)) (view state)
    → IsStartOf rows state.started.items
is_order rows n state past s = record { progress = view state; comes = subst (λ l. StartsAll rows none_begun (values_from 0 l) (view state)) (take_all n rows past) s; whole = refl }
