-- The search for rings.
use Rattle.std.proofs.Common.{◌≡◌, ◌≢◌, ℕ, ◌+◌, ◌<◌, ◌≤◌, List, [], ◌∷◌, ◌++◌, length, get_or, take, Some, None, refl, sym, ap, ◌∙◌, subst, inl, inr, arith, append_assoc, length-append}
use Rattle.std.proofs.lemmas.List.{append-nil}
use Rattle.std.proofs.lemmas.Bool.{cases_order}
use Rattle.std.proofs.lemmas.List.{get_or_default}
use Rattle.std.specs.Prelude.{◌⊎◌, slice_get}
use Rattle.std.specs.List.{All, Contains, slice_index_or, slice_index}
use Rattle.std.proofs.lemmas.List.{get_or_append_left, take_more}
use Rattle.std.proofs.lemmas.Option.{slice_get_within, slice_get_read, none-some, same_Some}
use Rattle.std.proofs.lemmas.List.Elements.{All-nil, All-cons, All-append, All-push, All-weaker, Contains-append_left, Contains-push, Contains-push_cases}
use Rattle.wesl_cycles.specs.Rings.{Leads, Chain, step, onward, IsOnRing}
use Rattle.wesl_cycles.specs.Searches.{Adds, PassesBy, Visits, IsDone, VisitsRow, Searches, AreRanks}

-- ---- in a row

pub contains_none : (j : ℕ) → Contains [] j → ⊥
contains_none j t = absurd (omega (arith, t.1))

pub visits_none : (start bound : ℕ) (old : List ℕ) → Visits [] start bound old old
visits_none start bound old = record { rest = []; extends = sym (append-nil old); only = All-nil (Contains []); covers = λ j t. absurd (contains_none j t) }

module _ (ps : List ℕ) (p : ℕ) (start bound : ℕ) (old mid new : List ℕ) (v : Visits ps start bound old mid) where
  wider : (j : ℕ) → Contains ps j → Contains (ps ++ p ∷ []) j
  wider j t = Contains-append_left ps (p ∷ []) j t

  covered : p ≢ start → (p < bound → Contains new p) → ((j : ℕ) → Contains mid j → Contains new j) → (j : ℕ) → Contains ps j ⊎ (p ≡ j)
      → (j ≢ start) × (j < bound → Contains new j)
  covered away there grows j (inl t) = ((v.covers j t).0, λ h. grows j ((v.covers j t).1 h))
  covered away there grows j (inr e) = subst (λ k. (k ≢ start) × (k < bound → Contains new k)) e (away, there)

  pub visits_by : PassesBy p start bound mid new → Visits (ps ++ p ∷ []) start bound old new
  visits_by h = at h.1
    where
      at : Adds p mid new → Visits (ps ++ p ∷ []) start bound old new
      at (inl e) = record {
        rest = v.rest;
        extends = e ∙ v.extends;
        only = All-weaker (Contains ps) (Contains (ps ++ p ∷ [])) wider v.rest v.only;
        covers = λ j t. covered h.0 h.2 (λ k c. subst (λ xs. Contains xs k) (sym e) c) j (Contains-push_cases ps p j t);
      }
      at (inr e) = record {
        rest = v.rest ++ p ∷ [];
        extends = e ∙ ap (λ xs. xs ++ p ∷ []) v.extends ∙ append_assoc old v.rest (p ∷ []);
        only = All-push (Contains (ps ++ p ∷ [])) v.rest p (All-weaker (Contains ps) (Contains (ps ++ p ∷ [])) wider v.rest v.only) (Contains-push ps p);
        covers = λ j t. covered h.0 h.2 (λ k c. subst (λ xs. Contains xs k) (sym e) (Contains-append_left mid (p ∷ []) k c)) j (Contains-push_cases ps p j t);
      }

pub visits_more : (ps : List ℕ) (i p d : ℕ) (start bound : ℕ) (old mid new : List ℕ) → i < length ps → p ≡ get_or ps i d
    → Visits (take i ps) start bound old mid → PassesBy p start bound mid new → Visits (take (i + 1) ps) start bound old new
visits_more ps i p d start bound old mid new within is v h =
    subst (λ xs. Visits xs start bound old new) (sym (take_more ps i d within ∙ ap (λ q. take i ps ++ q ∷ []) (sym is)))
    (visits_by (take i ps) p start bound old mid new v h)

-- ---- at declarations

pub lead_to : (rows : List (List ℕ)) (v j : ℕ) (row : List ℕ) → slice_get rows v ≡ Some row → Contains row j → Leads rows v j
lead_to rows v j row stands t = record { row = row; stands = stands; mentions = t }

pub led_from : (rows : List (List ℕ)) (v j : ℕ) (row : List ℕ) → slice_get rows v ≡ Some row → Leads rows v j → Contains row j
led_from rows v j row stands l = subst (λ r. Contains r j) (same_Some l.row row (sym l.stands ∙ stands)) l.mentions

pub visits_row_none : (rows : List (List ℕ)) (v start : ℕ) (old : List ℕ) → slice_get rows v ≡ None → VisitsRow rows v start old old
visits_row_none rows v start old missing = record {
  rest = [];
  extends = sym (append-nil old);
  only = All-nil (Leads rows v);
  done = λ j l. absurd (none-some l.row (sym missing ∙ l.stands));
}

pub visits_row_some : (rows : List (List ℕ)) (v start : ℕ) (old new : List ℕ) (row : List ℕ) → slice_get rows v ≡ Some row
    → Visits row start (length rows) old new → VisitsRow rows v start old new
visits_row_some rows v start old new row stands h = record {
  rest = h.rest;
  extends = h.extends;
  only = All-weaker (Contains row) (Leads rows v) (λ j t. lead_to rows v j row stands t) h.rest h.only;
  done = λ j l. h.covers j (led_from rows v j row stands l);
}

-- ---- chains

pub chain_push : (rows : List (List ℕ)) (i j k : ℕ) → Chain rows i j → Leads rows j k → Chain rows i k
chain_push rows i j k (step l) m = onward l (step m)
chain_push rows i j k (onward {j = x} l c) m = onward l (chain_push rows x j k c m)

pub starts_within : (rows : List (List ℕ)) (i k : ℕ) → Chain rows i k → i < length rows
starts_within rows i k (step l) = slice_get_within rows i l.row l.stands
starts_within rows i k (onward l c) = slice_get_within rows i l.row l.stands

onward_from : (rows : List (List ℕ)) (start v j : ℕ) → (v ≡ start) ⊎ Chain rows start v → Leads rows v j → Chain rows start j
onward_from rows start v j (inl e) l = step (subst (λ x. Leads rows x j) e l)
onward_from rows start v j (inr c) l = chain_push rows start v j c l

-- ---- the search

pub search_starts : (rows : List (List ℕ)) (start : ℕ) → Searches rows start 0 (start ∷ [])
search_starts rows start = record {
  within = omega arith;
  starts = Contains-push [] start;
  only = All-cons (λ v. (v ≡ start) ⊎ Chain rows start v) start [] (inl refl) (All-nil (λ v. (v ≡ start) ⊎ Chain rows start v));
  done = λ k d h. absurd (omega arith);
}

module _ (rows : List (List ℕ)) (start at : ℕ) (old : List ℕ) (s : Searches rows start at old) (v : ℕ) (more : at < length old) (is : v ≡ get_or old at v) where
  reached_at : (v ≡ start) ⊎ Chain rows start v
  reached_at = subst (λ x. (x ≡ start) ⊎ Chain rows start x) (sym is) (s.only at v more)

  -- the start is led back to
  pub search_finds : Leads rows v start → IsOnRing rows start
  search_finds l = onward_from rows start v start reached_at l

  pub search_more : (new : List ℕ) → VisitsRow rows v start old new → Searches rows start (at + 1) new
  search_more new h = record {
    within = omega (arith, ap length h.extends, length-append old h.rest);
    starts = grown start s.starts;
    only = subst (All (λ v. (v ≡ start) ⊎ Chain rows start v)) (sym h.extends)
        (All-append (λ v. (v ≡ start) ⊎ Chain rows start v) old h.rest s.only
        (All-weaker (Leads rows v) (λ v. (v ≡ start) ⊎ Chain rows start v) (λ j l. inr (onward_from rows start v j reached_at l)) h.rest h.only));
    done = λ k d below. done_at k d (cases_order k at) below;
  }
    where
      grown : (x : ℕ) → Contains old x → Contains new x
      grown x c = subst (λ xs. Contains xs x) (sym h.extends) (Contains-append_left old h.rest x c)

      same_at : (k d : ℕ) → k < length old → slice_index_or new k d ≡ slice_index_or old k d
      same_at k d below = ap (λ xs. slice_index_or xs k d) h.extends ∙ get_or_append_left old h.rest d k below

      wider_done : (x : ℕ) → IsDone rows start old x → IsDone rows start new x
      wider_done x done j l = ((done j l).0, λ b. grown j ((done j l).1 b))

      done_at : (k d : ℕ) → (k ≡ at) ⊎ ((k < at) ⊎ (at < k)) → k < at + 1 → IsDone rows start new (slice_index_or new k d)
      done_at k d (inl e) below =
          subst (IsDone rows start new) (is ∙ get_or_default old at v d more ∙ sym (same_at at d more) ∙ ap (λ n. slice_index_or new n d) (sym e)) h.done
      done_at k d (inr (inl b)) below = subst (IsDone rows start new) (sym (same_at k d (omega (arith, s.within)))) (wider_done (slice_index_or old k d) (s.done k d b))
      done_at k d (inr (inr b)) below = absurd (omega arith)

-- once all that was reached is done, nothing leads back
no_return : (rows : List (List ℕ)) (start : ℕ) (reached : List ℕ) → ((v : ℕ) → Contains reached v → IsDone rows start reached v)
    → (i k : ℕ) → Chain rows i k → Contains reached i → k ≡ start → ⊥
no_return rows start reached closed i k (step l) c e = (closed i c k l).0 e
no_return rows start reached closed i k (onward {j = j} l rest) c e =
    no_return rows start reached closed j k rest ((closed i c j l).1 (starts_within rows j k rest)) e

pub search_ends : (rows : List (List ℕ)) (start at : ℕ) (reached : List ℕ) → Searches rows start at reached → at ≡ length reached → IsOnRing rows start → ⊥
search_ends rows start at reached s e ring =
    no_return rows start reached
    (λ v c. subst (IsDone rows start reached) c.2 (s.done c.0 v (omega (arith, c.1))))
    start start ring s.starts refl

-- ---- ranks

pub ranks_fall : (ranks : List ℕ) (rows : List (List ℕ)) → AreRanks ranks rows → (i k : ℕ) → Chain rows i k → slice_index ranks k ≤ slice_index ranks i
ranks_fall ranks rows are i k (step l) = are i k l
ranks_fall ranks rows are i k (onward {j = j} l c) = omega (arith, are i j l, ranks_fall ranks rows are j k c)

-- what leads to lower ranks alone is on no ring
pub ringless : (ranks : List ℕ) (rows : List (List ℕ)) → AreRanks ranks rows → (i : ℕ) → ((j : ℕ) → Leads rows i j → slice_index ranks j < slice_index ranks i)
    → IsOnRing rows i → ⊥
ringless ranks rows are i lower ring = at i ring lower
  where
    at : (k : ℕ) → Chain rows i k → ((j : ℕ) → Leads rows i j → slice_index ranks j < slice_index ranks k) → ⊥
    at k (step l) lower = absurd (omega (arith, lower k l))
    at k (onward {j = j} l c) lower = absurd (omega (arith, lower j l, ranks_fall ranks rows are j k c))

pub ranks_more : (ranks : List ℕ) (rows : List (List ℕ)) (at : ℕ) (row : List ℕ) → at < length rows → row ≡ get_or rows at row
    → ((i j : ℕ) → i < at → Leads rows i j → slice_index ranks j ≤ slice_index ranks i)
    → ((j : ℕ) → Contains row j → slice_index ranks j ≤ slice_index ranks at)
    → (i j : ℕ) → i < at + 1 → Leads rows i j → slice_index ranks j ≤ slice_index ranks i
ranks_more ranks rows at row within is before here i j below l = case (cases_order i at)
  where
    case : (i ≡ at) ⊎ ((i < at) ⊎ (at < i)) → slice_index ranks j ≤ slice_index ranks i
    case (inl e) =
        subst (λ k. slice_index ranks j ≤ slice_index ranks k) (sym e)
        (here j (led_from rows at j row (slice_get_read rows (length rows) at row refl within is) (subst (λ k. Leads rows k j) e l)))
    case (inr (inl b)) = before i j b l
    case (inr (inr b)) = absurd (omega arith)
