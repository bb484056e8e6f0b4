-- The search for rings.
use Rattle.std.proofs.Common.{◌≡◌, ◌≢◌, ℕ, ◌+◌, ◌<◌, List, [], ◌∷◌, ◌++◌, length, get_or, take, Some, None, refl, sym, ap, ◌∙◌, subst, inl, inr, arith, append_assoc, length-append}
use Rattle.std.proofs.lemmas.List.{append-nil}
use Rattle.std.proofs.lemmas.Bool.{cases_order}
use Rattle.std.proofs.lemmas.List.{get_or_default}
use Rattle.std.specs.Prelude.{◌⊎◌, slice_get}
use Rattle.std.specs.List.{All, Contains, slice_index_or, slice_index}
use Rattle.std.proofs.lemmas.List.{get_or_append_left, take_more}
use Rattle.std.proofs.lemmas.Option.{slice_get_within, slice_get_read, none-some, same_Some}
use Rattle.std.proofs.lemmas.List.Elements.{All-nil, All-cons, All-append, All-push, All-weaker, Contains-append_left, Contains-push, Contains-push_cases}
use Rattle.core_validate.specs.declared.place.Meaning.{Meaning}
use Rattle.core_validate.specs.declared.place.Meaning.TheVariants.{Local, Global, Free}
use Rattle.core_validate.specs.declared.place.Place.{Place}
use Rattle.core_validate.specs.declared.place.Row.{Row}
use Rattle.core_validate.specs.Rings.{Leads, Chain, step, onward, IsOnRing}
use Rattle.core_validate.specs.Searches.{Targets, Adds, PassesBy, Visits, IsDone, VisitsRow, Searches, IsBelow, AreRanks}

-- ---- at places

pub same_global : (i j : ℕ) → Global i ≡ Global j → i ≡ j
same_global i j e = cc

pub targets_more : (ps : List Place) (p : Place) (j : ℕ) → Targets ps j → Targets (ps ++ p ∷ []) j
targets_more ps p j t = record { place = t.place; occurs = Contains-append_left ps (p ∷ []) t.place t.occurs; denotes = t.denotes }

pub targets_last : (ps : List Place) (p : Place) (j : ℕ) → p.meaning ≡ Global j → Targets (ps ++ p ∷ []) j
targets_last ps p j e = record { place = p; occurs = Contains-push ps p; denotes = e }

pub targets_cases : (ps : List Place) (p : Place) (j : ℕ) → Targets (ps ++ p ∷ []) j → Targets ps j ⊎ (p.meaning ≡ Global j)
targets_cases ps p j t = at (Contains-push_cases ps p t.place t.occurs)
  where
    at : Contains ps t.place ⊎ (p ≡ t.place) → Targets ps j ⊎ (p.meaning ≡ Global j)
    at (inl h) = inl (record { place = t.place; occurs = h; denotes = t.denotes })
    at (inr e) = inr (ap (λ q. q.meaning) e ∙ t.denotes)

pub visits_none : (start bound : ℕ) (old : List ℕ) → Visits [] start bound old old
visits_none start bound old = record { rest = []; extends = sym (append-nil old); only = All-nil (Targets []); covers = λ j t. absurd (omega (arith, t.occurs.1)) }

module _ (ps : List Place) (p : Place) (start bound : ℕ) (old mid new : List ℕ) (v : Visits ps start bound old mid) where
  -- nothing more was reached
  visits_same : ((j : ℕ) → p.meaning ≡ Global j → ⊥) → new ≡ mid → Visits (ps ++ p ∷ []) start bound old new
  visits_same none e = record {
    rest = v.rest;
    extends = e ∙ v.extends;
    only = All-weaker (Targets ps) (Targets (ps ++ p ∷ [])) (targets_more ps p) v.rest v.only;
    covers = λ j t. covered j (targets_cases ps p j t);
  }
    where
      covered : (j : ℕ) → Targets ps j ⊎ (p.meaning ≡ Global j) → (j ≢ start) × (j < bound → Contains new j)
      covered j (inl t) = subst (λ xs. (j ≢ start) × (j < bound → Contains xs j)) (sym e) (v.covers j t)
      covered j (inr d) = absurd (none j d)

  -- one declaration was, or had been
  visits_global : (i : ℕ) → p.meaning ≡ Global i → i ≢ start → Adds i mid new → (i < bound → Contains new i) → Visits (ps ++ p ∷ []) start bound old new
  visits_global i is away adds there = at adds
    where
      covered : ((j : ℕ) → Contains mid j → Contains new j) → (j : ℕ) → Targets ps j ⊎ (p.meaning ≡ Global j) → (j ≢ start) × (j < bound → Contains new j)
      covered grows j (inl t) = ((v.covers j t).0, λ h. grows j ((v.covers j t).1 h))
      covered grows j (inr d) = subst (λ k. (k ≢ start) × (k < bound → Contains new k)) (same_global i j (sym is ∙ d)) (away, there)

      at : Adds i mid new → Visits (ps ++ p ∷ []) start bound old new
      at (inl e) = record {
        rest = v.rest;
        extends = e ∙ v.extends;
        only = All-weaker (Targets ps) (Targets (ps ++ p ∷ [])) (targets_more ps p) v.rest v.only;
        covers = λ j t. covered (λ k h. subst (λ xs. Contains xs k) (sym e) h) j (targets_cases ps p j t);
      }
      at (inr e) = record {
        rest = v.rest ++ i ∷ [];
        extends = e ∙ ap (λ xs. xs ++ i ∷ []) v.extends ∙ append_assoc old v.rest (i ∷ []);
        only = All-push (Targets (ps ++ p ∷ [])) v.rest i (All-weaker (Targets ps) (Targets (ps ++ p ∷ [])) (targets_more ps p) v.rest v.only) (targets_last ps p i is);
        covers = λ j t. covered (λ k h. subst (λ xs. Contains xs k) (sym e) (Contains-append_left mid (i ∷ []) k h)) j (targets_cases ps p j t);
      }

  visits_by : (m : Meaning) → p.meaning ≡ m → PassesBy m start bound mid new → Visits (ps ++ p ∷ []) start bound old new
  visits_by Local is same = visits_same (λ j d. (let e : Local ≡ Global j = sym is ∙ d in cc)) same
  visits_by Free is same = visits_same (λ j d. (let e : Free ≡ Global j = sym is ∙ d in cc)) same
  visits_by (Global i) is h = visits_global i is h.0 h.1 h.2

pub visits_more : (ps : List Place) (i : ℕ) (p : Place) (start bound : ℕ) (old mid new : List ℕ) → i < length ps → p ≡ get_or ps i p
    → Visits (take i ps) start bound old mid → PassesBy p.meaning start bound mid new → Visits (take (i + 1) ps) start bound old new
visits_more ps i p start bound old mid new within is v h =
    subst (λ xs. Visits xs start bound old new) (sym (take_more ps i p within ∙ ap (λ q. take i ps ++ q ∷ []) (sym is)))
    (visits_by (take i ps) p start bound old mid new v p.meaning refl h)

-- ---- at declarations

pub lead_to : (rows : List Row) (v j : ℕ) (row : Row) → slice_get rows v ≡ Some row → Targets row.places j → Leads rows v j
lead_to rows v j row stands t = record { row = row; place = t.place; stands = stands; occurs = t.occurs; denotes = t.denotes }

pub led_from : (rows : List Row) (v j : ℕ) (row : Row) → slice_get rows v ≡ Some row → Leads rows v j → Targets row.places j
led_from rows v j row stands l = record {
  place = l.place;
  occurs = subst (λ r. Contains r.places l.place) (same_Some l.row row (sym l.stands ∙ stands)) l.occurs;
  denotes = l.denotes;
}

pub visits_row_none : (rows : List Row) (v start : ℕ) (old : List ℕ) → slice_get rows v ≡ None → VisitsRow rows v start old old
visits_row_none rows v start old missing = record {
  rest = [];
  extends = sym (append-nil old);
  only = All-nil (Leads rows v);
  done = λ j l. absurd (none-some l.row (sym missing ∙ l.stands));
}

pub visits_row_some : (rows : List Row) (v start : ℕ) (old new : List ℕ) (row : Row) → slice_get rows v ≡ Some row
    → Visits row.places start (length rows) old new → VisitsRow rows v start old new
visits_row_some rows v start old new row stands h = record {
  rest = h.rest;
  extends = h.extends;
  only = All-weaker (Targets row.places) (Leads rows v) (λ j t. lead_to rows v j row stands t) h.rest h.only;
  done = λ j l. h.covers j (led_from rows v j row stands l);
}

-- ---- chains

pub chain_push : (rows : List Row) (i j k : ℕ) → Chain rows i j → Leads rows j k → Chain rows i k
chain_push rows i j k (step l) m = onward l (step m)
chain_push rows i j k (onward {j = x} l c) m = onward l (chain_push rows x j k c m)

pub starts_within : (rows : List Row) (i k : ℕ) → Chain rows i k → i < length rows
starts_within rows i k (step l) = slice_get_within rows i l.row l.stands
starts_within rows i k (onward l c) = slice_get_within rows i l.row l.stands

onward_from : (rows : List Row) (start v j : ℕ) → (v ≡ start) ⊎ Chain rows start v → Leads rows v j → Chain rows start j
onward_from rows start v j (inl e) l = step (subst (λ x. Leads rows x j) e l)
onward_from rows start v j (inr c) l = chain_push rows start v j c l

-- ---- the search

pub search_starts : (rows : List Row) (start : ℕ) → Searches rows start 0 (start ∷ [])
search_starts rows start = record {
  within = omega arith;
  starts = Contains-push [] start;
  only = All-cons (λ v. (v ≡ start) ⊎ Chain rows start v) start [] (inl refl) (All-nil (λ v. (v ≡ start) ⊎ Chain rows start v));
  done = λ k d h. absurd (omega arith);
}

module _ (rows : List Row) (start at : ℕ) (old : List ℕ) (s : Searches rows start at old) (v : ℕ) (more : at < length old) (is : v ≡ get_or old at v) where
  reached_at : (v ≡ start) ⊎ Chain rows start v
  reached_at = subst (λ x. (x ≡ start) ⊎ Chain rows start x) (sym is) (s.only at v more)

  -- the start is led back to
  pub search_finds : Leads rows v start → IsOnRing rows start
  search_finds l = onward_from rows start v start reached_at l

  pub search_more : (new : List ℕ) → VisitsRow rows v start old new → Searches rows start (at + 1) new
  search_more new h = record {
    within = omega (arith, ap length h.extends, length-append old h.rest);
    starts = grown start s.starts;
    only = subst (All (λ v. (v ≡ start) ⊎ Chain rows start v)) (sym h.extends)
        (All-append (λ v. (v ≡ start) ⊎ Chain rows start v) old h.rest s.only
        (All-weaker (Leads rows v) (λ v. (v ≡ start) ⊎ Chain rows start v) (λ j l. inr (onward_from rows start v j reached_at l)) h.rest h.only));
    done = λ k d below. done_at k d (cases_order k at) below;
  }
    where
      grown : (x : ℕ) → Contains old x → Contains new x
      grown x c = subst (λ xs. Contains xs x) (sym h.extends) (Contains-append_left old h.rest x c)

      same_at : (k d : ℕ) → k < length old → slice_index_or new k d ≡ slice_index_or old k d
      same_at k d below = ap (λ xs. slice_index_or xs k d) h.extends ∙ get_or_append_left old h.rest d k below

      wider : (x : ℕ) → IsDone rows start old x → IsDone rows start new x
      wider x done j l = ((done j l).0, λ b. grown j ((done j l).1 b))

      done_at : (k d : ℕ) → (k ≡ at) ⊎ ((k < at) ⊎ (at < k)) → k < at + 1 → IsDone rows start new (slice_index_or new k d)
      done_at k d (inl e) below =
          subst (IsDone rows start new) (is ∙ get_or_default old at v d more ∙ sym (same_at at d more) ∙ ap (λ n. slice_index_or new n d) (sym e)) h.done
      done_at k d (inr (inl b)) below = subst (IsDone rows start new) (sym (same_at k d (omega (arith, s.within)))) (wider (slice_index_or old k d) (s.done k d b))
      done_at k d (inr (inr b)) below = absurd (omega arith)

-- once all that was reached is done, nothing leads back
no_return : (rows : List Row) (start : ℕ) (reached : List ℕ) → ((v : ℕ) → Contains reached v → IsDone rows start reached v)
    → (i k : ℕ) → Chain rows i k → Contains reached i → k ≡ start → ⊥
no_return rows start reached closed i k (step l) c e = (closed i c k l).0 e
no_return rows start reached closed i k (onward {j = j} l rest) c e =
    no_return rows start reached closed j k rest ((closed i c j l).1 (starts_within rows j k rest)) e

pub search_ends : (rows : List Row) (start at : ℕ) (reached : List ℕ) → Searches rows start at reached → at ≡ length reached → IsOnRing rows start → ⊥
search_ends rows start at reached s e ring =
    no_return rows start reached
    (λ v c. subst (IsDone rows start reached) c.2 (s.done c.0 v (omega (arith, c.1))))
    start start ring s.starts refl

-- ---- ranks

pub ranks_fall : (ranks : List ℕ) (rows : List Row) → AreRanks ranks rows → (i k : ℕ) → Chain rows i k → 0 < slice_index ranks i
    → IsBelow ranks (slice_index ranks i) k
ranks_fall ranks rows are i k (step l) h = are i k l h
ranks_fall ranks rows are i k (onward {j = j} l c) h =
    let below = are i j l h in
    let rest = ranks_fall ranks rows are j k c below.0 in
    (rest.0, omega (arith, below.1, rest.1))

pub ranked_ringless : (ranks : List ℕ) (rows : List Row) → AreRanks ranks rows → (i : ℕ) → 0 < slice_index ranks i → IsOnRing rows i → ⊥
ranked_ringless ranks rows are i h ring = absurd (omega (arith, (ranks_fall ranks rows are i i ring h).1))

pub below_more : (ps : List Place) (i : ℕ) (p : Place) (P : ℕ → Type 0) → i < length ps → p ≡ get_or ps i p
    → ((j : ℕ) → Targets (take i ps) j → P j) → ((j : ℕ) → p.meaning ≡ Global j → P j) → (j : ℕ) → Targets (take (i + 1) ps) j → P j
below_more ps i p P within is before here j t =
    at (targets_cases (take i ps) p j (subst (λ xs. Targets xs j) (take_more ps i p within ∙ ap (λ q. take i ps ++ q ∷ []) (sym is)) t))
  where
    at : Targets (take i ps) j ⊎ (p.meaning ≡ Global j) → P j
    at (inl h) = before j h
    at (inr e) = here j e

pub targets_none : (j : ℕ) → Targets [] j → ⊥
targets_none j t = absurd (omega (arith, t.occurs.1))

pub ranks_more : (ranks : List ℕ) (rows : List Row) (at : ℕ) (row : Row) → at < length rows → row ≡ get_or rows at row
    → ((i j : ℕ) → i < at → Leads rows i j → 0 < slice_index ranks i → IsBelow ranks (slice_index ranks i) j)
    → ((j : ℕ) → Targets row.places j → 0 < slice_index ranks at → IsBelow ranks (slice_index ranks at) j)
    → (i j : ℕ) → i < at + 1 → Leads rows i j → 0 < slice_index ranks i → IsBelow ranks (slice_index ranks i) j
ranks_more ranks rows at row within is before here i j below l h = case (cases_order i at)
  where
    case : (i ≡ at) ⊎ ((i < at) ⊎ (at < i)) → IsBelow ranks (slice_index ranks i) j
    case (inl e) =
        subst (λ k. IsBelow ranks (slice_index ranks k) j) (sym e)
        (here j (led_from rows at j row (slice_get_read rows (length rows) at row refl within is) (subst (λ k. Leads rows k j) e l))
        (subst (λ k. 0 < slice_index ranks k) e h))
    case (inr (inl b)) = before i j b l h
    case (inr (inr b)) = absurd (omega arith)
