-- The search for what a declaration leads to.
use Rattle.std.proofs.Common.{◌≡◌, ℕ, ◌+◌, ◌<◌, List, [], ◌∷◌, ◌++◌, length, get_or, take, Some, None, Bool, refl, sym, ap, ◌∙◌, subst, inl, inr, arith, append_assoc, length-append}
use Rattle.std.specs.Prelude.{◌⊎◌, slice_get}
use Rattle.std.specs.List.{All, Contains, slice_index_or}
use Rattle.std.proofs.lemmas.Bool.{cases_order}
use Rattle.std.proofs.lemmas.List.{append-nil, get_or_default, get_or_append_left, take_more}
use Rattle.std.proofs.lemmas.Option.{none-some}
use Rattle.std.proofs.lemmas.List.Elements.{All-nil, All-append, All-push, All-weaker, All-contains, Contains-append_left}
use Rattle.core_validate.specs.declared.place.Meaning.{Meaning}
use Rattle.core_validate.specs.declared.place.Meaning.TheVariants.{Local, Global, Free}
use Rattle.core_validate.specs.declared.place.Place.{Place}
use Rattle.core_validate.specs.declared.place.Row.{Row}
use Rattle.core_validate.specs.Rings.{Leads, Chain, step, onward}
use Rattle.core_validate.specs.Searches.{Targets, Adds}
use Rattle.core_validate.proofs.SearchLemmas.{same_global, targets_more, targets_last, targets_cases, targets_none, lead_to, led_from, chain_push, starts_within}
use Rattle.core_order.specs.Searches.{IsOn, IsMarked, IsMet, PassesBy, Visits, IsDone, VisitsRow, Searches, IsPast, Reaches}

-- ---- at places

-- what was met stays so
met_still : (settled : List Bool) (old new : List ℕ) → ((k : ℕ) → Contains old k → Contains new k) → (j : ℕ) → IsMet settled old j → IsMet settled new j
met_still settled old new grows j (inl s) = inl s
met_still settled old new grows j (inr c) = inr (grows j c)

pub visits_none : (settled : List Bool) (bound : ℕ) (old : List ℕ) → Visits [] settled bound old old
visits_none settled bound old = record { rest = []; extends = sym (append-nil old); only = All-nil (Targets []); covers = λ j t. absurd (targets_none j t) }

module _ (ps : List Place) (p : Place) (settled : List Bool) (bound : ℕ) (old mid new : List ℕ) (v : Visits ps settled bound old mid) where
  -- the place denotes no declaration
  visits_same : ((j : ℕ) → p.meaning ≡ Global j → ⊥) → new ≡ mid → Visits (ps ++ p ∷ []) settled bound old new
  visits_same none e = record {
    rest = v.rest;
    extends = e ∙ v.extends;
    only = All-weaker (Targets ps) (Targets (ps ++ p ∷ [])) (targets_more ps p) v.rest v.only;
    covers = λ j t. covered j (targets_cases ps p j t);
  }
    where
      covered : (j : ℕ) → Targets ps j ⊎ (p.meaning ≡ Global j) → j < bound → IsMet settled new j
      covered j (inl t) = subst (λ xs. j < bound → IsMet settled xs j) (sym e) (v.covers j t)
      covered j (inr d) = absurd (none j d)

  visits_global : (i : ℕ) → p.meaning ≡ Global i → Adds i mid new → (i < bound → IsMet settled new i) → Visits (ps ++ p ∷ []) settled bound old new
  visits_global i is adds there = at adds
    where
      covered : ((j : ℕ) → Contains mid j → Contains new j) → (j : ℕ) → Targets ps j ⊎ (p.meaning ≡ Global j) → j < bound → IsMet settled new j
      covered grows j (inl t) h = met_still settled mid new grows j (v.covers j t h)
      covered grows j (inr d) h = subst (λ k. k < bound → IsMet settled new k) (same_global i j (sym is ∙ d)) there h

      at : Adds i mid new → Visits (ps ++ p ∷ []) settled bound old new
      at (inl e) = record {
        rest = v.rest;
        extends = e ∙ v.extends;
        only = All-weaker (Targets ps) (Targets (ps ++ p ∷ [])) (targets_more ps p) v.rest v.only;
        covers = λ j t. covered (λ k h. subst (λ xs. Contains xs k) (sym e) h) j (targets_cases ps p j t);
      }
      at (inr e) = record {
        rest = v.rest ++ i ∷ [];
        extends = e ∙ ap (λ xs. xs ++ i ∷ []) v.extends ∙ append_assoc old v.rest (i ∷ []);
        only = All-push (Targets (ps ++ p ∷ [])) v.rest i (All-weaker (Targets ps) (Targets (ps ++ p ∷ [])) (targets_more ps p) v.rest v.only) (targets_last ps p i is);
        covers = λ j t. covered (λ k h. subst (λ xs. Contains xs k) (sym e) (Contains-append_left mid (i ∷ []) k h)) j (targets_cases ps p j t);
      }

  visits_by : (m : Meaning) → p.meaning ≡ m → PassesBy m settled bound mid new → Visits (ps ++ p ∷ []) settled bound old new
  visits_by Local is same = visits_same (λ j d. (let e : Local ≡ Global j = sym is ∙ d in cc)) same
  visits_by Free is same = visits_same (λ j d. (let e : Free ≡ Global j = sym is ∙ d in cc)) same
  visits_by (Global i) is h = visits_global i is h.0 h.1

pub visits_more : (ps : List Place) (i : ℕ) (p : Place) (settled : List Bool) (bound : ℕ) (old mid new : List ℕ) → i < length ps → p ≡ get_or ps i p
    → Visits (take i ps) settled bound old mid → PassesBy p.meaning settled bound mid new → Visits (take (i + 1) ps) settled bound old new
visits_more ps i p settled bound old mid new within is v h =
    subst (λ xs. Visits xs settled bound old new) (sym (take_more ps i p within ∙ ap (λ q. take i ps ++ q ∷ []) (sym is)))
    (visits_by (take i ps) p settled bound old mid new v p.meaning refl h)

-- ---- at declarations

pub visits_row_none : (rows : List Row) (v : ℕ) (settled : List Bool) (old : List ℕ) → slice_get rows v ≡ None → VisitsRow rows v settled old old
visits_row_none rows v settled old missing = record {
  rest = [];
  extends = sym (append-nil old);
  only = All-nil (Leads rows v);
  done = λ j l. absurd (none-some l.row (sym missing ∙ l.stands));
}

pub visits_row_some : (rows : List Row) (v : ℕ) (settled : List Bool) (old new : List ℕ) (row : Row) → slice_get rows v ≡ Some row
    → Visits row.places settled (length rows) old new → VisitsRow rows v settled old new
visits_row_some rows v settled old new row stands h = record {
  rest = h.rest;
  extends = h.extends;
  only = All-weaker (Targets row.places) (Leads rows v) (λ j t. lead_to rows v j row stands t) h.rest h.only;
  done = λ j l. h.covers j (led_from rows v j row stands l);
}

-- ---- the search

pub search_starts : (rows : List Row) (start : ℕ) (settled : List Bool) (new : List ℕ) → VisitsRow rows start settled [] new → Searches rows start settled 0 new
search_starts rows start settled new h = record {
  within = omega arith;
  only = subst (All (Chain rows start)) (sym h.extends) (All-weaker (Leads rows start) (Chain rows start) (λ j l. step l) h.rest h.only);
  first = h.done;
  done = λ k d below. absurd (omega arith);
}

pub search_more : (rows : List Row) (start : ℕ) (settled : List Bool) (at : ℕ) (old : List ℕ) (s : Searches rows start settled at old) (v : ℕ) → at < length old
    → v ≡ get_or old at v → (new : List ℕ) → VisitsRow rows v settled old new → Searches rows start settled (at + 1) new
search_more rows start settled at old s v more is new h = record {
  within = omega (arith, ap length h.extends, length-append old h.rest);
  only = subst (All (Chain rows start)) (sym h.extends)
      (All-append (Chain rows start) old h.rest s.only
      (All-weaker (Leads rows v) (Chain rows start) (λ j l. chain_push rows start v j (subst (Chain rows start) (sym is) (s.only at v more)) l) h.rest h.only));
  first = wider start s.first;
  done = λ k d below. done_at k d (cases_order k at) below;
}
  where
    grown : (x : ℕ) → Contains old x → Contains new x
    grown x c = subst (λ xs. Contains xs x) (sym h.extends) (Contains-append_left old h.rest x c)

    same_at : (k d : ℕ) → k < length old → slice_index_or new k d ≡ slice_index_or old k d
    same_at k d below = ap (λ xs. slice_index_or xs k d) h.extends ∙ get_or_append_left old h.rest d k below

    wider : (x : ℕ) → IsDone rows settled old x → IsDone rows settled new x
    wider x done j l b = met_still settled old new grown j (done j l b)

    done_at : (k d : ℕ) → (k ≡ at) ⊎ ((k < at) ⊎ (at < k)) → k < at + 1 → IsDone rows settled new (slice_index_or new k d)
    done_at k d (inl e) below =
        subst (IsDone rows settled new) (is ∙ get_or_default old at v d more ∙ sym (same_at at d more) ∙ ap (λ n. slice_index_or new n d) (sym e)) h.done
    done_at k d (inr (inl b)) below = subst (IsDone rows settled new) (sym (same_at k d (omega (arith, s.within)))) (wider (slice_index_or old k d) (s.done k d b))
    done_at k d (inr (inr b)) below = absurd (omega arith)

-- once all that was reached is done, a chain leads to what was reached or is past
module _ (rows : List Row) (settled : List Bool) (reached : List ℕ) (closed : (v : ℕ) → Contains reached v → IsDone rows settled reached v) where
  led : (i k : ℕ) → IsDone rows settled reached i → Chain rows i k → k < length rows → Contains reached k ⊎ IsPast rows settled k
  led i k done (step l) h = at (done k l h)
    where
      at : IsMet settled reached k → Contains reached k ⊎ IsPast rows settled k
      at (inl s) = inr (record { from = k; is = s; leads = inl refl })
      at (inr c) = inl c
  led i k done (onward {j = j} l rest) h = at (done j l (starts_within rows j k rest)) (λ c. led j k (closed j c) rest h)
    where
      at : IsMet settled reached j → (Contains reached j → Contains reached k ⊎ IsPast rows settled k) → Contains reached k ⊎ IsPast rows settled k
      at (inl s) more = inr (record { from = j; is = s; leads = inr rest })
      at (inr c) more = more c

pub search_ends : (rows : List Row) (start : ℕ) (settled : List Bool) (at : ℕ) (reached : List ℕ) (seen : List Bool) → Searches rows start settled at reached
    → at ≡ length reached → length seen ≡ length rows → IsMarked seen reached → Reaches rows start settled seen
search_ends rows start settled at reached seen s e sized m = record {
  sized = sized;
  only = λ j on. All-contains (Chain rows start) reached j s.only (m.listed j on);
  whole = λ j h c. marked j (led rows settled reached (λ v r. subst (IsDone rows settled reached) r.2 (s.done r.0 v (omega (arith, r.1)))) start j s.first c h);
}
  where
    marked : (j : ℕ) → Contains reached j ⊎ IsPast rows settled j → IsOn seen j ⊎ IsPast rows settled j
    marked j (inl c) = inl (m.marked j c)
    marked j (inr p) = inr p
