-- Whether a chain of mentions leads from one declaration to another: it does, or it doesn't.
use Rattle.std.proofs.Common.{◌≡◌, ◌⊎◌, inl, inr, ℕ, zero, suc, ◌<◌, List, [], ◌∷◌, length, Option, Some, None, refl, sym, ap, ◌∙◌, subst, arith}
use Rattle.std.specs.Prelude.{slice_get}
use Rattle.std.specs.List.{Contains}
use Rattle.std.proofs.lemmas.Bool.{cases_order}
use Rattle.std.proofs.lemmas.Option.{none-some}
use Rattle.wgsl_base.proofs.Members.{first_in, later_in, in_cases}
use Rattle.core_validate.specs.declared.place.Meaning.{Meaning}
use Rattle.core_validate.specs.declared.place.Meaning.TheVariants.{Local, Global, Free}
use Rattle.core_validate.specs.declared.place.Place.{Place}
use Rattle.core_validate.specs.declared.place.Row.{Row}
use Rattle.core_validate.specs.Rings.{Leads, Chain, step, onward}
use Rattle.core_validate.specs.Searches.{Targets}
use Rattle.core_validate.proofs.SearchLemmas.{targets_none, lead_to, led_from, starts_within}

-- it holds, or it doesn't
abbrev pub Decided : Type 0 → Type 0
Decided P = P ⊎ (P → ⊥)

either_decided : {P Q : Type 0} → Decided P → Decided Q → Decided (P ⊎ Q)
either_decided (inl p) d = inl (inl p)
either_decided (inr n) (inl q) = inl (inr q)
either_decided {P = P} {Q = Q} (inr n) (inr m) = inr none
  where
    none : P ⊎ Q → ⊥
    none (inl p) = n p
    none (inr q) = m q

both_decided : {P Q : Type 0} → Decided P → Decided Q → Decided (P × Q)
both_decided (inl p) (inl q) = inl (p, q)
both_decided (inl p) (inr m) = inr (λ h. m h.1)
both_decided (inr n) d = inr (λ h. n h.0)

-- ---- one mention

meaning_decided : (m : Meaning) (j : ℕ) → Decided (m ≡ Global j)
meaning_decided Local j = inr (λ e. cc)
meaning_decided Free j = inr (λ e. cc)
meaning_decided (Global i) j = at (cases_order i j)
  where
    at : (i ≡ j) ⊎ ((i < j) ⊎ (j < i)) → Decided (Global i ≡ Global j)
    at (inl e) = inl (ap Global e)
    at (inr (inl b)) = inr (λ h. let e : i ≡ j = cc in absurd (omega arith))
    at (inr (inr b)) = inr (λ h. let e : i ≡ j = cc in absurd (omega arith))

targets_decided : (ps : List Place) (j : ℕ) → Decided (Targets ps j)
targets_decided [] j = inr (targets_none j)
targets_decided (p ∷ ps) j = at (meaning_decided p.meaning j) (targets_decided ps j)
  where
    cases : (t : Targets (p ∷ ps) j) → (p ≡ t.place) ⊎ Contains ps t.place → (p.meaning ≡ Global j) ⊎ Targets ps j
    cases t (inl e) = inl (ap (λ q. q.meaning) e ∙ t.denotes)
    cases t (inr c) = inr (record { place = t.place; occurs = c; denotes = t.denotes })

    none : (p.meaning ≡ Global j → ⊥) → (Targets ps j → ⊥) → (p.meaning ≡ Global j) ⊎ Targets ps j → ⊥
    none n m (inl e) = n e
    none n m (inr t) = m t

    at : Decided (p.meaning ≡ Global j) → Decided (Targets ps j) → Decided (Targets (p ∷ ps) j)
    at (inl e) d = inl (record { place = p; occurs = first_in p ps; denotes = e })
    at (inr n) (inl t) = inl (record { place = t.place; occurs = later_in t.place p ps t.occurs; denotes = t.denotes })
    at (inr n) (inr m) = inr (λ t. none n m (cases t (in_cases p ps t.place t.occurs)))

leads_decided : (rows : List Row) (i j : ℕ) → Decided (Leads rows i j)
leads_decided rows i j = at (slice_get rows i) refl
  where
    there : (row : Row) → slice_get rows i ≡ Some row → Decided (Targets row.places j) → Decided (Leads rows i j)
    there row e (inl t) = inl (lead_to rows i j row e t)
    there row e (inr n) = inr (λ l. n (led_from rows i j row e l))

    at : (o : Option Row) → slice_get rows i ≡ o → Decided (Leads rows i j)
    at None e = inr (λ l. none-some l.row (sym e ∙ l.stands))
    at (Some row) e = there row e (targets_decided row.places j)

-- ---- chains

pub chain_append : (rows : List Row) (i m j : ℕ) → Chain rows i m → Chain rows m j → Chain rows i j
chain_append rows i m j (step l) d = onward l d
chain_append rows i m j (onward {j = k} l c) d = onward l (chain_append rows k m j c d)

-- a chain that passes through declarations below k alone
abbrev Via : List Row → ℕ → ℕ → ℕ → Type 0
Via rows zero i j = Leads rows i j
Via rows (suc k) i j = Via rows k i j ⊎ (Via rows k i k × Via rows k k j)

via_decided : (rows : List Row) (k i j : ℕ) → Decided (Via rows k i j)
via_decided rows zero i j = leads_decided rows i j
via_decided rows (suc k) i j = either_decided (via_decided rows k i j) (both_decided (via_decided rows k i k) (via_decided rows k k j))

via_chain : (rows : List Row) (k i j : ℕ) → Via rows k i j → Chain rows i j
via_chain rows zero i j l = step l
via_chain rows (suc k) i j (inl v) = via_chain rows k i j v
via_chain rows (suc k) i j (inr v) = chain_append rows i k j (via_chain rows k i k v.0) (via_chain rows k k j v.1)

via_step : (rows : List Row) (k i j : ℕ) → Leads rows i j → Via rows k i j
via_step rows zero i j l = l
via_step rows (suc k) i j l = inl (via_step rows k i j l)

-- to the last declaration that may be passed through, and from it
via_last : (rows : List Row) (k i j : ℕ) → Via rows (suc k) i k → Via rows (suc k) k j → Via rows (suc k) i j
via_last rows k i j a b = inr (to a, from b)
  where
    to : Via rows (suc k) i k → Via rows k i k
    to (inl v) = v
    to (inr v) = v.0

    from : Via rows (suc k) k j → Via rows k k j
    from (inl v) = v
    from (inr v) = v.1

via_join : (rows : List Row) (k i m j : ℕ) → m < k → Via rows k i m → Via rows k m j → Via rows k i j
via_join rows zero i m j below a b = absurd (omega arith)
via_join rows (suc k) i m j below a b = at (cases_order m k) (λ n f t. via_join rows k f n t)
  where
    cases : m < k → ((f t : ℕ) → Via rows k f m → Via rows k m t → Via rows k f t) → Via rows (suc k) i m → Via rows (suc k) m j → Via rows (suc k) i j
    cases h join (inl v) (inl w) = inl (join i j v w)
    cases h join (inl v) (inr w) = inr (join i k v w.0, w.1)
    cases h join (inr v) (inl w) = inr (v.0, join k j v.1 w)
    cases h join (inr v) (inr w) = inr (v.0, w.1)

    at : (m ≡ k) ⊎ ((m < k) ⊎ (k < m)) → ((n f t : ℕ) → n < k → Via rows k f n → Via rows k n t → Via rows k f t) → Via rows (suc k) i j
    at (inl e) join = via_last rows k i j (subst (λ n. Via rows (suc k) i n) e a) (subst (λ n. Via rows (suc k) n j) e b)
    at (inr (inl h)) join = cases h (λ f t v w. join m f t h v w) a b
    at (inr (inr h)) join = absurd (omega arith)

chain_via : (rows : List Row) (i j : ℕ) → Chain rows i j → Via rows (length rows) i j
chain_via rows i j (step l) = via_step rows (length rows) i j l
chain_via rows i j (onward {j = m} l c) =
    via_join rows (length rows) i m j (starts_within rows m j c) (via_step rows (length rows) i m l) (chain_via rows m j c)

pub chain_decided : (rows : List Row) (i j : ℕ) → Decided (Chain rows i j)
chain_decided rows i j = at (via_decided rows (length rows) i j)
  where
    at : Decided (Via rows (length rows) i j) → Decided (Chain rows i j)
    at (inl v) = inl (via_chain rows (length rows) i j v)
    at (inr n) = inr (λ c. n (chain_via rows i j c))
