-- Closings hold all that is reached, and stay so from round to round.
use Rattle.std.proofs.Common.{◌≡◌, refl, sym, ap, ◌∙◌, subst, ℕ, ◌⊎◌, inl, inr, List, [], ◌∷◌, ◌++◌, Option, Some, None, Bool, true, append_assoc}
use Rattle.std.proofs.lemmas.List.{append-nil}
use Rattle.std.proofs.lemmas.List.Elements.{Contains-append_cases}
use Rattle.std.proofs.lemmas.Option.{none-some}
use Rattle.wesl_chains.specs.Outlines.{Name, Path, Symbol, Use, Outline, Finder}
use Rattle.wesl_chains.specs.Chains.{Step, stands, leads, lacks, hides, unknown, step_in, next, Outcome, declared_at, unloaded, missing, private, outcome_at, Leads, here, onto, Loops, Ends, comes_to, is_endless, Denotes, by_own, by_item, by_bare}
use Rattle.wesl_chains.specs.Reaching.{Reached, begins, onward, asserted, IsPassedThrough, the_root, by_chain}
use Rattle.wesl_chains.specs.Closings.{Stage, Arrives, Handled, IsClosed, Extends, Grows, ArrivesFrom, SeeksAsked}
use Rattle.wesl_chains.specs.Laws.{ClosedHoldsAll, HandledOnward}
use Rattle.wesl_chains.proofs.Loops.{same_some, leads_then}

module _ (find : Finder) (root : Path) (kept : List Name) (all_begin : Bool) (st : Stage) (c : IsClosed find root kept all_begin st) where
  mutual
    holds : {m : Path} {k : ℕ} → Reached find root kept all_begin m k → st.held m k ≡ true
    holds (begins {m = m} {k = k} b) = c.begun m k b
    holds (onward {m = m} {n = n} {k = k} {j = j} {o = o} {e = e} {u = u} {ps = ps} r at used d) = (c.followed m k o e u (holds r) at used ps (declared_at n j) d).0
    holds (asserted {m = m} {k = k} {o = o} {e = e} p at is) = c.asserting m k o e (passes p) at is

    passes : {m : Path} → IsPassedThrough find root kept all_begin m → st.passed m ≡ true
    passes the_root = c.rooted
    passes (by_chain {m = m} {n = n} {p = p} {k = k} {j = j} {o = o} {e = e} {u = u} {ps = ps} r at used d among) = (c.followed m k o e u (holds r) at used ps (declared_at n j) d).1 p among

pub closed_holds_all : ClosedHoldsAll
closed_holds_all find root kept all_begin st c = record {
  holds = λ m k r. holds find root kept all_begin st c r;
  passes = λ m p. passes find root kept all_begin st c p;
}

-- ---- rounds

-- a step is unknown or not
abbrev is_unknown : Step → Type 0
is_unknown (stands k) = ⊥
is_unknown (leads t) = ⊥
is_unknown lacks = ⊥
is_unknown hides = ⊥
is_unknown unknown = Unit {0}

known_or : (x : Step) → (x ≡ unknown) ⊎ (x ≡ unknown → ⊥)
known_or (stands k) = inr (λ e. subst is_unknown (sym e) tt)
known_or (leads t) = inr (λ e. subst is_unknown (sym e) tt)
known_or lacks = inr (λ e. subst is_unknown (sym e) tt)
known_or hides = inr (λ e. subst is_unknown (sym e) tt)
known_or unknown = inl refl

abbrev not_unloaded : Outcome → Type 0
not_unloaded (declared_at m k) = Unit {0}
not_unloaded (unloaded t) = ⊥
not_unloaded (missing t) = Unit {0}
not_unloaded (private t) = Unit {0}

module _ (before after : Finder) (ext : Extends before after) where
  -- what was known of a symbol stays so
  same_next : (s : Symbol) → (next before s ≡ unknown → ⊥) → next after s ≡ next before s
  same_next s known = at (before s.home) refl
    where
      at : (x : Option Outline) → before s.home ≡ x → next after s ≡ next before s
      at None e = absurd (known (ap (step_in s.name) e))
      at (Some o) e = ap (step_in s.name) (ext s.home o e ∙ sym e)

  -- a chain goes on to where the older modules know no further, or all of it was known
  data Splits (s t : Symbol) (ps : List Path) : Type 0 where
    known : Leads before s ps t → (next before t ≡ unknown → ⊥) → Splits s t ps
    splits : {x : Symbol} {qs rs : List Path} → ps ≡ qs ++ rs → Leads before s qs x → next before x ≡ unknown → Leads after x rs t → Splits s t ps

  split : {s t : Symbol} {ps : List Path} → Leads after s ps t → Splits s t ps
  split (here {s = s}) = at (known_or (next before s))
    where
      at : (next before s ≡ unknown) ⊎ (next before s ≡ unknown → ⊥) → Splits s s []
      at (inl u) = splits refl here u here
      at (inr k) = known here k
  split (onto {s = s} {t = t} {u = u} {ps = ps} e l) = at (known_or (next before s)) (split l)
    where
      at : (next before s ≡ unknown) ⊎ (next before s ≡ unknown → ⊥) → Splits t u ps → Splits s u (s.home ∷ ps)
      at (inl un) rest = splits refl here un (onto e l)
      at (inr k) (known c d) = known (onto (sym (same_next s k) ∙ e) c) d
      at (inr k) (splits {x = x} {qs = qs} {rs = rs} w c un d) = splits (ap (λ z. s.home ∷ z) w) (onto (sym (same_next s k) ∙ e) c) un d

  module _ (old new : Stage) (grows : Grows old new) (seeks : SeeksAsked after old new) (s : Symbol)
      (was : (ps : List Path) (o : Outcome) → Ends before s ps o → Arrives old ps o) where
    -- what was known stays
    stays : (ps : List Path) (o : Outcome) → ((t : Symbol) → o ≡ unloaded t → ⊥) → Arrives old ps o → Arrives new ps o
    stays ps (declared_at n j) other a = (grows.held n j a.0, λ q c. grows.passed q (a.1 q c))
    stays ps (unloaded t) other a = absurd (other t refl)
    stays ps (missing t) other a = grows.lacks_some a
    stays ps (private t) other a = grows.lacks_some a

    -- one that was pending goes on
    joined : (x : Symbol) (qs rs : List Path) (o : Outcome) → Arrives old qs (unloaded x) → Ends after x rs o → Arrives new (qs ++ rs) o
    joined x qs rs o a e = at o (seeks x a.0 rs o e)
      where
        at : (p : Outcome) → ArrivesFrom old x new rs p → Arrives new (qs ++ rs) p
        at (declared_at n j) b = (b.0, λ q c. elim (Contains-append_cases qs rs q c) [ inl d ↦ b.2 q (a.1 q d) | inr d ↦ b.1 q d ])
        at (unloaded t) b = (b.0, λ q c. elim (Contains-append_cases qs rs q c) [ inl d ↦ b.2 q (a.1 q d) | inr d ↦ b.1 q d ])
        at (missing t) b = b
        at (private t) b = b

    none_unknown : (t : Symbol) (x : Step) (more : List Path) (o : Outcome) → (x ≡ unknown → ⊥) → outcome_at t x ≡ Some (more, o) → (u : Symbol) → o ≡ unloaded u → ⊥
    none_unknown t (stands k) more o kn h u e = let f : declared_at t.home k ≡ o = ap (λ z. z.1) (same_some h) in subst not_unloaded (f ∙ e) tt
    none_unknown t (leads v) more o kn h u e = absurd (none-some (more, o) h)
    none_unknown t lacks more o kn h u e = let f : missing t ≡ o = ap (λ z. z.1) (same_some h) in subst not_unloaded (f ∙ e) tt
    none_unknown t hides more o kn h u e = let f : private t ≡ o = ap (λ z. z.1) (same_some h) in subst not_unloaded (f ∙ e) tt
    none_unknown t unknown more o kn h u e = absurd (kn refl)

    stopped : {t : Symbol} {ps more : List Path} {o : Outcome} → Splits s t ps → outcome_at t (next after t) ≡ Some (more, o) → Arrives new (ps ++ more) o
    stopped {t = t} {ps = ps} {more = more} {o = o} (known c k) h =
        let same : outcome_at t (next before t) ≡ Some (more, o) = ap (outcome_at t) (sym (same_next t k)) ∙ h in
        stays (ps ++ more) o (none_unknown t (next before t) more o k same) (was (ps ++ more) o (comes_to c same))
    stopped {t = t} {ps = ps} {more = more} {o = o} (splits {x = x} {qs = qs} {rs = rs} w c un d) h =
        let a : Arrives old qs (unloaded x) = subst (λ l. Arrives old l (unloaded x)) (append-nil qs) (was (qs ++ []) (unloaded x) (comes_to c (ap (outcome_at x) un))) in
        subst (λ l. Arrives new l o) (sym (append_assoc qs rs more) ∙ ap (λ l. l ++ more) (sym w)) (joined x qs (rs ++ more) o a (comes_to d h))

    -- a chain that never ends, in the older modules or only now
    endless : Loops after s → new.lacks_some ≡ true
    endless l = at (split l.onward) (split l.back)
      where
        pending : (x : Symbol) (qs : List Path) → Leads before s qs x → next before x ≡ unknown → Loops after x → new.lacks_some ≡ true
        pending x qs c un m =
            let a : Arrives old qs (unloaded x) = subst (λ l. Arrives old l (unloaded x)) (append-nil qs) (was (qs ++ []) (unloaded x) (comes_to c (ap (outcome_at x) un))) in
            seeks x a.0 [] (missing x) (is_endless m)

        at : Splits s l.there l.before → Splits l.there l.there (l.first ∷ l.more) → new.lacks_some ≡ true
        at (splits {x = x} {qs = qs} {rs = rs} w c un d) back = pending x qs c un (record { there = l.there; before = rs; onward = d; first = l.first; more = l.more; back = l.back })
        at (known c k) (splits {x = x} {qs = qs} {rs = rs} w d un e) =
            pending x (l.before ++ qs) (leads_then before c d) un (record { there = l.there; before = rs; onward = e; first = l.first; more = l.more; back = l.back })
        at (known c k) (known d j) = grows.lacks_some (was [] (missing s) (is_endless (record { there = l.there; before = l.before; onward = c; first = l.first; more = l.more; back = d })))

    handled_item : (ps : List Path) (o : Outcome) → Ends after s ps o → Arrives new ps o
    handled_item ps o (comes_to c h) = stopped (split c) h
    handled_item ps o (is_endless l) = endless l

  module _ (old new : Stage) (grows : Grows old new) (seeks : SeeksAsked after old new) (m : Path) (o : Outline) (u : Use) (was : Handled before old m o u) where
    handled : (ps : List Path) (r : Outcome) → Denotes after m o u ps r → Arrives new ps r
    handled ps r (by_own {k = k} e) = let a = was (m ∷ []) (declared_at m k) (by_own e) in (grows.held m k a.0, λ q c. grows.passed q (a.1 q c))
    handled ps r (by_item {s = s} e c) = handled_item old new grows seeks s (λ qs t d. was qs t (by_item e d)) ps r c
    handled ps r (by_bare {x = x} e) = grows.lacks_some (was [] (missing (record { home = m; name = x })) (by_bare e))

pub handled_onward : HandledOnward
handled_onward before after ext old new grows seeks m o u was ps r d = handled before after ext old new grows seeks m o u was ps r d
