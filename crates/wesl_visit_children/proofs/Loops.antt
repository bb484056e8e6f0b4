-- A loop over a list whose elements have attributes, each in turn.
use Rattle.std.proofs.Common.{◌≡◌, sym, ap, ◌∙◌, subst, ℕ, ◌+◌, ◌<◌, ◌≤◌, arith, List, ◌++◌, length, take, drop, get_or, set, Result, Ok, Err}
use Rattle.std.specs.List.{flat_map}
use Rattle.std.proofs.lemmas.List.{take_all}
use Rattle.wesl_visit_children.proofs.Lists.{parts_more, parts_at, set_more, set_at, later_list}
use Rattle.wesl_visit_children.specs.Turns.{CalledInTurn, ChangedInTurn}
use Rattle.wesl_visit_children.proofs.TurnsLemmas.{met_both, met_refusal_first, changed_both, changed_refusal_first}

module _ {S N E X : Type 0} (step : S → N → Result Unit E → S → Type 0) (g : X → List N) where
  pub met_more : (s t u : S) (xs : List X) (i : ℕ) (x : X) → i < length xs → x ≡ get_or xs i x → CalledInTurn step s (flat_map g (take i xs)) (Ok tt) t
      → CalledInTurn step t (g x) (Ok tt) u → CalledInTurn step s (flat_map g (take (i + 1) xs)) (Ok tt) u
  met_more s t u xs i x lt is before here =
      subst (λ ns. CalledInTurn step s ns (Ok tt) u) (parts_more g xs i x lt is) (met_both step before here)

  pub met_refusal_at : (s t u : S) (e : E) (xs : List X) (i : ℕ) (x : X) → i < length xs → x ≡ get_or xs i x → CalledInTurn step s (flat_map g (take i xs)) (Ok tt) t
      → CalledInTurn step t (g x) (Err e) u → CalledInTurn step s (flat_map g xs) (Err e) u
  met_refusal_at s t u e xs i x lt is before here =
      subst (λ ns. CalledInTurn step s ns (Err e) u) (parts_at g xs i x lt is)
      (met_refusal_first step (flat_map g (drop (i + 1) xs)) (met_both step before here))

  pub met_all : (s t : S) (xs : List X) (i : ℕ) → length xs ≤ i → CalledInTurn step s (flat_map g (take i xs)) (Ok tt) t → CalledInTurn step s (flat_map g xs) (Ok tt) t
  met_all s t xs i le before = subst (λ ys. CalledInTurn step s (flat_map g ys) (Ok tt) t) (take_all i xs le) before

module _ {S N E X : Type 0} (step : S → N → Result Unit E → S → N → Type 0) (g : X → List N) where
  retold : {s t : S} {r : Result Unit E} (xs ys vs ws : List N) → xs ≡ ys → vs ≡ ws → ChangedInTurn step s xs r t vs → ChangedInTurn step s ys r t ws
  retold {s = s} {t = t} {r = r} xs ys vs ws p q h =
      subst (λ zs. ChangedInTurn step s ys r t zs) q (subst (λ zs. ChangedInTurn step s zs r t vs) p h)

  pub changed_more : (s t u : S) (old cur : List X) (i : ℕ) (x y : X) → i < length cur → length cur ≡ length old → x ≡ get_or cur i x
      → ((k : ℕ) (d : X) → i ≤ k → get_or cur k d ≡ get_or old k d) → ChangedInTurn step s (flat_map g (take i old)) (Ok tt) t (flat_map g (take i cur))
      → ChangedInTurn step t (g x) (Ok tt) u (g y) → ChangedInTurn step s (flat_map g (take (i + 1) old)) (Ok tt) u (flat_map g (take (i + 1) (set cur i y)))
  changed_more s t u old cur i x y lt long is later before here =
      retold _ _ _ _ (parts_more g old i x (subst (λ n. i < n) long lt) (is ∙ later i x (omega arith))) (set_more g cur i y lt) (changed_both step before here)

  pub changed_refusal_at : (s t u : S) (e : E) (old cur : List X) (i : ℕ) (x y : X) → i < length cur → length cur ≡ length old → x ≡ get_or cur i x
      → ((k : ℕ) (d : X) → i ≤ k → get_or cur k d ≡ get_or old k d) → ChangedInTurn step s (flat_map g (take i old)) (Ok tt) t (flat_map g (take i cur))
      → ChangedInTurn step t (g x) (Err e) u (g y) → ChangedInTurn step s (flat_map g old) (Err e) u (flat_map g (set cur i y))
  changed_refusal_at s t u e old cur i x y lt long is later before here =
      retold _ _ _ _ (parts_at g old i x (subst (λ n. i < n) long lt) (is ∙ later i x (omega arith)))
      (ap (λ zs. (flat_map g (take i cur) ++ g y) ++ flat_map g zs) (sym (later_list old cur i long later)) ∙ set_at g cur i y lt)
      (changed_refusal_first step (flat_map g (drop (i + 1) old)) (changed_both step before here))

  pub changed_all : (s t : S) (old cur : List X) (i : ℕ) → length cur ≤ i → length cur ≡ length old → ChangedInTurn step s (flat_map g (take i old)) (Ok tt) t (flat_map g (take i cur))
      → ChangedInTurn step s (flat_map g old) (Ok tt) t (flat_map g cur)
  changed_all s t old cur i le long before =
      retold _ _ _ _ (ap (flat_map g) (take_all i old (subst (λ n. n ≤ i) long le))) (ap (flat_map g) (take_all i cur le)) before
