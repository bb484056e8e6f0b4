-- Deep calls over two lists, one behind the other.
use Rattle.std.proofs.Common.{◌≡◌, refl, sym, subst, List, [], ◌∷◌, ◌++◌, Result, Ok, Err}
use Rattle.wesl_visit_children.specs.Turns.{CalledDeep, deep_none, deep_refusal, deep_refusal_inside, deep_one, ChangedInTurn, changed_none, changed_refusal, changed_one, ChangedDeep, remade_none, remade_refusal_inside, remade_refusal, remade_one}

module _ {S N E : Type 0} (inside : N → List N) (step : S → N → Result Unit E → S → Type 0) where
  pub met_both : {s t u : S} {xs ys : List N} {r : Result Unit E} → CalledDeep inside step s xs (Ok tt) t → CalledDeep inside step t ys r u → CalledDeep inside step s (xs ++ ys) r u
  met_both deep_none h = h
  met_both (deep_one a b c) h = deep_one a b (met_both c h)

  pub met_refusal_first : {s t : S} {xs : List N} {e : E} (ys : List N) → CalledDeep inside step s xs (Err e) t → CalledDeep inside step s (xs ++ ys) (Err e) t
  met_refusal_first ys (deep_refusal a) = deep_refusal a
  met_refusal_first ys (deep_refusal_inside a b) = deep_refusal_inside a b
  met_refusal_first ys (deep_one a b c) = deep_one a b (met_refusal_first ys c)

module _ {S N E B : Type 0} (inside : N → List N) (around : N → B) (step : S → N → Result Unit E → S → N → Type 0) where
  pub changed_both : {s t u : S} {xs ys vs ws : List N} {r : Result Unit E} → ChangedDeep inside around step s xs (Ok tt) t vs → ChangedDeep inside around step t ys r u ws
      → ChangedDeep inside around step s (xs ++ ys) r u (vs ++ ws)
  changed_both remade_none h = h
  changed_both (remade_one a b c d) h = remade_one a b c (changed_both d h)

  pub changed_refusal_first : {s t : S} {xs vs : List N} {e : E} (ys : List N) → ChangedDeep inside around step s xs (Err e) t vs → ChangedDeep inside around step s (xs ++ ys) (Err e) t (vs ++ ys)
  changed_refusal_first ys (remade_refusal_inside a b) = remade_refusal_inside a b
  changed_refusal_first ys (remade_refusal a b c) = remade_refusal a b c
  changed_refusal_first ys (remade_one a b c d) = remade_one a b c (changed_refusal_first ys d)

  pub nothing_changes : {s t : S} {vs : List N} {r : Result Unit E} → ChangedDeep inside around step s [] r t vs → s ≡ t
  nothing_changes remade_none = refl

moved : {S N E : Type 0} (step : S → N → Result Unit E → S → N → Type 0) (s t u : S) (n m k : N) (r : Result Unit E) → s ≡ t → m ≡ n → step t m r u k → step s n r u k
moved step s t u n m k r p q h = subst (λ x. step x n r u k) (sym p) (subst (λ x. step t x r u k) q h)

-- A visit that enters no node calls at each in turn.
pub shallow : {S N E : Type 0} (step : S → N → Result Unit E → S → N → Type 0) {s t : S} {xs ys : List N} {r : Result Unit E}
    → ChangedDeep (λ n. []) (λ n. n) step s xs r t ys → ChangedInTurn step s xs r t ys
shallow step remade_none = changed_none
shallow step (remade_refusal_inside a b) = elim a [ ]
shallow step (remade_refusal a b c) = changed_refusal (moved step _ _ _ _ _ _ _ (nothing_changes (λ n. []) (λ n. n) step a) b c)
shallow step (remade_one a b c d) = changed_one (moved step _ _ _ _ _ _ _ (nothing_changes (λ n. []) (λ n. n) step a) b c) (shallow step d)

-- the same visit of lists that are told otherwise
pub changed_as : {S N E B : Type 0} (inside : N → List N) (around : N → B) (step : S → N → Result Unit E → S → N → Type 0) {s t : S} {r : Result Unit E} {xs ys vs ws : List N}
    → xs ≡ ys → vs ≡ ws → ChangedDeep inside around step s xs r t vs → ChangedDeep inside around step s ys r t ws
changed_as inside around step {s = s} {t = t} {r = r} {xs = xs} {ys = ys} {vs = vs} {ws = ws} p q h =
    subst (λ zs. ChangedDeep inside around step s ys r t zs) q (subst (λ zs. ChangedDeep inside around step s zs r t vs) p h)

-- ---- at one node

pub met_node : {S N E : Type 0} (inside : N → List N) (step : S → N → Result Unit E → S → Type 0) (s t u : S) (n : N) (r : Result Unit E) → step s n (Ok tt) t
    → CalledDeep inside step t (inside n) r u → CalledDeep inside step s (n ∷ []) r u
met_node inside step s t u n (Ok x) a b = deep_one a b deep_none
met_node inside step s t u n (Err e) a b = deep_refusal_inside a b

pub changed_node : {S N E B : Type 0} (inside : N → List N) (around : N → B) (step : S → N → Result Unit E → S → N → Type 0) (s t u : S) (n m k : N) (r : Result Unit E)
    → ChangedDeep inside around step s (inside n) (Ok tt) t (inside m) → around m ≡ around n → step t m r u k → ChangedDeep inside around step s (n ∷ []) r u (k ∷ [])
changed_node inside around step s t u n m k (Ok x) a b c = remade_one a b c remade_none
changed_node inside around step s t u n m k (Err e) a b c = remade_refusal a b c

pub ruleset met_turns = (met_both, met_refusal_first, deep_none, deep_refusal, deep_refusal_inside, deep_one)

pub ruleset changed_turns = (changed_both, changed_refusal_first, remade_none, remade_refusal_inside, remade_refusal, remade_one)
