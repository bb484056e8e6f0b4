-- A closure that is called at values in turn, up to its first refusal. What lies behind a refusal is not met.
use Rattle.std.specs.Prelude.{◌≡◌, List, [], ◌∷◌, map, Result, Ok, Err}
use Rattle.std.specs.Borrow.{Bor}

-- what references point to
abbrev pub pointed : {X : Type 0} → List (Bor X) → List X
pointed refs = map (λ x. x.now) refs

-- at each value
pub data CalledInTurn {S X E : Type 0} (step : S → X → Result Unit E → S → Type 0) : S → List X → Result Unit E → S → Type 0 where
  called_none : {s : S} → CalledInTurn step s [] (Ok tt) s
  called_refusal : {s t : S} {x : X} {xs : List X} {e : E} → step s x (Err e) t → CalledInTurn step s (x ∷ xs) (Err e) t
  called_one : {s t u : S} {x : X} {xs : List X} {r : Result Unit E} → step s x (Ok tt) t → CalledInTurn step t xs r u
      → CalledInTurn step s (x ∷ xs) r u

-- at each value, which it may change; the last list has the values as they then are
pub data ChangedInTurn {S X E : Type 0} (step : S → X → Result Unit E → S → X → Type 0) : S → List X → Result Unit E → S → List X → Type 0 where
  changed_none : {s : S} → ChangedInTurn step s [] (Ok tt) s []
  changed_refusal : {s t : S} {x y : X} {xs : List X} {e : E} → step s x (Err e) t y → ChangedInTurn step s (x ∷ xs) (Err e) t (y ∷ xs)
  changed_one : {s t u : S} {x y : X} {xs ys : List X} {r : Result Unit E} → step s x (Ok tt) t y → ChangedInTurn step t xs r u ys
      → ChangedInTurn step s (x ∷ xs) r u (y ∷ ys)

-- at each node, and behind it at the nodes inside it
pub data CalledDeep {S N E : Type 0} (inside : N → List N) (step : S → N → Result Unit E → S → Type 0) : S → List N → Result Unit E → S → Type 0 where
  deep_none : {s : S} → CalledDeep inside step s [] (Ok tt) s
  deep_refusal : {s t : S} {n : N} {ns : List N} {e : E} → step s n (Err e) t → CalledDeep inside step s (n ∷ ns) (Err e) t
  deep_refusal_inside : {s t u : S} {n : N} {ns : List N} {e : E} → step s n (Ok tt) t → CalledDeep inside step t (inside n) (Err e) u
      → CalledDeep inside step s (n ∷ ns) (Err e) u
  deep_one : {s t u v : S} {n : N} {ns : List N} {r : Result Unit E} → step s n (Ok tt) t → CalledDeep inside step t (inside n) (Ok tt) u
      → CalledDeep inside step u ns r v → CalledDeep inside step s (n ∷ ns) r v

-- at the nodes inside each node, and behind these at the node itself as it then is. What the closure leaves of a node is not entered.
-- `around` is all of a node but the nodes inside it, which stays until the closure is called at the node.
pub data ChangedDeep {S N E B : Type 0} (inside : N → List N) (around : N → B) (step : S → N → Result Unit E → S → N → Type 0)
    : S → List N → Result Unit E → S → List N → Type 0 where
  remade_none : {s : S} → ChangedDeep inside around step s [] (Ok tt) s []
  remade_refusal_inside : {s t : S} {n m : N} {ns : List N} {e : E} → ChangedDeep inside around step s (inside n) (Err e) t (inside m)
      → around m ≡ around n → ChangedDeep inside around step s (n ∷ ns) (Err e) t (m ∷ ns)
  remade_refusal : {s t u : S} {n m k : N} {ns : List N} {e : E} → ChangedDeep inside around step s (inside n) (Ok tt) t (inside m)
      → around m ≡ around n → step t m (Err e) u k → ChangedDeep inside around step s (n ∷ ns) (Err e) u (k ∷ ns)
  remade_one : {s t u v : S} {n m k : N} {ns ks : List N} {r : Result Unit E} → ChangedDeep inside around step s (inside n) (Ok tt) t (inside m)
      → around m ≡ around n → step t m (Ok tt) u k → ChangedDeep inside around step u ns r v ks → ChangedDeep inside around step s (n ∷ ns) r v (k ∷ ks)
