-- Calls in turn over two lists, one behind the other.
use Rattle.std.proofs.Common.{List, [], ◌∷◌, ◌++◌, Result, Ok, Err}
use Rattle.wesl_visit_children.specs.Turns.{CalledInTurn, called_none, called_refusal, called_one, ChangedInTurn, changed_none, changed_refusal, changed_one}

module _ {S X E : Type 0} (step : S → X → Result Unit E → S → Type 0) where
  pub met_both : {s t u : S} {xs ys : List X} {r : Result Unit E} → CalledInTurn step s xs (Ok tt) t → CalledInTurn step t ys r u → CalledInTurn step s (xs ++ ys) r u
  met_both called_none h = h
  met_both (called_one a b) h = called_one a (met_both b h)

  pub met_refusal_first : {s t : S} {xs : List X} {e : E} (ys : List X) → CalledInTurn step s xs (Err e) t → CalledInTurn step s (xs ++ ys) (Err e) t
  met_refusal_first ys (called_refusal a) = called_refusal a
  met_refusal_first ys (called_one a b) = called_one a (met_refusal_first ys b)

  pub met_single : (s t : S) (x : X) (r : Result Unit E) → step s x r t → CalledInTurn step s (x ∷ []) r t
  met_single s t x (Ok v) a = called_one a called_none
  met_single s t x (Err e) a = called_refusal a

module _ {S X E : Type 0} (step : S → X → Result Unit E → S → X → Type 0) where
  pub changed_both : {s t u : S} {xs ys vs ws : List X} {r : Result Unit E} → ChangedInTurn step s xs (Ok tt) t vs → ChangedInTurn step t ys r u ws
      → ChangedInTurn step s (xs ++ ys) r u (vs ++ ws)
  changed_both changed_none h = h
  changed_both (changed_one a b) h = changed_one a (changed_both b h)

  pub changed_refusal_first : {s t : S} {xs vs : List X} {e : E} (ys : List X) → ChangedInTurn step s xs (Err e) t vs → ChangedInTurn step s (xs ++ ys) (Err e) t (vs ++ ys)
  changed_refusal_first ys (changed_refusal a) = changed_refusal a
  changed_refusal_first ys (changed_one a b) = changed_one a (changed_refusal_first ys b)

  pub changed_single : (s t : S) (x y : X) (r : Result Unit E) → step s x r t y → ChangedInTurn step s (x ∷ []) r t (y ∷ [])
  changed_single s t x y (Ok v) a = changed_one a changed_none
  changed_single s t x y (Err e) a = changed_refusal a
