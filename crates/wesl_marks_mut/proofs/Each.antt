-- A list is written one by one.
use Rattle.std.proofs.Common.{◌≡◌, refl, ap, ◌∙◌, subst, ℕ, suc, ◌+◌, ◌<◌, ◌≤◌, List, [], ◌∷◌, map, length, get_or, set, arith}
use Rattle.std.proofs.lemmas.Grind.{common_steps}
use Rattle.wgsl_expressions.specs.Tree.{Exp, Exps, cons, exps}
use Rattle.wesl_marks_mut.specs.Walks.{each}
use Rattle.wesl_marks_mut.specs.Written.{Left, written, all_written}

module _ {T S : Type 0} (w : T → S → T × S) where
  -- so many are written; what is behind them is as it was
  module _ {X : Type 0} (tree : X → T) where
    pub data Wrote : ℕ → List X → List X → S → S → Type 0 where
      none_yet : {xs : List X} {s : S} → Wrote 0 xs xs s s
      one_more : {i : ℕ} {x y : X} {xs ys : List X} {s t u : S} → (tree y, t) ≡ w (tree x) s → Wrote i xs ys t u → Wrote (suc i) (x ∷ xs) (y ∷ ys) s u

    first_written : (ys : List X) (s u : S) (x y : X) → 0 < length ys → x ≡ get_or ys 0 x → (tree y, u) ≡ w (tree x) s → Wrote 1 ys (set ys 0 y) s u
    first_written [] s u x y less is e = absurd (omega arith)
    first_written (z ∷ zs) s u x y less is e = one_more (subst (λ v. (tree y, u) ≡ w (tree v) s) is e) none_yet

    wrote_on : {i : ℕ} {xs ys : List X} {s t : S} → Wrote i xs ys s t → (u : S) (x y : X) → i < length ys → x ≡ get_or ys i x → (tree y, u) ≡ w (tree x) t → Wrote (suc i) xs (set ys i y) s u
    wrote_on (none_yet {xs = xs} {s = s}) u x y less is e = first_written xs s u x y less is e
    wrote_on (one_more {i = i} {ys = ys} f r) u x y less is e = let fewer : i < length ys = omega (arith, less) in one_more f (wrote_on r u x y fewer is e)

    pub wrote_more : (i : ℕ) (xs ys : List X) (s t u : S) (x y : X) → Wrote i xs ys s t → i < length ys → x ≡ get_or ys i x → (tree y, u) ≡ w (tree x) t → Wrote (i + 1) xs (set ys i y) s u
    wrote_more i xs ys s t u x y r less is e = let same : suc i ≡ i + 1 = omega arith in subst (λ n. Wrote n xs (set ys i y) s u) same (wrote_on r u x y less is e)

    all_same : (xs : List X) (s : S) → length xs ≤ 0 → (map tree xs, s) ≡ each w (map tree xs) s
    all_same [] s less = refl
    all_same (x ∷ xs) s less = absurd (omega arith)

    pub wrote_all : {i : ℕ} {xs ys : List X} {s t : S} → Wrote i xs ys s t → length xs ≤ i → (map tree ys, t) ≡ each w (map tree xs) s
    wrote_all (none_yet {xs = xs} {s = s}) less = all_same xs s less
    wrote_all (one_more {i = i} {y = y} {xs = xs} {ys = ys} {u = u} f r) less =
        let fewer : length xs ≤ i = omega (arith, less) in
        let rest = subst (λ v. (map tree ys, u) ≡ each w (map tree xs) v) (ap (λ p. p.1) f) (wrote_all r fewer) in
        λ k. ((f k).0 ∷ (rest k).0, (rest k).1)

-- ---- lists of expressions

pub exps_written : (xs : List Exp) (s : Left) → (let r = each written xs s in (exps r.0, r.1)) ≡ all_written (exps xs) s
exps_written [] s = refl
exps_written (x ∷ xs) s = let a = written x s in ap (λ r. (cons a.0 r.0, r.1)) (exps_written xs a.1)

-- a list of which all is written
pub list_written : {X : Type 0} (tree : X → Exp) {i : ℕ} {xs ys : List X} {s t : Left} → Wrote written tree i xs ys s t → length xs ≤ i
    → (let r : Exps × Left = (exps (map tree ys), t) in r) ≡ all_written (exps (map tree xs)) s
list_written tree {xs = xs} {s = s} r less = ap (λ p. (exps p.0, p.1)) (wrote_all written tree r less) ∙ exps_written (map tree xs) s

pub later_same : {X : Type 0} (xs ys : List X) (i : ℕ) (y : X) → ((k : ℕ) (d : X) → i ≤ k → get_or ys k d ≡ get_or xs k d) → (k : ℕ) (d : X) → i + 1 ≤ k → get_or (set ys i y) k d ≡ get_or xs k d
later_same xs ys i y h k d le = let g = h k d in grind (arith, common_steps, g)
