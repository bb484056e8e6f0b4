-- A list has one start order.
use Rattle.std.proofs.Common.{◌≡◌, List, ◌∷◌, refl, sym, ap, ◌∙◌, subst}
use Rattle.core_order.specs.Order.{Selects, nothing_left, takes, leaves, Progress, beginning, ending, Starts, none_left, passes, starts, nothing_yet, IsStartOrder}

-- what P selects of a list is one list
pub selected_once : {A : Type 0} (P : A → Type 0) (xs ys zs : List A) → Selects P xs ys → Selects P xs zs → ys ≡ zs
selected_once P xs ys zs nothing_left nothing_left = refl
selected_once P xs ys zs (takes {x = x} {xs = more} {ys = kept} p a) (takes {ys = others} q b) = ap (λ l. x ∷ l) (selected_once P more kept others a b)
selected_once P xs ys zs (takes p a) (leaves q b) = absurd (q p)
selected_once P xs ys zs (leaves q a) (takes p b) = absurd (q p)
selected_once P xs ys zs (leaves {xs = more} {ys = kept} p a) (leaves {ys = others} q b) = selected_once P more kept others a b

module _ {A : Type 0} (Reaches : A → A → Type 0) (all : List A) where
  pub started_once : (p q r : Progress A) (xs : List A) → Starts Reaches all p xs q → Starts Reaches all p xs r → q ≡ r
  started_once p q r xs none_left none_left = refl
  started_once p q r xs (passes {p = p0} {q = q0} {x = x} {xs = more} c a) (passes {q = r0} d b) = started_once p0 q0 r0 more a b
  started_once p q r xs (passes c a) (starts reached fresh s b d) = absurd (fresh c)
  started_once p q r xs (starts reached fresh s b d) (passes c a) = absurd (fresh c)
  started_once p q r xs (starts {p = p0} {q = q0} {r = r0} {x = x} {xs = more} reached fresh s a b) (starts {q = q1} {r = r1} reached1 fresh1 s1 a1 b1) =
      let same : reached ≡ reached1 = selected_once (Reaches x) all reached reached1 s s1 in
      let mid : q0 ≡ q1 = started_once (beginning x p0) q0 q1 reached a (subst (λ l. Starts Reaches all (beginning x p0) l q1) (sym same) a1) in
      started_once (ending x q0) r0 r1 more b (subst (λ m. Starts Reaches all (ending x m) more r1) (sym mid) b1)

  pub orders_are_one : (a b : List A) → IsStartOrder Reaches all a → IsStartOrder Reaches all b → a ≡ b
  orders_are_one a b s t =
      sym s.whole ∙ ap (λ p. p.started) (started_once (nothing_yet Reaches all) s.progress t.progress all s.comes t.comes) ∙ t.whole
