-- Orders of the start of two lists whose elements correspond, one by one.
use Rattle.std.proofs.Common.{◌≡◌, ◌⊎◌, inl, inr, ◌↔◌, List, [], ◌∷◌, ◌++◌, refl, subst, Contains}
use Rattle.wgsl_base.proofs.Members.{first_in, later_in, in_cases, in_none}
use Rattle.core_order.specs.Order.{Progress, beginning, ending, Selects, nothing_left, takes, leaves, Starts, none_left, passes, starts, nothing_yet, IsStartOrder}

-- lists whose elements are related one by one
pub data Both {A B : Type 0} (E : A → B → Type 0) : List A → List B → Type 0 where
  no_more : Both E [] []
  one_more : {x : A} {y : B} {xs : List A} {ys : List B} → E x y → Both E xs ys → Both E (x ∷ xs) (y ∷ ys)

pub both_behind : {A B : Type 0} (E : A → B → Type 0) (xs : List A) (ys : List B) (x : A) (y : B) → Both E xs ys → E x y → Both E (xs ++ x ∷ []) (ys ++ y ∷ [])
both_behind E xs ys x y no_more e = one_more e no_more
both_behind E xs ys x y (one_more {xs = xs'} {ys = ys'} f rest) e = one_more f (both_behind E xs' ys' x y rest e)

-- one: what corresponds to one is one. reach: chains correspond
module _ {A B : Type 0} (E : A → B → Type 0) (RA : A → A → Type 0) (RB : B → B → Type 0)
    (one : (x : A) (y z : B) → E x y → E x z → y ≡ z) (other : (x w : A) (y : B) → E x y → E w y → x ≡ w)
    (reach : (x w : A) (y z : B) → E x y → E w z → RA x w ↔ RB y z) where
  contained : (xs : List A) (ys : List B) → Both E xs ys → (x : A) (y : B) → E x y → Contains xs x → Contains ys y
  contained xs ys no_more x y e c = absurd (in_none x c)
  contained xs ys (one_more {x = a} {y = b} {xs = xs'} {ys = ys'} f rest) x y e c = at (contained xs' ys' rest x y e) (in_cases a xs' x c)
    where
      at : (Contains xs' x → Contains ys' y) → (a ≡ x) ⊎ Contains xs' x → Contains (b ∷ ys') y
      at more (inl same) = subst (Contains (b ∷ ys')) (one x b y (subst (λ z. E z b) same f) e) (first_in b ys')
      at more (inr d) = later_in y b ys' (more d)

  contained_back : (xs : List A) (ys : List B) → Both E xs ys → (x : A) (y : B) → E x y → Contains ys y → Contains xs x
  contained_back xs ys no_more x y e c = absurd (in_none y c)
  contained_back xs ys (one_more {x = a} {y = b} {xs = xs'} {ys = ys'} f rest) x y e c = at (contained_back xs' ys' rest x y e) (in_cases b ys' y c)
    where
      at : (Contains ys' y → Contains xs' x) → (b ≡ y) ⊎ Contains ys' y → Contains (a ∷ xs') x
      at more (inl same) = subst (Contains (a ∷ xs')) (other a x y (subst (λ z. E a z) same f) e) (first_in a xs')
      at more (inr d) = later_in x a xs' (more d)

  pub record Chosen (x : A) (y : B) (all' : List B) (reached : List A) : Type 0 where
    pub chosen : List B
    pub both : Both E reached chosen
    pub selects : Selects (RB y) all' chosen

  chosen_of : (x : A) (y : B) → E x y → (all : List A) (all' : List B) → Both E all all' → (reached : List A) → Selects (RA x) all reached → Chosen x y all' reached
  chosen_of x y e all all' no_more reached nothing_left = record { chosen = []; both = no_more; selects = nothing_left }
  chosen_of x y e all all' (one_more {x = a} {y = b} {xs = xs'} {ys = ys'} f rest) reached (takes {ys = others} r s) =
      let more = chosen_of x y e xs' ys' rest others s in
      record { chosen = b ∷ more.chosen; both = one_more f more.both; selects = takes ((reach x a y b e f).0 r) more.selects }
  chosen_of x y e all all' (one_more {x = a} {y = b} {xs = xs'} {ys = ys'} f rest) reached (leaves n s) =
      let more = chosen_of x y e xs' ys' rest reached s in
      record { chosen = more.chosen; both = more.both; selects = leaves (λ r. n ((reach x a y b e f).1 r)) more.selects }

  pub record Alike (p : Progress A) (q : Progress B) : Type 0 where
    pub begun : Both E p.begun q.begun
    pub started : Both E p.started q.started

  pub record Reached (all' : List B) (from : Progress B) (ys : List B) (to : Progress A) : Type 0 where
    pub progress : Progress B
    pub alike : Alike to progress
    pub comes : Starts RB all' from ys progress

  module _ (all : List A) (all' : List B) (both : Both E all all') where
    starts_alike : (p q : Progress A) (p' : Progress B) (xs : List A) (ys : List B) → Alike p p' → Both E xs ys → Starts RA all p xs q → Reached all' p' ys q
    starts_alike p q p' xs ys h no_more none_left = record { progress = p'; alike = h; comes = none_left }
    starts_alike p q p' xs ys h (one_more {x = x} {y = y} {xs = xs'} {ys = ys'} e rest) (passes c s) =
        let more = starts_alike p q p' xs' ys' h rest s in
        record { progress = more.progress; alike = more.alike; comes = passes (contained p.begun p'.begun h.begun x y e c) more.comes }
    starts_alike p q p' xs ys h (one_more {x = x} {y = y} {xs = xs'} {ys = ys'} e rest) (starts {q = between} reached n sel s t) =
        let first = chosen_of x y e all all' both reached sel in
        let begins : Alike (beginning x p) (beginning y p') = record { begun = both_behind E p.begun p'.begun x y h.begun e; started = h.started } in
        let inner = starts_alike (beginning x p) between (beginning y p') reached first.chosen begins first.both s in
        let ends : Alike (ending x between) (ending y inner.progress) = record { begun = inner.alike.begun; started = both_behind E between.started inner.progress.started x y inner.alike.started e } in
        let more = starts_alike (ending x between) q (ending y inner.progress) xs' ys' ends rest t in
        record {
          progress = more.progress;
          alike = more.alike;
          comes = starts first.chosen (λ c. n (contained_back p.begun p'.begun h.begun x y e c)) first.selects inner.comes more.comes;
        }

    pub record Ordered (order : List A) : Type 0 where
      pub corresponding : List B
      pub in_order : Both E order corresponding
      pub is_order : IsStartOrder RB all' corresponding

    -- an order of the one is an order of the other
    pub ordered : (order : List A) → IsStartOrder RA all order → Ordered order
    ordered order o =
        let h : Alike (nothing_yet RA all) (nothing_yet RB all') = record { begun = no_more; started = no_more } in
        let r = starts_alike (nothing_yet RA all) o.progress (nothing_yet RB all') all all' h both o.comes in
        record {
          corresponding = r.progress.started;
          in_order = subst (λ l. Both E l r.progress.started) o.whole r.alike.started;
          is_order = record { progress = r.progress; comes = r.comes; whole = refl };
        }
