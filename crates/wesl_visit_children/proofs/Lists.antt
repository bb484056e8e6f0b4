-- Lists that are made of parts, one part for each element.
use Rattle.std.proofs.Common.{◌≡◌, refl, sym, ap, ◌∙◌, ℕ, ◌+◌, ◌<◌, ◌≤◌, ◌-◌, arith, List, [], ◌∷◌, ◌++◌, map, length, take, drop, get_or, set, get_or-set_other}
use Rattle.std.specs.List.{flat_map}
use Rattle.std.proofs.lemmas.List.{take_more, take_more_set, take-append-drop, flat_map_more, map-set, set-get_or, drop-set-lt, same_lists, get_or-map, length-drop, get_or-drop}
use Rattle.std.proofs.lemmas.Grind.{flat_map-append}

pub singles : {N : Type 0} (xs : List N) → flat_map (λ n. n ∷ []) xs ≡ xs
singles [] = refl
singles (x ∷ xs) = ap (λ ys. x ∷ ys) (singles xs)

module _ {X N : Type 0} (g : X → List N) where
  -- one element more
  pub parts_more : (xs : List X) (i : ℕ) (x : X) → i < length xs → x ≡ get_or xs i x → flat_map g (take i xs) ++ g x ≡ flat_map g (take (i + 1) xs)
  parts_more xs i x lt is =
      flat_map_more g [] (take i xs) x ∙ ap (flat_map g) (ap (λ y. take i xs ++ y ∷ []) is ∙ sym (take_more xs i x lt))

  -- the parts before an element, its own and those behind it
  pub parts_at : (xs : List X) (i : ℕ) (x : X) → i < length xs → x ≡ get_or xs i x → (flat_map g (take i xs) ++ g x) ++ flat_map g (drop (i + 1) xs) ≡ flat_map g xs
  parts_at xs i x lt is =
      ap (λ ns. ns ++ flat_map g (drop (i + 1) xs)) (parts_more xs i x lt is)
      ∙ sym (flat_map-append g (take (i + 1) xs) (drop (i + 1) xs)) ∙ ap (flat_map g) (take-append-drop (i + 1) xs)

  -- one element more, which is changed
  pub set_more : (xs : List X) (i : ℕ) (y : X) → i < length xs → flat_map g (take i xs) ++ g y ≡ flat_map g (take (i + 1) (set xs i y))
  set_more xs i y lt = flat_map_more g [] (take i xs) y ∙ ap (flat_map g) (sym (take_more_set xs i y lt))

  pub set_at : (xs : List X) (i : ℕ) (y : X) → i < length xs → (flat_map g (take i xs) ++ g y) ++ flat_map g (drop (i + 1) xs) ≡ flat_map g (set xs i y)
  set_at xs i y lt =
      ap (λ ns. ns ++ flat_map g (drop (i + 1) xs)) (set_more xs i y lt)
      ∙ ap (λ zs. flat_map g (take (i + 1) (set xs i y)) ++ flat_map g zs) (sym (drop-set-lt (i + 1) xs i y (omega arith)))
      ∙ sym (flat_map-append g (take (i + 1) (set xs i y)) (drop (i + 1) (set xs i y))) ∙ ap (flat_map g) (take-append-drop (i + 1) (set xs i y))

-- elements of which only the value of another function stays
pub map_stays : {X C : Type 0} (b : X → C) (xs : List X) (i : ℕ) (x y : X) → i < length xs → x ≡ get_or xs i x → b y ≡ b x → map b (set xs i y) ≡ map b xs
map_stays b xs i x y lt is same =
    map-set b xs i y
    ∙ ap (set (map b xs) i) (same ∙ ap b is ∙ sym (get_or-map b xs i x (b x) lt))
    ∙ set-get_or (map b xs) i (b x)

-- those that come later are as they were
pub later_same : {X : Type 0} (before ys : List X) (i : ℕ) (z : X) → ((k : ℕ) (d : X) → i ≤ k → get_or ys k d ≡ get_or before k d)
    → (k : ℕ) (d : X) → i + 1 ≤ k → get_or (set ys i z) k d ≡ get_or before k d
later_same before ys i z same k d le = get_or-set_other ys i k z d (omega arith) ∙ same k d (omega arith)

pub later_list : {X : Type 0} (before ys : List X) (i : ℕ) → length ys ≡ length before → ((k : ℕ) (d : X) → i ≤ k → get_or ys k d ≡ get_or before k d)
    → drop (i + 1) ys ≡ drop (i + 1) before
later_list before ys i long same =
    same_lists (drop (i + 1) ys) (drop (i + 1) before) (length-drop (i + 1) ys ∙ ap (λ n. n - (i + 1)) long ∙ sym (length-drop (i + 1) before))
    (λ k d lt. get_or-drop (i + 1) ys k d ∙ same (i + 1 + k) d (omega arith) ∙ sym (get_or-drop (i + 1) before k d))
