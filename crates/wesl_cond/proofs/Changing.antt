-- Lists whose elements are changed one by one, in place, seen as what the elements stand for.
use Rattle.std.proofs.Common.{◌≡◌, sym, ap, ◌∙◌, subst, ℕ, ◌+◌, ◌<◌, ◌≤◌, arith, get_or-set_other, List, map, ◌++◌, length, take, drop, get_or, set}
use Rattle.std.proofs.lemmas.List.{map-set, length-map}
use Rattle.std.proofs.lemmas.List.Edits.{map_over_more}
use Rattle.std.proofs.Math.ListN.{get_or-map}

pub changed_more : {X B : Type 0} (t : X → B) (g : B → B) (before ys : List X) (i : ℕ) (x z : X) → i < length before
    → map t ys ≡ map g (take i (map t before)) ++ drop i (map t before) → x ≡ get_or ys i x → t z ≡ g (t x)
    → map t (set ys i z) ≡ map g (take (i + 1) (map t before)) ++ drop (i + 1) (map t before)
changed_more t g before ys i x z lt h is changed =
    map-set t ys i z ∙ ap (set (map t ys) i) changed
    ∙ map_over_more g (map t before) (map t ys) i (t x) (subst (λ n. i < n) (sym (length-map before t)) lt) h
    (ap t is ∙ sym (get_or-map t ys i x))

-- those that come later are as they were
pub later_same : {X : Type 0} (before ys : List X) (i : ℕ) (z : X) → ((k : ℕ) (d : X) → i ≤ k → get_or ys k d ≡ get_or before k d)
    → (k : ℕ) (d : X) → i + 1 ≤ k → get_or (set ys i z) k d ≡ get_or before k d
later_same before ys i z same k d le = get_or-set_other ys i k z d (omega arith) ∙ same k d (omega arith)
