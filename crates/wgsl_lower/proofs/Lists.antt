-- A list in which one element is written.
use Rattle.std.proofs.Common.{◌≡◌, sym, ap, ◌∙◌, ℕ, ◌<◌, List, map, length, get_or, set}
use Rattle.std.proofs.lemmas.List.{map-set, set-get_or, get_or-map}

-- what all elements have in common with what stood there stays
pub map_stays : {X C : Type 0} (b : X → C) (xs : List X) (i : ℕ) (x y : X) → i < length xs → x ≡ get_or xs i x → b y ≡ b x → map b (set xs i y) ≡ map b xs
map_stays b xs i x y lt is same =
    map-set b xs i y
    ∙ ap (set (map b xs) i) (same ∙ ap b is ∙ sym (get_or-map b xs i x (b x) lt))
    ∙ set-get_or (map b xs) i (b x)
