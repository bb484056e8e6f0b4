-- Members of lists, and what is found by name.
use Rattle.std.proofs.Common.{◌≡◌, suc, List, [], ◌∷◌, map, length, Some, None, Bool, true, false, refl, ap}
use Rattle.std.specs.Prelude.{◌||◌, if◌then◌else◌}
use Rattle.std.specs.Str.{bytes_eq}
use Rattle.core_programs.specs.Names.{Name, find}
use Rattle.core_link_spec.specs.Occurrences.{is_among}

pub length_map : {X Y : Type 0} (f : X → Y) (xs : List X) → length (map f xs) ≡ length xs
length_map f [] = refl
length_map f (x ∷ xs) = ap suc (length_map f xs)

-- ---- locals

abbrev pub locals_of : {A : Type 0} → List (Name × A) → List Name
locals_of env = map (λ b. b.0) env

pub find_none : {A : Type 0} (x : Name) (env : List (Name × A)) → is_among x (locals_of env) ≡ false → find x env ≡ None
find_none x [] e = refl
find_none x (b ∷ env) e = at (bytes_eq x b.0) (find_none x env) e
  where
    at : (c : Bool) → (is_among x (locals_of env) ≡ false → find x env ≡ None) → (c || is_among x (locals_of env)) ≡ false → (if c then Some b.1 else find x env) ≡ None
    at true later e = absurd (cc)
    at false later e = later e

pub find_some : {A : Type 0} (x : Name) (env : List (Name × A)) → is_among x (locals_of env) ≡ true → (v : A) × (find x env ≡ Some v)
find_some x [] e = absurd (cc)
find_some {A = A} x (b ∷ env) e = at (bytes_eq x b.0) (find_some x env) e
  where
    at : (c : Bool) → (is_among x (locals_of env) ≡ true → (v : A) × (find x env ≡ Some v)) → (c || is_among x (locals_of env)) ≡ true → (v : A) × ((if c then Some b.1 else find x env) ≡ Some v)
    at true later e = (b.1, refl)
    at false later e = later e
