-- Lists with `, ` between their parts.
use Rattle.std.proofs.Common.{◌≡◌, refl, ap, ℕ, List, [], ◌∷◌, ◌++◌, map, codes}
use Rattle.std.proofs.lemmas.List.Folds.{flat_map-map}
use Rattle.wgsl_expressions.specs.Print.{commas}

pub commas_map : {A B : Type 0} (text : B → List ℕ) (f : A → B) (xs : List A) → commas text (map f xs) ≡ commas (λ x. text (f x)) xs
commas_map text f [] = refl
commas_map text f (x ∷ xs) = ap (λ t. text (f x) ++ t) (flat_map-map (λ y. codes ", " ++ text y) f xs)
