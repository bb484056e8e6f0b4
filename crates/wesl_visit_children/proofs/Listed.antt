-- What is found in the parts of a list of references.
use Rattle.std.proofs.Common.{◌≡◌, refl, ap, List, [], ◌∷◌, ◌++◌}
use Rattle.std.specs.List.{flat_map}
use Rattle.wesl_visit_children.specs.declared.part.PartRef.{PartRef}
use Rattle.wesl_visit_children.specs.Parts.{Part}
use Rattle.wesl_visit_children.specs.Listed.{part_of, parts}

pub in_listed : {N : Type 0} (f : Part → List N) (refs : List PartRef) → flat_map f (parts refs) ≡ flat_map (λ r. f (part_of r)) refs
in_listed f [] = refl
in_listed f (r ∷ rs) = ap (λ t. f (part_of r) ++ t) (in_listed f rs)
