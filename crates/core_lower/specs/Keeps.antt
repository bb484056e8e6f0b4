-- What lowering keeps.
use Rattle.std.specs.Prelude.{◌≡◌, ℕ, List, [], ◌∷◌, Option, codes}
use Rattle.core_syntax.specs.Tree.{Param, Decl, variable, function}
use Rattle.wgsl_instance.specs.declared.tree.Instance.{Instance}
use Rattle.core_lower_expressions.specs.Names.{Name}
use Rattle.core_lower_expressions.specs.Programs.{here}
use Rattle.core_lower_expressions.specs.Runs.{Handed, EndsWell, plain}

abbrev pub is_clear : Name → Type 0
is_clear x = (x ≡ codes "i32" → ⊥) × (x ≡ codes "u32" → ⊥)

-- no declaration and no parameter has the name of a type that is evaluated
abbrev pub ClearParameters : List Param → Type 0
ClearParameters [] = Unit {0}
ClearParameters (p ∷ ps) = is_clear p.name × ClearParameters ps

abbrev pub IsClear : Decl → Type 0
IsClear (variable attributes kind x type e) = is_clear x
IsClear (function attributes f parameters return_attributes type body) = is_clear f × ClearParameters parameters

abbrev pub AreClear : List Decl → Type 0
AreClear [] = Unit {0}
AreClear (d ∷ ds) = IsClear d × AreClear ds

-- every run of a function that ends well within so many steps, ends well after within as many, with the same answer
abbrev pub Keeps : List Decl → List Decl → Type 0
Keeps ds low = (f : Name) (handed : Handed) (n : ℕ) (answer : Option Instance) → EndsWell (plain ds) (here f) handed n answer → EndsWell (plain low) (here f) handed n answer
