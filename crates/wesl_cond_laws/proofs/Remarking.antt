-- Attributes whose conditions are replaced, or left out.
use Rattle.std.proofs.Common.{◌≡◌, refl, List, [], ◌∷◌, map, Bool, true, false, not, cond, Option, Some, None}
use Rattle.std.specs.Prelude.{if◌then◌else◌}
use Rattle.std.specs.List.{cons_option}
use Rattle.wgsl_expressions.specs.AttributesTree.{Attr}
use Rattle.wesl_conditions.specs.Chains.{Mark, mark, is_marked, is_condition, marks, unmarked, remarked}

pub marks_of_remarked : (new : Attr) (m : Mark) → mark new ≡ Some m → (attributes : List Attr) → marks (remarked new attributes) ≡ map (λ n. m) (marks attributes)
marks_of_remarked new m is [] = refl
marks_of_remarked new m is (a ∷ attributes) = by (marks_of_remarked new m is attributes) (mark a) refl
  where
    by : marks (remarked new attributes) ≡ map (λ n. m) (marks attributes) → (o : Option Mark) → mark a ≡ o → cons_option (mark (if is_marked o then new else a)) (marks (remarked new attributes)) ≡ map (λ n. m) (cons_option o (marks attributes))
    by rest None e = λ i. cons_option (e i) (rest i)
    by rest (Some n) e = λ i. cons_option (is i) (rest i)

pub marks_of_unmarked : (attributes : List Attr) → marks (unmarked attributes) ≡ []
marks_of_unmarked [] = refl
marks_of_unmarked (a ∷ attributes) = by (marks_of_unmarked attributes) (mark a) refl
  where
    by : marks (unmarked attributes) ≡ [] → (o : Option Mark) → mark a ≡ o → marks (cond (not (is_marked o)) (a ∷ unmarked attributes) (unmarked attributes)) ≡ []
    by rest None e = λ i. cons_option (e i) (rest i)
    by rest (Some n) e = rest

pub unmarked_twice : (attributes : List Attr) → unmarked (unmarked attributes) ≡ unmarked attributes
unmarked_twice [] = refl
unmarked_twice (a ∷ attributes) = by (unmarked_twice attributes) (is_condition a) refl
  where
    by : unmarked (unmarked attributes) ≡ unmarked attributes → (b : Bool) → is_condition a ≡ b → unmarked (cond (not b) (a ∷ unmarked attributes) (unmarked attributes)) ≡ cond (not b) (a ∷ unmarked attributes) (unmarked attributes)
    by rest true e = rest
    by rest false e = λ i. cond (not (e i)) (a ∷ rest i) (rest i)

pub unmarked_remarked : (new : Attr) → is_condition new ≡ true → (attributes : List Attr) → unmarked (remarked new attributes) ≡ unmarked attributes
unmarked_remarked new is [] = refl
unmarked_remarked new is (a ∷ attributes) = by (unmarked_remarked new is attributes) (is_condition a) refl
  where
    by : unmarked (remarked new attributes) ≡ unmarked attributes → (b : Bool) → is_condition a ≡ b
        → unmarked ((if b then new else a) ∷ remarked new attributes) ≡ cond (not b) (a ∷ unmarked attributes) (unmarked attributes)
    by rest true e = λ i. cond (not (is i)) (new ∷ rest i) (rest i)
    by rest false e = λ i. cond (not (e i)) (a ∷ rest i) (rest i)

pub remarked_twice : (new : Attr) → is_condition new ≡ true → (attributes : List Attr) → remarked new (remarked new attributes) ≡ remarked new attributes
remarked_twice new is [] = refl
remarked_twice new is (a ∷ attributes) = by (remarked_twice new is attributes) (is_condition a) refl
  where
    by : remarked new (remarked new attributes) ≡ remarked new attributes → (b : Bool) → is_condition a ≡ b
        → remarked new ((if b then new else a) ∷ remarked new attributes) ≡ (if b then new else a) ∷ remarked new attributes
    by rest true e = λ i. (if is i then new else new) ∷ rest i
    by rest false e = λ i. (if e i then new else a) ∷ rest i
