-- Lists that are widened one by one.
use Rattle.std.proofs.Common.{◌≡◌, refl, sym, ap, ◌∙◌, ℕ, ◌≤◌, List, [], ◌∷◌, map, length, take, Option, Some}
use Rattle.std.proofs.lemmas.List.{take_all}
use Rattle.std.specs.Prelude.{filter_map}
use Rattle.std.specs.List.{cons_option}
use Rattle.core_syntax.specs.Tree.{Exp, exps, Stm}
use Rattle.wgsl_expressions.specs.Tree as exp
use Rattle.wgsl_statements.specs.Tree as stm
use Rattle.wgsl_statements.specs.View.{stms}
use Rattle.core_narrowing.specs.Widening.{widen_exp, widen_exps, widen_stm, widen_stms}

map_map : {A B C : Type 0} (f : B → C) (g : A → B) (xs : List A) → map f (map g xs) ≡ map (λ x. f (g x)) xs
map_map f g [] = refl
map_map f g (x ∷ xs) = ap (λ t. f (g x) ∷ t) (map_map f g xs)

-- what is widened one by one is widened as a list
pub mapped : {A B C T : Type 0} (f : T → C) (g : B → T) (h : A → C) (xs : List B) (ys : List A) → map h ys ≡ map (λ x. f (g x)) xs → map h ys ≡ map f (map g xs)
mapped f g h xs ys same = same ∙ sym (map_map f g xs)

-- all of a list
pub all_of : {A B C T : Type 0} (f : T → C) (g : B → T) (h : A → C) (xs : List B) (k : ℕ) (ys : List A) → length xs ≤ k → map h ys ≡ map (λ x. f (g x)) (take k xs)
    → map h ys ≡ map f (map g xs)
all_of f g h xs k ys end same = mapped f g h xs ys (same ∙ ap (map (λ x. f (g x))) (take_all k xs end))

-- expressions in a list of their own
pub exps_of : (xs : List Exp) → exp.exps (map widen_exp xs) ≡ widen_exps (exps xs)
exps_of [] = refl
exps_of (x ∷ xs) = ap (exp.cons (widen_exp x)) (exps_of xs)

-- statements none of which is a `;`
pub stms_of : (ss : List Stm) → stms (map (λ s. Some (widen_stm s)) ss) ≡ widen_stms ss
stms_of [] = refl
stms_of (s ∷ ss) = ap (stm.cons (widen_stm s)) (stms_of ss)

-- what is there of each
pub all_there : {A B C : Type 0} (f : A → Option C) (g : B → C) (xs : List A) (ys : List B) → map f xs ≡ map (λ y. Some (g y)) ys → filter_map f xs ≡ map g ys
all_there f g [] [] same = refl
all_there f g [] (y ∷ ys) same = absurd (cc)
all_there f g (x ∷ xs) [] same = absurd (cc)
all_there f g (x ∷ xs) (y ∷ ys) same =
    let first : f x ≡ Some (g y) = cc in
    let others : map f xs ≡ map (λ z. Some (g z)) ys = cc in
    (λ i. cons_option (first i) (filter_map f xs)) ∙ ap (λ t. g y ∷ t) (all_there f g xs ys others)
