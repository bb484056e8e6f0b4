-- The kind of conditions, one by one.
use Rattle.std.proofs.Common.{◌≡◌, refl, List, [], ◌∷◌, Option, Some, None}
use Rattle.std.specs.List.{cons_option}
use Rattle.wesl_conditions.specs.Chains.{Mark, if_mark, elif_mark, else_mark}
use Rattle.wesl_cond_attributes.specs.declared.kind.Kind.{Kind}
use Rattle.wesl_cond_attributes.specs.declared.kind.Kind.TheVariants.{Plain, If, Elif, Else, Several}
use Rattle.wesl_cond_attributes.specs.Kinds.{mark_kind, kind, both_kinds, with_more}

first_of : (m : Mark) (ms : List Mark) → with_more (mark_kind (Some m)) ms ≡ kind (m ∷ ms)
first_of (if_mark x) [] = refl
first_of (if_mark x) (n ∷ ms) = refl
first_of (elif_mark x) [] = refl
first_of (elif_mark x) (n ∷ ms) = refl
first_of else_mark [] = refl
first_of else_mark (n ∷ ms) = refl

several : (ms : List Mark) → with_more Several ms ≡ Several
several [] = refl
several (n ∷ ms) = refl

pub one_more : (k : Kind) (o : Option Mark) (ms : List Mark) → with_more (both_kinds k (mark_kind o)) ms ≡ with_more k (cons_option o ms)
one_more Plain None ms = refl
one_more Plain (Some m) ms = first_of m ms
one_more If None ms = refl
one_more If (Some (if_mark x)) ms = several ms
one_more If (Some (elif_mark x)) ms = several ms
one_more If (Some else_mark) ms = several ms
one_more Elif None ms = refl
one_more Elif (Some (if_mark x)) ms = several ms
one_more Elif (Some (elif_mark x)) ms = several ms
one_more Elif (Some else_mark) ms = several ms
one_more Else None ms = refl
one_more Else (Some (if_mark x)) ms = several ms
one_more Else (Some (elif_mark x)) ms = several ms
one_more Else (Some else_mark) ms = several ms
one_more Several None ms = refl
one_more Several (Some (if_mark x)) ms = several ms
one_more Several (Some (elif_mark x)) ms = several ms
one_more Several (Some else_mark) ms = several ms

pub no_more : (k : Kind) → with_more k [] ≡ k
no_more Plain = refl
no_more If = refl
no_more Elif = refl
no_more Else = refl
no_more Several = refl
