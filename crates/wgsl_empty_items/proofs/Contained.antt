-- What is among others by a test is so by the trees that it compares.
use Rattle.std.proofs.Common.{◌≡◌, refl, sym, subst, Bool, true, false, ◌||◌, ◌⊎◌, inl, inr, List, [], ◌∷◌, map, true≢false, rules}
use Rattle.std.specs.Bool.{Decides}
use Rattle.std.specs.List.{list_any, Contains}
use Rattle.wgsl_base.proofs.Members.{in_cases, first_in, later_in}
use Rattle.wgsl_path.specs.declared.span.Spanned.{Spanned}
use Rattle.wgsl_empty_items.specs.EqualityLaws.{TellsTrees, TellsContained}

one_holds : (b c : Bool) → (b || c) ≡ true → (b ≡ true) ⊎ (c ≡ true)
one_holds true c h = inl refl
one_holds false c h = inr h

left_holds : (b c : Bool) → b ≡ true → (b || c) ≡ true
left_holds true c h = refl
left_holds false c h = absurd (true≢false (sym h))

right_holds : (b c : Bool) → c ≡ true → (b || c) ≡ true
right_holds true c h = refl
right_holds false c h = h

none_in : {T : Type 0} (t : T) → Contains [] t → ⊥
none_in t c = search rules

module _ {A T : Type 0} (test : A → A → Bool) (tree : A → T) (tells : TellsTrees test tree) (a : A) where
  in_first_or_rest : (x : Spanned A) (xs : List (Spanned A)) → (list_any (λ n. test n.node a) xs ≡ true → Contains (map (λ n. tree n.node) xs) (tree a))
      → (test x.node a ≡ true) ⊎ (list_any (λ n. test n.node a) xs ≡ true) → Contains (tree x.node ∷ map (λ n. tree n.node) xs) (tree a)
  in_first_or_rest x xs rest (inl e) = subst (Contains (tree x.node ∷ map (λ n. tree n.node) xs)) ((tells x.node a).0 e) (first_in (tree x.node) (map (λ n. tree n.node) xs))
  in_first_or_rest x xs rest (inr e) = later_in (tree a) (tree x.node) (map (λ n. tree n.node) xs) (rest e)

  there : (xs : List (Spanned A)) → list_any (λ n. test n.node a) xs ≡ true → Contains (map (λ n. tree n.node) xs) (tree a)
  there [] h = absurd (true≢false (sym h))
  there (x ∷ xs) h = in_first_or_rest x xs (there xs) (one_holds (test x.node a) (list_any (λ n. test n.node a) xs) h)

  of_first_or_rest : (x : Spanned A) (xs : List (Spanned A)) → (Contains (map (λ n. tree n.node) xs) (tree a) → list_any (λ n. test n.node a) xs ≡ true)
      → (tree x.node ≡ tree a) ⊎ Contains (map (λ n. tree n.node) xs) (tree a) → (test x.node a || list_any (λ n. test n.node a) xs) ≡ true
  of_first_or_rest x xs rest (inl e) = left_holds (test x.node a) (list_any (λ n. test n.node a) xs) ((tells x.node a).1 e)
  of_first_or_rest x xs rest (inr d) = right_holds (test x.node a) (list_any (λ n. test n.node a) xs) (rest d)

  among : (xs : List (Spanned A)) → Contains (map (λ n. tree n.node) xs) (tree a) → list_any (λ n. test n.node a) xs ≡ true
  among [] c = absurd (none_in (tree a) c)
  among (x ∷ xs) c = of_first_or_rest x xs (among xs) (in_cases (tree x.node) (map (λ n. tree n.node) xs) (tree a) c)

pub contained : {A T : Type 0} (test : A → A → Bool) (tree : A → T) → TellsTrees test tree → TellsContained test tree
contained test tree tells a xs = (there test tree tells a xs, among test tree tells a xs)
