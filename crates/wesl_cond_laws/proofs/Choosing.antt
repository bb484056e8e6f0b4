-- A list under a choice, walked through from left to right.
use Rattle.std.proofs.Common.{◌≡◌, refl, sym, ap, ◌∙◌, List, [], ◌∷◌, ◌++◌, map, Bool, true, false, ◌&&◌}
use Rattle.std.specs.Prelude.{if◌then◌else◌}
use Rattle.std.specs.List.{flat_map}
use Rattle.wgsl_expressions.specs.AttributesTree.{Attr}
use Rattle.wesl_conditions.specs.Conditions.{Choice}
use Rattle.wesl_conditions.specs.Chains.{marks, marks_of, unmarked, opens, continues, join, chains, HasAttributes, bare, is_true, first_true, chosen}

module _ (choice : Choice) {T : Type 0} (has : HasAttributes T) where
  -- what is chosen of a list, where the item before it may be gone on with, and a true one of its chain stands before it or not
  abbrev pub walk : Bool → Bool → List T → List T
  walk more taken [] = []
  walk more taken (x ∷ xs) =
      if (more && continues (marks_of has x)) && taken
      then walk (opens (marks_of has x)) true xs
      else (if is_true choice (marks_of has x) then bare has x ∷ walk (opens (marks_of has x)) true xs else walk (opens (marks_of has x)) false xs)

  abbrev of_chains : List (List T) → List T
  of_chains cs = flat_map (first_true has choice) cs

  abbrev in_chain : Bool → List T → List T
  in_chain taken ys = if taken then [] else first_true has choice ys

  abbrev from : Bool → Bool → List (List T) → List T
  from more taken [] = []
  from more taken ([] ∷ cs) = of_chains cs
  from more taken ((y ∷ ys) ∷ cs) = in_chain ((more && continues (marks_of has y)) && taken) (y ∷ ys) ++ of_chains cs

  last : (k does : Bool) (x : T) (r : List T)
      → (if k then r else (if does then bare has x ∷ r else r)) ≡ (if k then [] else (if does then bare has x ∷ [] else [])) ++ r
  last true does x r = refl
  last false true x r = refl
  last false false x r = refl

  step : (k does : Bool) (x : T) (ys r : List T)
      → (if k then in_chain true ys ++ r else (if does then bare has x ∷ (in_chain true ys ++ r) else in_chain false ys ++ r))
      ≡ (if k then [] else (if does then bare has x ∷ [] else first_true has choice ys)) ++ r
  step true does x ys r = refl
  step false true x ys r = refl
  step false false x ys r = refl

  joined : (more taken : Bool) (x : T) (cs : List (List T))
      → (if (more && continues (marks_of has x)) && taken
      then from (opens (marks_of has x)) true cs
      else (if is_true choice (marks_of has x) then bare has x ∷ from (opens (marks_of has x)) true cs else from (opens (marks_of has x)) false cs))
      ≡ from more taken (join (marks_of has) x cs)
  joined more taken x [] = last ((more && continues (marks_of has x)) && taken) (is_true choice (marks_of has x)) x []
  joined more taken x ([] ∷ cs) = last ((more && continues (marks_of has x)) && taken) (is_true choice (marks_of has x)) x (of_chains cs)
  joined more taken x ((y ∷ ys) ∷ cs) = by (opens (marks_of has x) && continues (marks_of has y))
    where
      k : Bool
      k = (more && continues (marks_of has x)) && taken

      behind : Bool → Bool → List T
      behind b t = in_chain (b && t) (y ∷ ys) ++ of_chains cs

      by : (b : Bool)
          → (if k then behind b true else (if is_true choice (marks_of has x) then bare has x ∷ behind b true else behind b false))
          ≡ from more taken (if b then (x ∷ y ∷ ys) ∷ cs else (x ∷ []) ∷ (y ∷ ys) ∷ cs)
      by true = step k (is_true choice (marks_of has x)) x (y ∷ ys) (of_chains cs)
      by false = last k (is_true choice (marks_of has x)) x (first_true has choice (y ∷ ys) ++ of_chains cs)

  walked : (more taken : Bool) (xs : List T) → walk more taken xs ≡ from more taken (chains (marks_of has) xs)
  walked more taken [] = refl
  walked more taken (x ∷ xs) =
      (λ i. if (more && continues (marks_of has x)) && taken
      then walked (opens (marks_of has x)) true xs i
      else (if is_true choice (marks_of has x) then bare has x ∷ walked (opens (marks_of has x)) true xs i else walked (opens (marks_of has x)) false xs i))
      ∙ joined more taken x (chains (marks_of has) xs)

  from_start : (cs : List (List T)) → from false false cs ≡ of_chains cs
  from_start [] = refl
  from_start ([] ∷ cs) = refl
  from_start ((y ∷ ys) ∷ cs) = refl

  pub walk_is_chosen : (xs : List T) → walk false false xs ≡ chosen choice has xs
  walk_is_chosen xs = walked false false xs ∙ from_start (chains (marks_of has) xs)

  -- ---- what keeps attributes may be done before or after the choice
  module _ (h : T → T) (reads : (x : T) → has.attributes (h x) ≡ has.attributes x)
      (puts : (new : List Attr) (x : T) → h (has.with_attributes new x) ≡ has.with_attributes new (h x)) where
    abbrev step_of : Bool → Bool → List T → T → List Attr → List T
    step_of more taken xs y attributes =
        if (more && continues (marks attributes)) && taken
        then walk (opens (marks attributes)) true xs
        else (if is_true choice (marks attributes) then has.with_attributes (unmarked attributes) y ∷ walk (opens (marks attributes)) true xs else walk (opens (marks attributes)) false xs)

    walk_map : (more taken : Bool) (xs : List T) → map h (walk more taken xs) ≡ walk more taken (map h xs)
    walk_map more taken [] = refl
    walk_map more taken (x ∷ xs) =
        by (walk_map o true xs) (walk_map o false xs) ((more && continues (marks_of has x)) && taken) (is_true choice (marks_of has x))
        ∙ ap (step_of more taken (map h xs) (h x)) (sym (reads x))
      where
        o : Bool
        o = opens (marks_of has x)

        by : map h (walk o true xs) ≡ walk o true (map h xs) → map h (walk o false xs) ≡ walk o false (map h xs) → (k does : Bool)
            → map h (if k then walk o true xs else (if does then bare has x ∷ walk o true xs else walk o false xs))
            ≡ (if k then walk o true (map h xs) else (if does then has.with_attributes (unmarked (has.attributes x)) (h x) ∷ walk o true (map h xs) else walk o false (map h xs)))
        by behind other true does = behind
        by behind other false true = λ i. puts (unmarked (has.attributes x)) x i ∷ behind i
        by behind other false false = other

    pub chosen_map : (xs : List T) → map h (chosen choice has xs) ≡ chosen choice has (map h xs)
    chosen_map xs = ap (map h) (sym (walk_is_chosen xs)) ∙ walk_map false false xs ∙ walk_is_chosen (map h xs)
