-- Lists in which each name stands once.
use Rattle.std.proofs.Common.{◌≡◌, ◌⊎◌, inl, inr, List, [], ◌∷◌, ◌++◌, map, sym, ap, ◌∙◌, subst, Contains}
use Rattle.std.proofs.lemmas.List.Elements.{Contains-append_left, Contains-append_cases}
use Rattle.core_link_spec.specs.Occurrences.{Name}
use Rattle.core_link_spec.specs.Rounds.{AreDistinct, no_names, another}
use Rattle.wgsl_base.proofs.Members.{first_in, later_in, in_cases, in_none, in_map}

-- from the front
abbrev pub Once : List Name → Type 0
Once [] = Unit {0}
Once (x ∷ xs) = (Contains xs x → ⊥) × Once xs

once_push : (xs : List Name) (x : Name) → Once xs → (Contains xs x → ⊥) → Once (xs ++ x ∷ [])
once_push [] x o n = (in_none x, tt)
once_push (y ∷ ys) x o n = (away, once_push ys x o.1 (λ c. n (later_in x y ys c)))
  where
    away : Contains (ys ++ x ∷ []) y → ⊥
    away c = at (Contains-append_cases ys (x ∷ []) y c)
      where
        last : (x ≡ y) ⊎ Contains [] y → ⊥
        last (inl e) = n (subst (Contains (y ∷ ys)) (sym e) (first_in y ys))
        last (inr d) = in_none y d

        at : Contains ys y ⊎ Contains (x ∷ []) y → ⊥
        at (inl d) = o.0 d
        at (inr d) = last (in_cases x [] y d)

pub once_of : (xs : List Name) → AreDistinct xs → Once xs
once_of _ no_names = tt
once_of _ (another {x = x} {xs = xs} d n) = once_push xs x (once_of xs d) n

pub once_left : (xs ys : List Name) → Once (xs ++ ys) → Once xs
once_left [] ys o = tt
once_left (x ∷ xs) ys o = (λ c. o.0 (Contains-append_left xs ys x c), once_left xs ys o.1)

pub once_right : (xs ys : List Name) → Once (xs ++ ys) → Once ys
once_right [] ys o = o
once_right (x ∷ xs) ys o = once_right xs ys o.1

-- what has one name is one
pub once_same : {A : Type 0} (f : A → Name) (xs : List A) → Once (map f xs) → (a b : A) → Contains xs a → Contains xs b → f a ≡ f b → a ≡ b
once_same f [] o a b c d e = absurd (in_none a c)
once_same f (x ∷ xs) o a b c d e = at (λ g h. once_same f xs o.1 a b g h e) (in_cases x xs a c) (in_cases x xs b d)
  where
    at : (Contains xs a → Contains xs b → a ≡ b) → (x ≡ a) ⊎ Contains xs a → (x ≡ b) ⊎ Contains xs b → a ≡ b
    at more (inl g) (inl h) = sym g ∙ h
    at more (inl g) (inr h) = absurd (o.0 (subst (Contains (map f xs)) (sym e ∙ ap f (sym g)) (in_map f xs b h)))
    at more (inr g) (inl h) = absurd (o.0 (subst (Contains (map f xs)) (e ∙ ap f (sym h)) (in_map f xs a g)))
    at more (inr g) (inr h) = more g h
