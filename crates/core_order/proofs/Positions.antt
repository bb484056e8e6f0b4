-- Where a list of names has a name first, and what the code's index says of a unit.
use Rattle.std.proofs.Common.{◌≡◌, ◌⊎◌, inl, inr, ℕ, ◌+◌, ◌<◌, List, [], ◌∷◌, ◌++◌, take, get_or, length, map, Option, Some, None, Bool, true, false, cond, refl, sym, ap, ◌∙◌, subst}
use Rattle.std.specs.Prelude.{position}
use Rattle.std.specs.Option.{option_map}
use Rattle.std.specs.Str.{bytes_eq}
use Rattle.std.proofs.lemmas.Bool.{or_cases}
use Rattle.std.proofs.lemmas.Simd.{map-map}
use Rattle.wgsl_base.proofs.Members.{same_bytes}
use Rattle.wgsl_path.specs.declared.span.Spanned.{Spanned}
use Rattle.core_syntax.specs.declared.declaration.GlobalDeclaration.{GlobalDeclaration}
use Rattle.core_syntax.specs.View.{declaration_tree}
use Rattle.core_syntax.specs.Names.{declared_name}
use Rattle.core_validate.specs.declared.place.Row.{Row}
use Rattle.core_validate.specs.Scopes.{Name, is_in, row_of}
use Rattle.core_validate.specs.Lookups.{trees, declared}
use Rattle.core_validate.proofs.PositionLemmas.{position-cons}
use Rattle.core_validate.proofs.FaultLemmas.{declared_more}
use Rattle.core_order.specs.Units.{rows_of}

-- an element behind the list that doesn't pass
position-away : (p : Name → Bool) (xs : List Name) (y : Name) → p y ≡ false → position p (xs ++ y ∷ []) ≡ position p xs
position-away p [] y e = position-cons p y [] ∙ ap (λ b. cond b (Some 0) None) e
position-away p (z ∷ zs) y e =
    position-cons p z (zs ++ y ∷ []) ∙ ap (λ o. cond (p z) (Some 0) (option_map (λ n. 1 + n) o)) (position-away p zs y e) ∙ sym (position-cons p z zs)

-- a name that was there
position-again : (xs : List Name) (y x : Name) → is_in y xs ≡ true → position (bytes_eq x) (xs ++ y ∷ []) ≡ position (bytes_eq x) xs
position-again [] y x known = absurd (cc)
position-again (z ∷ zs) y x known =
    position-cons (bytes_eq x) z (zs ++ y ∷ [])
    ∙ at (or_cases (bytes_eq y z) (is_in y zs) known) (position-again zs y x) (bytes_eq x z) refl
    ∙ sym (position-cons (bytes_eq x) z zs)
  where
    at : (bytes_eq y z ≡ true) ⊎ (is_in y zs ≡ true) → (is_in y zs ≡ true → position (bytes_eq x) (zs ++ y ∷ []) ≡ position (bytes_eq x) zs)
        → (b : Bool) → bytes_eq x z ≡ b
        → cond b (Some 0) (option_map (λ n. 1 + n) (position (bytes_eq x) (zs ++ y ∷ []))) ≡ cond b (Some 0) (option_map (λ n. 1 + n) (position (bytes_eq x) zs))
    at known more true e = refl
    at (inl same) more false e =
        ap (option_map (λ n. 1 + n)) (position-away (bytes_eq x) zs y (subst (λ w. bytes_eq x w ≡ false) (sym (same_bytes y z same)) e))
    at (inr there) more false e = ap (option_map (λ n. 1 + n)) (more there)

module _ (ds : List (Spanned GlobalDeclaration)) (i : ℕ) (d : Spanned GlobalDeclaration) (within : i < length ds) (is : d ≡ get_or ds i d) where
  pub looks_up_same : (look : Name → Option ℕ) → is_in (declared_name (declaration_tree d.node)) (declared (take i ds)) ≡ true
      → ((q : Name) → look q ≡ position (bytes_eq q) (declared (take i ds)))
      → (q : Name) → look q ≡ position (bytes_eq q) (declared (take (i + 1) ds))
  looks_up_same look known was q =
      was q ∙ sym (position-again (declared (take i ds)) (declared_name (declaration_tree d.node)) q known)
      ∙ sym (ap (position (bytes_eq q)) (declared_more ds i d within is))

-- the rows of the code are those of the unit
pub rows_are : (ds : List (Spanned GlobalDeclaration)) (look : Name → Option ℕ) (made : List Row) → ((x : Name) → look x ≡ position (bytes_eq x) (declared ds))
    → made ≡ map (row_of look) (trees ds) → made ≡ rows_of (trees ds)
rows_are ds look made is same =
    let names_are : map declared_name (trees ds) ≡ declared ds = map-map declared_name (λ n. declaration_tree n.node) ds in
    same ∙ (λ k. map (row_of (λ x. (is x ∙ ap (position (bytes_eq x)) (sym names_are)) k)) (trees ds))
