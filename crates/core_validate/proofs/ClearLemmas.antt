-- Clear names by a look-up of where names are first.
use Rattle.std.proofs.Common.{◌≡◌, ℕ, ◌+◌, ◌<◌, List, [], ◌∷◌, ◌++◌, map, length, get_or, drop, filter, Option, Some, None, true, false, refl, sym, ap, ◌∙◌}
use Rattle.std.specs.Prelude.{◌||◌, position, is_some}
use Rattle.std.specs.Str.{bytes_eq}
use Rattle.std.specs.Option.{option_copied}
use Rattle.std.specs.Borrow.{Bor}
use Rattle.std.proofs.lemmas.Bool.{false≢true}
use Rattle.std.proofs.lemmas.List.{drop_more, append_assoc, length-append}
use Rattle.wgsl_path.specs.declared.span.Spanned.{Spanned}
use Rattle.core_syntax.specs.declared.declaration.GlobalDeclaration.{GlobalDeclaration}
use Rattle.core_syntax.specs.declared.unit.TranslationUnit.{TranslationUnit}
use Rattle.core_syntax.specs.View.{declaration_tree, unit_tree}
use Rattle.core_syntax.specs.Tree.{Decl}
use Rattle.core_syntax.specs.Names.{declared_name}
use Rattle.core_validate.specs.Scopes.{Name, parameters_of, names, is_in}
use Rattle.core_validate.specs.First.{first}
use Rattle.core_validate.specs.Lookups.{trees, declared}
use Rattle.core_validate.specs.Clearness.{is_taken, unclear_after, unclear, is_before, is_repeated_by, is_declared_by, unclear_by, unclear_from}
use Rattle.std.proofs.lemmas.Simd.{map-map}
use Rattle.core_validate.proofs.PositionLemmas.{is_some-position, is_before-position}

-- ---- the first of several lists

first-found : (xs ys : List Name) (o : Option Name) → o ≡ first xs → is_some o ≡ true → o ≡ first (xs ++ ys)
first-found [] ys o e h = absurd (false≢true (sym (ap is_some e) ∙ h))
first-found (x ∷ xs) ys o e h = e

first-none : (xs ys : List Name) (o : Option Name) → o ≡ first xs → is_some o ≡ false → first (xs ++ ys) ≡ first ys
first-none [] ys o e h = refl
first-none (x ∷ xs) ys o e h = absurd (false≢true (sym h ∙ ap is_some e))

pub is_some-copied : (r : Option (Bor (List ℕ))) → is_some (option_copied r) ≡ is_some r
is_some-copied (Some x) = refl
is_some-copied None = refl

module _ (look : Name → Option ℕ) (table : List Name) (ds : List (Spanned GlobalDeclaration)) (i : ℕ) (d : Spanned GlobalDeclaration) (within : i < length ds) (is : d ≡ get_or ds i d) where
  rest_is : unclear_from look table i (trees (drop i ds)) ≡ unclear_by look table i (declaration_tree d.node) ++ unclear_from look table (i + 1) (trees (drop (i + 1) ds))
  rest_is = ap (λ xs. unclear_from look table i (trees xs)) (drop_more ds i d within ∙ ap (λ x. x ∷ drop (i + 1) ds) (sym is))

  pub first_found : (r : Option (Bor (List ℕ))) → option_copied r ≡ first (unclear_by look table i (declaration_tree d.node)) → is_some r ≡ true
      → option_copied r ≡ first (unclear_from look table i (trees (drop i ds)))
  first_found r e h =
      first-found (unclear_by look table i (declaration_tree d.node)) (unclear_from look table (i + 1) (trees (drop (i + 1) ds))) (option_copied r) e (is_some-copied r ∙ h)
      ∙ sym (ap first rest_is)

  pub first_goes : (r : Option (Bor (List ℕ))) → option_copied r ≡ first (unclear_by look table i (declaration_tree d.node)) → is_some r ≡ false
      → first (unclear_from look table (i + 1) (trees (drop (i + 1) ds))) ≡ first (unclear_from look table i (trees (drop i ds)))
  first_goes r e h =
      sym (ap first rest_is
      ∙ first-none (unclear_by look table i (declaration_tree d.node)) (unclear_from look table (i + 1) (trees (drop (i + 1) ds))) (option_copied r) e (is_some-copied r ∙ h))

-- ---- a unit

module _ (look : Name → Option ℕ) (table globals : List Name) (is : (x : Name) → look x ≡ position (bytes_eq x) globals) where
  unclear_at : (at : ℕ) (before : List Name) (ds : List Decl) → at ≡ length before → globals ≡ before ++ map declared_name ds
      → unclear_from look table at ds ≡ unclear_after table globals before ds
  unclear_at at before [] here all = refl
  unclear_at at before (d ∷ ds) here all =
      let repeated : (x : Name) → is_repeated_by look table at x ≡ is_taken table before x =
      λ x. ap (λ b. is_in x table || b)
      ((λ k. is_before (here k) ((is x ∙ ap (position (bytes_eq x)) all) k)) ∙ is_before-position x before (map declared_name (d ∷ ds))) in
      let taken : (x : Name) → is_declared_by look table x ≡ is_taken table globals x =
      λ x. ap (λ b. is_in x table || b) (ap is_some (is x) ∙ is_some-position x globals) in
      let more : at + 1 ≡ length (before ++ declared_name d ∷ []) = ap (λ n. n + 1) here ∙ sym (length-append before (declared_name d ∷ [])) in
      let rest = unclear_at (at + 1) (before ++ declared_name d ∷ []) ds more (all ∙ sym (append_assoc before (declared_name d ∷ []) (map declared_name ds))) in
      λ k. (filter (λ x. repeated x k) (declared_name d ∷ []) ++ filter (λ x. taken x k) (parameters_of d)) ++ rest k

pub unclear_are : (u : TranslationUnit) (ds : List (Spanned GlobalDeclaration)) (look : Name → Option ℕ) (table : List Name) → ds ≡ u.global_declarations
    → ((x : Name) → look x ≡ position (bytes_eq x) (declared ds))
    → unclear_from look table 0 (trees ds) ≡ unclear (unit_tree u) table
unclear_are u ds look table are is =
    let names_are : names (unit_tree u) ≡ declared u.global_declarations = map-map declared_name (λ n. declaration_tree n.node) u.global_declarations in
    let globals : declared ds ≡ names (unit_tree u) = ap declared are ∙ sym names_are in
    ap (λ xs. unclear_from look table 0 (trees xs)) are
    ∙ unclear_at look table (names (unit_tree u)) (λ x. is x ∙ ap (position (bytes_eq x)) globals) 0 [] (trees u.global_declarations) refl refl
