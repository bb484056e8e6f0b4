-- The first declaration that no text derives.
use Rattle.std.proofs.Common.{◌≡◌, refl, sym, ap, ◌∙◌, subst, ℕ, suc, ◌+◌, ◌<◌, length, drop, get_or, drop-cons, add-one, List, ◌∷◌, Bool, true, false, Option, Some, None, Result, Ok, Err, Decides, IfOk, ◌≤◌}
use Rattle.std.specs.List.{cons_option}
use Rattle.std.proofs.lemmas.List.{drop_all}
use Rattle.wgsl_path.specs.declared.span.Spanned.{Spanned}
use Rattle.wgsl_declarations.specs.declared.declaration.GlobalDeclaration.{GlobalDeclaration}
use Rattle.wgsl_declarations.specs.Tree.{Decl}
use Rattle.wgsl_declarations.specs.View.{declaration_tree, declarations_tree}
use Rattle.wgsl_read_back.specs.Alone.{at_most_one}
use Rattle.wgsl_read_back.specs.Derivable.{IsDerivable}
use Rattle.wgsl_read_back.proofs.Deciding.{empty_derivable}
use Rattle.wgsl_check_unit.specs.Telling as told
use Rattle.wgsl_check_unit.specs.Telling.{IsToldIn, IsTold, here, later}

pub front : {A : Type 0} (ds : List A) (k : ℕ) (d : A) → k < length ds → d ≡ get_or ds k d → drop k ds ≡ d ∷ drop (k + 1) ds
front ds k d h is = drop-cons ds k d h ∙ ap (λ x. x ∷ drop (suc k) ds) (sym is) ∙ ap (λ n. d ∷ drop n ds) (sym (add-one k))

-- of the declarations from a place on
abbrev pub Leads : List (Spanned GlobalDeclaration) → ℕ → Type 0
Leads ds k = (name : Option (List ℕ)) → IsTold (declarations_tree (drop k ds)) name → IsTold (declarations_tree ds) name

pub never : {b : Bool} → b ≡ true → b ≡ false → ⊥
never e h = let wrong : true ≡ false = sym e ∙ h in cc

module _ (ds : List (Spanned GlobalDeclaration)) (k : ℕ) (d : Spanned GlobalDeclaration) (within : k < length ds) (is : d ≡ get_or ds k d) (leads : Leads ds k) (b : Bool) (test : Decides b (IsDerivable (at_most_one (declaration_tree d.node)))) where
  told_so : {name : Option (List ℕ)} → IsTold (cons_option (declaration_tree d.node) (declarations_tree (drop (k + 1) ds))) name → IsTold (declarations_tree ds) name
  told_so {name = name} h = leads name (let P : List (Spanned GlobalDeclaration) → Type 0 = λ z. IsTold (declarations_tree z) name in subst P (sym (front ds k d within is)) h)

  pub told_here : b ≡ false → (name : Option (List ℕ)) → IsToldIn (declaration_tree d.node) name → IsTold (declarations_tree ds) name
  told_here off name named = told_so (go (declaration_tree d.node) refl)
    where
      none : IsDerivable (at_most_one (declaration_tree d.node)) → ⊥
      none h = never (test.1 h) off

      go : (o : Option Decl) → declaration_tree d.node ≡ o → IsTold (cons_option (declaration_tree d.node) (declarations_tree (drop (k + 1) ds))) name
      go None e = absurd (none (let P : Option Decl → Type 0 = λ z. IsDerivable (at_most_one z) in subst P (sym e) empty_derivable))
      go (Some t) e =
          let P : Option Decl → Type 0 = λ z. IsTold (cons_option z (declarations_tree (drop (k + 1) ds))) name in
          let Q : Option Decl → Type 0 = λ z. IsToldIn z name in
          let R : Option Decl → Type 0 = λ z. IsDerivable (at_most_one z) → ⊥ in
          subst P (sym e) (here (subst R e none) (subst Q e named))

  pub told_later : b ≡ true → Leads ds (k + 1)
  told_later on name h = told_so (go (declaration_tree d.node) refl)
    where
      some : IsDerivable (at_most_one (declaration_tree d.node))
      some = test.0 on

      go : (o : Option Decl) → declaration_tree d.node ≡ o → IsTold (cons_option (declaration_tree d.node) (declarations_tree (drop (k + 1) ds))) name
      go None e = let P : Option Decl → Type 0 = λ z. IsTold (cons_option z (declarations_tree (drop (k + 1) ds))) name in subst P (sym e) h
      go (Some t) e =
          let P : Option Decl → Type 0 = λ z. IsTold (cons_option z (declarations_tree (drop (k + 1) ds))) name in
          let R : Option Decl → Type 0 = λ z. IsDerivable (at_most_one z) in
          subst P (sym e) (later (subst R e some) h)

-- where there is none
pub told_none : (ds : List (Spanned GlobalDeclaration)) (k : ℕ) → Leads ds k → length ds ≤ k → IsTold (declarations_tree ds) None
told_none ds k leads e = leads None (let P : List (Spanned GlobalDeclaration) → Type 0 = λ z. IsTold (declarations_tree z) None in subst P (sym (drop_all k ds e)) told.nothing)

-- what is so of an answer that is good
pub if_ok : {A E : Type 0} {P Q : A → Type 0} (r : Result A E) → ((x : A) → P x → Q x) → IfOk r P → IfOk r Q
if_ok (Ok x) f h = f x h
if_ok (Err e) f h = h
