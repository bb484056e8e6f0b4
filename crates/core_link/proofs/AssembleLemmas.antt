-- The linked declarations, one more at a time.
use Rattle.std.proofs.Common.{◌≡◌, sym, ap, ◌∙◌, ℕ, suc, ◌+◌, ◌<◌, ◌≤◌, List, [], ◌∷◌, ◌++◌, map, drop, length, get_or, Bool, true, false, drop-cons, add-one, append_assoc}
use Rattle.std.specs.Prelude.{if◌then◌else◌}
use Rattle.std.proofs.lemmas.List.{append-nil, drop_all}
use Rattle.wgsl_path.specs.declared.span.Spanned.{Spanned}
use Rattle.core_syntax.specs.declared.declaration.GlobalDeclaration.{GlobalDeclaration}
use Rattle.core_syntax.specs.Tree.{Decl}
use Rattle.core_syntax.specs.View.{declaration_tree}
use Rattle.core_link.specs.Assembling.{held_among}
use Rattle.core_link.specs.Assembling.{declaration_trees}

front : (ds : List (Spanned GlobalDeclaration)) (k : ℕ) (d : Spanned GlobalDeclaration) → k < length ds → d ≡ get_or ds k d → drop k ds ≡ d ∷ drop (k + 1) ds
front ds k d h is = drop-cons ds k d h ∙ ap (λ x. x ∷ drop (suc k) ds) (sym is) ∙ ap (λ n. d ∷ drop n ds) (sym (add-one k))

one_more : (R : Decl → Decl) (b : Bool) (old new : List Decl) (d : Decl) (rest : List Decl) → new ≡ old ++ (if b then R d ∷ [] else [])
    → new ++ map R rest ≡ old ++ map R (if b then d ∷ rest else rest)
one_more R true old new d rest e = ap (λ l. l ++ map R rest) e ∙ append_assoc old (R d ∷ []) (map R rest)
one_more R false old new d rest e = ap (λ l. l ++ map R rest) (e ∙ append-nil old)

pub held_step : (R : Decl → Decl) (h : ℕ → Bool) (old new : List Decl) (ds : List (Spanned GlobalDeclaration)) (place : ℕ) (d : Spanned GlobalDeclaration)
    → place < length ds → d ≡ get_or ds place d → new ≡ old ++ (if h place then R (declaration_tree d.node) ∷ [] else [])
    → new ++ map R (held_among h (place + 1) (declaration_trees (drop (place + 1) ds))) ≡ old ++ map R (held_among h place (declaration_trees (drop place ds)))
held_step R h old new ds place d less is e =
    one_more R (h place) old new (declaration_tree d.node) (held_among h (place + 1) (declaration_trees (drop (place + 1) ds))) e
    ∙ sym (ap (λ l. old ++ map R (held_among h place (declaration_trees l))) (front ds place d less is))

pub held_end : (R : Decl → Decl) (h : ℕ → Bool) (trees : List Decl) (ds : List (Spanned GlobalDeclaration)) (place : ℕ) → length ds ≤ place
    → trees ≡ trees ++ map R (held_among h place (declaration_trees (drop place ds)))
held_end R h trees ds place more = sym (ap (λ l. trees ++ map R (held_among h place (declaration_trees l))) (drop_all place ds more) ∙ append-nil trees)
