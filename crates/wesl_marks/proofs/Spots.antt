-- What a directive, a declaration and a place say.
use Rattle.std.proofs.Common.{◌≡◌, refl, sym, ap, ◌∙◌, subst, ℕ, ◌+◌, ◌<◌, ◌≤◌, [], ◌∷◌, ◌++◌, arith, length, take, map, get_or, List, Option, Some, None, append_assoc}
use Rattle.std.specs.List.{AllZip}
use Rattle.std.proofs.lemmas.List.{append-nil, map-append, take_more}
use Rattle.wgsl_path.specs.declared.span.Spanned.{Spanned}
use Rattle.wgsl_declarations.specs.declared.imports.directive.GlobalDirective.{GlobalDirective}
use Rattle.wgsl_declarations.specs.ImportsView.{directive_tree}
use Rattle.wgsl_declarations.specs.declared.declaration.GlobalDeclaration.{GlobalDeclaration}
use Rattle.wgsl_declarations.specs.declared.declaration.GlobalDeclaration.TheVariants as code
use Rattle.wgsl_declarations.specs.View.{declaration_tree}
use Rattle.wgsl_declarations.specs.ImportsTree.{Directive}
use Rattle.wgsl_declarations.specs.Tree.{Decl}
use Rattle.wgsl_skeleton.specs.Trees.{directive_attributes}
use Rattle.wesl_mark.specs.declared.place.Place.{Place}
use Rattle.wesl_mark.specs.declared.mark.MarkList.{MarkList}
use Rattle.wesl_mark.specs.Places.{DeclarationId, IsSpot}
use Rattle.wesl_mark.specs.Flats.{Flat}
use Rattle.wesl_mark.specs.Lists.{says, flats, flats_between, OnlyGrows}
use Rattle.wesl_mark.proofs.Growing.{grows_itself}
use Rattle.wesl_mark.proofs.Spots.{said_since, spots_more}
use Rattle.wesl_marks.specs.Laid.{in_attrs, in_optional_decl}
use Rattle.wesl_marks.specs.Units.{directive_flats, declaration_flats, directive_spot, declaration_spot, directive_spots, declaration_spots}
use Rattle.wesl_marks.proofs.Skeletons as skeletons

pub laid_directive : (x : Directive) → directive_flats x ≡ in_attrs (directive_attributes x)
unfolding directive_flats
laid_directive x = skeletons.laid_attributes (directive_attributes x)

pub laid_declaration : (x : Option Decl) → declaration_flats x ≡ in_optional_decl x
unfolding declaration_flats
laid_declaration None = refl
laid_declaration (Some x) = skeletons.laid_declaration x

pub void_says_nothing : (old : List Flat) (x : GlobalDeclaration) → x ≡ code.Void → old ≡ old ++ declaration_flats (declaration_tree x)
void_says_nothing old x is = sym (ap (λ d. old ++ declaration_flats (declaration_tree d)) is ∙ ap (λ s. old ++ s) (laid_declaration None) ∙ append-nil old)

-- what stands between two lengths of a list that grew
pub spot_since : (old new : MarkList) (start end : ℕ) (x : List Flat) → start ≡ length (says old) → end ≡ length (says new) → flats new ≡ flats old ++ x → OnlyGrows old new
    → (end ≤ length (says new)) × (flats_between new start end ≡ x)
spot_since old new start end x first last e grows = (
  omega (arith, last),
  ap (λ n. flats_between new n end) first ∙ ap (λ n. flats_between new (length (says old)) n) last ∙ said_since old new x e (grows old (grows_itself old)),
)

-- ---- the loops over a unit

same_spots : (l : MarkList) (ps qs : List Place) (ss ts : List DeclarationId) → ps ≡ qs → ss ≡ ts → AllZip (IsSpot l) ps ss → AllZip (IsSpot l) qs ts
same_spots l ps qs ss ts e f h = subst (λ (us : List Place). AllZip (IsSpot l) us ts) e (subst (λ (us : List DeclarationId). AllZip (IsSpot l) ps us) f h)

pub directive_step : (old new : MarkList) (xs : List GlobalDirective) (i : ℕ) (x : GlobalDirective) (ps qs : List Place) (p : Place) → i < length xs → x ≡ get_or xs i x → qs ≡ ps ++ p ∷ []
    → AllZip (IsSpot old) ps (directive_spots (take i xs)) → OnlyGrows old new → IsSpot new p (directive_spot (directive_tree x)) → AllZip (IsSpot new) qs (directive_spots (take (i + 1) xs))
directive_step old new xs i x ps qs p below at e h grows spot =
    let f : GlobalDirective → DeclarationId = λ x. directive_spot (directive_tree x) in
    let more : directive_spots (take (i + 1) xs) ≡ directive_spots (take i xs) ++ f x ∷ [] =
    ap (map f) (take_more xs i x below) ∙ map-append f (take i xs) (get_or xs i x ∷ []) ∙ ap (λ y. directive_spots (take i xs) ++ f y ∷ []) (sym at) in
    same_spots new (ps ++ p ∷ []) qs (directive_spots (take i xs) ++ f x ∷ []) (directive_spots (take (i + 1) xs)) (sym e) (sym more)
    (spots_more old new grows ps (directive_spots (take i xs)) p (f x) h spot)

pub declaration_step : (old new : MarkList) (front : List DeclarationId) (xs : List (Spanned GlobalDeclaration)) (i : ℕ) (x : Spanned GlobalDeclaration) (ps qs : List Place) (p : Place) → i < length xs → x ≡ get_or xs i x → qs ≡ ps ++ p ∷ []
    → AllZip (IsSpot old) ps (front ++ declaration_spots (take i xs)) → OnlyGrows old new → IsSpot new p (declaration_spot (declaration_tree x.node)) → AllZip (IsSpot new) qs (front ++ declaration_spots (take (i + 1) xs))
declaration_step old new front xs i x ps qs p below at e h grows spot =
    let f : Spanned GlobalDeclaration → DeclarationId = λ n. declaration_spot (declaration_tree n.node) in
    let more : declaration_spots (take (i + 1) xs) ≡ declaration_spots (take i xs) ++ f x ∷ [] =
    ap (map f) (take_more xs i x below) ∙ map-append f (take i xs) (get_or xs i x ∷ []) ∙ ap (λ y. declaration_spots (take i xs) ++ f y ∷ []) (sym at) in
    same_spots new (ps ++ p ∷ []) qs ((front ++ declaration_spots (take i xs)) ++ f x ∷ []) (front ++ declaration_spots (take (i + 1) xs)) (sym e)
    (append_assoc front (declaration_spots (take i xs)) (f x ∷ []) ∙ ap (λ s. front ++ s) (sym more))
    (spots_more old new grows ps (front ++ declaration_spots (take i xs)) p (f x) h spot)
