-- The text of lists of a module's parts, from their code trees.
use Rattle.std.proofs.Common.{◌≡◌, refl, ap, ◌∙◌, ℕ, List, [], ◌∷◌, ◌++◌, Option, Some, None, map, codes}
use Rattle.std.specs.List.{cons_option, flat_map}
use Rattle.std.proofs.lemmas.List.Folds.{flat_map-map}
use Rattle.wgsl_declarations.specs.Spanned.{Spanned}
use Rattle.wgsl_declarations.specs.ExpressionsPrint.{indent}
use Rattle.wgsl_declarations.specs.declared.declaration.StructMember.{StructMember}
use Rattle.wgsl_declarations.specs.declared.declaration.GlobalDeclaration.{GlobalDeclaration}
use Rattle.wgsl_declarations.specs.Tree.{Decl}
use Rattle.wgsl_declarations.specs.View.{member_tree, members_tree, declaration_tree, declarations_tree}
use Rattle.wgsl_declarations.specs.Print.{member_text, members_text, decl_text, lines_text}

pub member_lines : (ns : List (Spanned StructMember)) → (ns ≡ [] → ⊥)
    → members_text (members_tree ns) ≡ codes "{\n" ++ flat_map (λ n. indent 1 ++ member_text (member_tree n.node)) ns ++ codes "}"
member_lines [] filled = absurd (filled refl)
member_lines (n ∷ ns) filled = ap (λ t. codes "{\n" ++ t ++ codes "}") (flat_map-map (λ m. indent 1 ++ member_text m) (λ n. member_tree n.node) (n ∷ ns))

one_more : (d : Option Decl) (ds : List Decl) → flat_map decl_text (cons_option d ds) ≡ lines_text d ++ flat_map decl_text ds
one_more None ds = refl
one_more (Some d) ds = refl

pub declaration_lines : (ns : List (Spanned GlobalDeclaration)) → flat_map decl_text (declarations_tree ns) ≡ flat_map (λ n. lines_text (declaration_tree n.node)) ns
declaration_lines [] = refl
declaration_lines (n ∷ ns) = one_more (declaration_tree n.node) (declarations_tree ns) ∙ ap (λ t. lines_text (declaration_tree n.node) ++ t) (declaration_lines ns)
