-- Declarations are written one by one.
use Rattle.std.proofs.Common.{◌≡◌, refl, sym, ap, ◌∙◌, ℕ, ◌≤◌, List, [], ◌∷◌, map, length, Option, Some, None}
use Rattle.std.specs.Prelude.{filter_map}
use Rattle.std.specs.List.{cons_option}
use Rattle.wgsl_path.specs.declared.span.Spanned.{Spanned}
use Rattle.wgsl_declarations.specs.declared.declaration.GlobalDeclaration.{GlobalDeclaration}
use Rattle.wgsl_declarations.specs.Tree.{Decl}
use Rattle.wgsl_declarations.specs.View.{declaration_tree, declarations_tree}
use Rattle.wesl_marks_mut.specs.Walks.{each, if_there}
use Rattle.wesl_marks_mut.specs.Written.{Left}
use Rattle.wesl_marks_mut.specs.WrittenUnits.{declaration_written}
use Rattle.wesl_marks_mut.proofs.Each.{Wrote, wrote_all}

abbrev pub maybe_declared : Option Decl → Left → Option Decl × Left
maybe_declared = if_there declaration_written

abbrev pub tree_at : Spanned GlobalDeclaration → Option Decl
tree_at n = declaration_tree n.node

abbrev some : List (Option Decl) → List Decl
some xs = filter_map (λ x. x) xs

are_some : (xs : List (Spanned GlobalDeclaration)) → declarations_tree xs ≡ some (map tree_at xs)
are_some [] = refl
are_some (x ∷ xs) = ap (cons_option (tree_at x)) (are_some xs)

some_by : (xs : List (Option Decl)) (s : Left) → (let r = each maybe_declared xs s in (some r.0, r.1)) ≡ each declaration_written (some xs) s
some_by [] s = refl
some_by (None ∷ xs) s = some_by xs s
some_by (Some x ∷ xs) s = let a = declaration_written x s in ap (λ r. (a.0 ∷ r.0, r.1)) (some_by xs a.1)

pub declarations_wrote : {i : ℕ} {xs ys : List (Spanned GlobalDeclaration)} {s t : Left} → Wrote maybe_declared tree_at i xs ys s t → length xs ≤ i
    → (let r : List Decl × Left = (declarations_tree ys, t) in r) ≡ each declaration_written (declarations_tree xs) s
declarations_wrote {xs = xs} {ys = ys} {s = s} {t = t} r less =
    ap (λ d. (d, t)) (are_some ys)
    ∙ ap (λ p. (some p.0, p.1)) (wrote_all maybe_declared tree_at r less)
    ∙ some_by (map tree_at xs) s
    ∙ ap (λ d. each declaration_written d s) (sym (are_some xs))
