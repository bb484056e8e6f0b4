-- The text of each kind of content of an import, from its parts.
use Rattle.std.proofs.Common.{◌≡◌, refl, ap, List, [], ◌∷◌, ◌++◌, map, codes}
use Rattle.std.specs.List.{flat_map}
use Rattle.wgsl_declarations.specs.declared.imports.import.ImportItem.{ImportItem}
use Rattle.wgsl_declarations.specs.declared.imports.import.ImportOf.{ImportOf}
use Rattle.wgsl_declarations.specs.declared.imports.import.ImportContent.{ImportContent}
use Rattle.wgsl_declarations.specs.declared.imports.import.ImportContent.TheVariants.{Item, Collection}
use Rattle.wgsl_expressions.specs.Print.{commas}
use Rattle.wgsl_declarations.specs.ImportsTree.{collection, Imp, imps}
use Rattle.wgsl_declarations.specs.ImportsView.{item_tree, content_tree, import_tree}
use Rattle.wgsl_declarations.specs.ImportsPrint.{content_text, imps_text, more_text, imp_text}
use Rattle.wgsl_declarations.proofs.Trees.{tree_of_item, tree_of_collection}

pub text_of_item : (x : ImportItem) → content_text (content_tree (Item x)) ≡ content_text (item_tree x)
text_of_item x = ap content_text (tree_of_item x)

pub text_of_collection : (xs : List (ImportOf ImportContent)) → content_text (content_tree (Collection xs)) ≡ content_text (collection (imps (map import_tree xs)))
text_of_collection xs = ap content_text (tree_of_collection xs)

more_text_flat : {A : Type 0} (f : A → Imp) (xs : List A) → more_text (imps (map f xs)) ≡ flat_map (λ y. codes ", " ++ imp_text (f y)) xs
more_text_flat f [] = refl
more_text_flat f (x ∷ xs) = ap (λ t. (codes ", " ++ imp_text (f x)) ++ t) (more_text_flat f xs)

pub imps_text_commas : {A : Type 0} (f : A → Imp) (xs : List A) → imps_text (imps (map f xs)) ≡ commas (λ y. imp_text (f y)) xs
imps_text_commas f [] = refl
imps_text_commas f (x ∷ xs) = ap (λ t. imp_text (f x) ++ t) (more_text_flat f xs)
