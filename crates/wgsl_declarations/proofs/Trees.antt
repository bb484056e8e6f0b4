-- The tree of each kind of content of an import, from the trees of its parts.
use Rattle.std.proofs.Common.{◌≡◌, refl, ap, ◌∙◌, List, [], ◌∷◌, map}
use Rattle.wgsl_declarations.specs.declared.imports.import.ImportItem.{ImportItem}
use Rattle.wgsl_declarations.specs.declared.imports.import.ImportOf.{ImportOf}
use Rattle.wgsl_declarations.specs.declared.imports.import.ImportContent.{ImportContent, out-ImportContent, map-ImportContent, fold_out-ImportContent}
use Rattle.wgsl_declarations.specs.declared.imports.import.ImportContent.TheOpen.{ImportContent-F}
use Rattle.wgsl_declarations.specs.declared.imports.import.ImportContent.TheVariants.{Item, outs-Item, Collection, outs-Collection}
use Rattle.wgsl_declarations.specs.ImportsTree.{Content, collection, imps}
use Rattle.wgsl_declarations.specs.ImportsView.{item_tree, import_layer, layer, content_tree, import_tree}

map-map : {A B C : Type 0} (f : B → C) (h : A → B) (xs : List A) → map f (map h xs) ≡ map (λ x. f (h x)) xs
map-map f h [] = refl
map-map f h (x ∷ xs) = ap (λ t. f (h x) ∷ t) (map-map f h xs)

module _ {A : Type 0} (f : A → Content) where
  abbrev import_map : ImportOf A → ImportOf Content
  import_map i = record { path = i.path; content = f i.content }

  pub layer-map : (x : ImportContent-F A) → layer (λ x. x) (map-ImportContent A Content f x) ≡ layer f x
  layer-map (ImportContent-F.Item x) = refl
  layer-map (ImportContent-F.Collection xs) = ap (λ t. collection (imps t)) (map-map (import_layer (λ x. x)) import_map xs)

pub tree_out : (c : ImportContent) → content_tree c ≡ layer content_tree (out-ImportContent c)
tree_out c = fold_out-ImportContent Content (layer (λ x. x)) c ∙ layer-map content_tree (out-ImportContent c)

pub tree_of_item : (x : ImportItem) → content_tree (Item x) ≡ item_tree x
tree_of_item x = tree_out (Item x) ∙ ap (layer content_tree) (outs-Item x)

pub tree_of_collection : (xs : List (ImportOf ImportContent)) → content_tree (Collection xs) ≡ collection (imps (map import_tree xs))
tree_of_collection xs = tree_out (Collection xs) ∙ ap (layer content_tree) (outs-Collection xs)
