-- The productions of import statements and of what they consist of.
use Rattle.std.proofs.Common.{◌≡◌, refl, sym, ap, ◌∙◌, ℕ, suc, List, [], ◌∷◌, ◌++◌, append_assoc, append-nil, Option, Some, None}
use Rattle.std.proofs.lemmas.List.{map-append}
use Rattle.wgsl_path.specs.declared.path.PathOrigin.TheVariants.{Relative, Package}
use Rattle.wgsl_path.specs.declared.path.ModulePath.{ModulePath}
use Rattle.wgsl_path.specs.Paths.{ident_of}
use Rattle.wgsl_path.specs.Joining.{root_path, with_names}
use Rattle.wgsl_token.specs.declared.token.Fixed.TheVariants as f
use Rattle.wgsl_templates.specs.declared.meaning.token.TemplateToken.{TemplateToken}
use Rattle.wgsl_templates.specs.declared.meaning.token.SpannedTemplateToken.{SpannedTemplateToken}
use Rattle.wgsl_print_laws.specs.OptionalMarks.{comma}
use Rattle.wgsl_expressions.specs.AttributesTree.{Attr}
use Rattle.wgsl_declarations.specs.declared.imports.import.ImportContent.TheVariants as content
use Rattle.wgsl_declarations.specs.ImportsTree.{Content, item, collection, Imp, imps, Importing}
use Rattle.wgsl_declarations.specs.ImportsView.{import_tree}
use Rattle.wgsl_declarations.proofs.Trees.{tree_of_item, tree_of_collection}
use Rattle.wgsl_print_laws.specs.Tokens.{mark, word, origin_tokens, qualifier_tokens}
use Rattle.wgsl_print_laws.specs.Imports.{no_attributes, steps_tokens, content_tokens, more_imps_tokens, import_rest, ImportTokens, an_import}
use Rattle.wgsl_grammar_tables.specs.Grammars.{Symbol, token, phrase}
use Rattle.wgsl_semantic_values.specs.Reading.{attributes_of}
use Rattle.wgsl_semantic_values.specs.declared.part.Part.{Part}
use Rattle.wgsl_semantic_values.specs.declared.part.Part.TheVariants as part
use Rattle.wgsl_semantic_values.specs.declared.label.Label.TheVariants as l
use Rattle.wgsl_semantic_values.specs.declared.label.ImportLabel.TheVariants as label
use Rattle.wgsl_parser.specs.Phrase.{Phrase}
use Rattle.wgsl_parser.specs.Imports as make
use Rattle.wgsl_parser.specs.Reading.{path_in, names_of}
use Rattle.wgsl_semantic_values.specs.Lists as lists
use Rattle.wgsl_grammar_tables.specs.Classes.{fixed_class}
use Rattle.wgsl_read_back.proofs.Views.{View, view_tokens, Stands, some_attributes, a_source, no_source, some_steps, no_steps, a_content, a_tree, some_trees, an_importing}
use Rattle.wgsl_read_back.proofs.Views as v
use Rattle.wgsl_read_back.proofs.Items.{Back, ListBack, OneToken, cuts}
use Rattle.wgsl_read_back.proofs.Rows.{nil as no_more, more, Stood, stood_pass, Makes, make_of, makes_of, Rebuild, back_of, of_one, of_three}
use Rattle.wgsl_read_back.proofs.Pieces.{of_no_part, of_one_part, of_two_parts, of_three_parts, end, a_mark, a_leaf, a_part, a_list, no_part, Made, made_as, pieces_back, phrase_back}
use Rattle.wgsl_read_back.proofs.Places.{word_of}
use Rattle.wgsl_read_back.proofs.Families.{mark_item, mark_tokens}
use Rattle.wgsl_read_back.proofs.Lists.{list_without, list_with}
use Rattle.wgsl_read_back.proofs.Operands.{Upped, word_item, word_part, within_tokens}
use Rattle.wgsl_read_back.proofs.AttributeRows.{AttributesRowed, attributes_are}

-- ---- what phrases are

abbrev pub Sourced : ℕ → List SpannedTemplateToken → Phrase Part → Type 0
Sourced n u x = (q : ModulePath) × Back n (v.source (Some q)) u x

abbrev pub Stepped : ℕ → List SpannedTemplateToken → Phrase Part → Type 0
Stepped n u x = (y : List ℕ) × (ys : List (List ℕ)) × Back n (v.steps (y ∷ ys)) u x

abbrev pub Contained : ℕ → List SpannedTemplateToken → Phrase Part → Type 0
Contained n u x = (c : Content) × Back n (v.content c) u x

abbrev pub Treed : ℕ → List SpannedTemplateToken → Phrase Part → Type 0
Treed n u x = (i : Imp) × Back n (v.tree i) u x

-- some of them with commas between them, and the same where a last comma may stand
abbrev pub TreesSeparated : ℕ → List SpannedTemplateToken → Phrase Part → Type 0
TreesSeparated n u x = (i : Imp) × (is : List Imp) × Back n (v.trees (i ∷ is)) u x

abbrev pub TreesListed : ℕ → List SpannedTemplateToken → Phrase Part → Type 0
TreesListed n u x = (is : List Imp) × ListBack n (v.trees is) u x

abbrev pub Imported : ℕ → List SpannedTemplateToken → Phrase Part → Type 0
Imported n u x = (i : Importing) × (ts : List TemplateToken) × ImportTokens i ts × Back n (v.importing i ts) u x

-- ---- what parts are

source_part : (p : Part) (q : ModulePath) → Stands p (v.source (Some q)) → p ≡ part.ModulePath q
source_part p q (a_source e) = e

steps_part : (p : Part) (y : List ℕ) (ys : List (List ℕ)) → Stands p (v.steps (y ∷ ys)) → p ≡ part.Texts (y ∷ ys)
steps_part p y ys (some_steps e) = e

ups_part : (p : Part) (k : ℕ) → Stands p (v.ups k) → p ≡ part.Ups k
ups_part p k (v.an_ups e) = e

-- what may be absent
path_is : (p : Part) (q : Option ModulePath) → Stands p (v.source q) → path_in p ≡ q
path_is p _ (a_source e) = ap path_in e
path_is p _ (no_source e) = ap path_in e

names_are : (p : Part) (xs : List (List ℕ)) → Stands p (v.steps xs) → names_of p ≡ xs
names_are p _ (some_steps e) = ap names_of e
names_are p _ (no_steps e) = ap names_of e

-- ---- where an import begins

abbrev pub step_row : List Symbol
step_row = token 77 ∷ token (fixed_class f.PathSeparator) ∷ []

abbrev pub own_row : List Symbol
own_row = token (fixed_class f.Package) ∷ token (fixed_class f.PathSeparator) ∷ []

-- behind a phrase
abbrev pub further_row : ℕ → List Symbol
further_row m = phrase m ∷ step_row

pub from_package : (n : ℕ) → Rebuild n step_row (l.Import label.FromPackage) (2 ∷ 1 ∷ []) → {a b : List SpannedTemplateToken} {x y : Phrase Part} → OneToken 77 a x → OneToken (fixed_class f.PathSeparator) b y
    → Sourced n (a ++ (b ++ [])) (make_of (l.Import label.FromPackage) (2 ∷ 1 ∷ []) (x ∷ y ∷ []))
from_package n rebuild {a = a} {b = b} {x = x} {y = s} i j =
    let y = (word_of i.one.token i.class).0 in
    let q : ModulePath = record { origin = Package y; components = [] } in (
      q,
      pieces_back n step_row (2 ∷ 1 ∷ []) (token 77) (token (fixed_class f.PathSeparator) ∷ []) (2 ∷ 1 ∷ []) (l.Import label.FromPackage) rebuild rebuild (v.source (Some q))
          (a_leaf (word_item a x i) (a_mark (mark_item f.PathSeparator b s j) end)) refl
          (of_one_part (λ qs. Made (l.Import label.FromPackage) qs (v.source (Some q))) (λ p h. made_as (l.Import label.FromPackage) (p ∷ []) (v.source (Some q)) (λ s. part.ModulePath q) (λ s k. make.from_package (word_part p y h k ∷ [])) (λ s. a_source refl) (λ s. refl) refl))
          (λ c o. tt) (λ c o. refl) (λ c o. tt),
    )

pub from_own : (n : ℕ) → Rebuild n own_row (l.Import label.FromOwn) (1 ∷ 1 ∷ []) → {a b : List SpannedTemplateToken} {x y : Phrase Part} → OneToken (fixed_class f.Package) a x → OneToken (fixed_class f.PathSeparator) b y
    → Sourced n (a ++ (b ++ [])) (make_of (l.Import label.FromOwn) (1 ∷ 1 ∷ []) (x ∷ y ∷ []))
from_own n rebuild {a = a} {b = b} {x = x} {y = y} i j = (
  root_path,
  pieces_back n own_row (1 ∷ 1 ∷ []) (token (fixed_class f.Package)) (token (fixed_class f.PathSeparator) ∷ []) (1 ∷ 1 ∷ []) (l.Import label.FromOwn) rebuild rebuild (v.source (Some root_path))
      (a_mark (mark_item f.Package a x i) (a_mark (mark_item f.PathSeparator b y j) end)) refl
      (of_no_part (λ qs. Made (l.Import label.FromOwn) qs (v.source (Some root_path))) (made_as (l.Import label.FromOwn) [] (v.source (Some root_path)) (λ s. part.ModulePath root_path) (λ s. refl) (λ s. a_source refl) (λ s. refl) refl))
      (λ c o. tt) (λ c o. refl) (λ c o. tt),
)

pub from_above : (n m : ℕ) → Rebuild n (phrase m ∷ []) (l.Import label.FromAbove) (2 ∷ []) → {u : List SpannedTemplateToken} {x : Phrase Part} → Upped m u x → Sourced n (u ++ []) (make_of (l.Import label.FromAbove) (2 ∷ []) (x ∷ []))
from_above n m rebuild g =
    let q : ModulePath = record { origin = Relative (suc g.0); components = [] } in (
      q,
      phrase_back n m (l.Import label.FromAbove) rebuild (v.source (Some q)) g.1 (tokens (suc g.0)) (λ p h. made_as (l.Import label.FromAbove) (p ∷ []) (v.source (Some q)) (λ s. part.ModulePath q) (λ s k. make.from_above (ups_part p (suc g.0) h k ∷ [])) (λ s. a_source refl) (λ s. refl) refl) (λ c o. tt),
    )
  where
    tokens : (k : ℕ) → view_tokens (v.ups k) ++ [] ≡ view_tokens (v.source (Some (record { origin = Relative k; components = [] })))
    tokens k = append-nil (view_tokens (v.ups k)) ∙ ap (λ z. z ++ (mark f.PathSeparator ∷ [])) (sym (append-nil (origin_tokens (Relative k))))

pub from_within : (n m : ℕ) → Rebuild n (further_row m) (l.Import label.FromWithin) (2 ∷ 2 ∷ 1 ∷ []) → {a b c : List SpannedTemplateToken} {x y z : Phrase Part} → Sourced m a x → OneToken 77 b y → OneToken (fixed_class f.PathSeparator) c z
    → Sourced n (a ++ (b ++ (c ++ []))) (make_of (l.Import label.FromWithin) (2 ∷ 2 ∷ 1 ∷ []) (x ∷ y ∷ z ∷ []))
from_within n m rebuild {b = b} {c = c} {y = s} {z = z} g i j =
    let y = (word_of i.one.token i.class).0 in
    let q = with_names g.0 (y ∷ []) in (
      q,
      pieces_back n (further_row m) (2 ∷ 2 ∷ 1 ∷ []) (phrase m) step_row (2 ∷ 2 ∷ 1 ∷ []) (l.Import label.FromWithin) rebuild rebuild (v.source (Some q))
          (a_part g.1 (a_leaf (word_item b s i) (a_mark (mark_item f.PathSeparator c z j) end))) (tokens g.0 y)
          (of_two_parts (λ qs. Made (l.Import label.FromWithin) qs (v.source (Some q))) (λ p r h k. made_as (l.Import label.FromWithin) (p ∷ r ∷ []) (v.source (Some q)) (λ s. part.ModulePath q) (λ s i. make.from_within (source_part p g.0 h i ∷ word_part r y k i ∷ [])) (λ s. a_source refl) (λ s. refl) refl))
          (λ d o. tt) (λ d o. refl) (λ d o. tt),
    )
  where
    tokens : (q : ModulePath) (y : List ℕ) → qualifier_tokens (Some q) ++ (word y ∷ mark f.PathSeparator ∷ []) ≡ qualifier_tokens (Some (with_names q (y ∷ [])))
    tokens q y = sym (append_assoc (qualifier_tokens (Some q)) (word y ∷ []) (mark f.PathSeparator ∷ [])) ∙ ap (λ z. z ++ (mark f.PathSeparator ∷ [])) (sym (within_tokens (Some q) y))

-- ---- steps

pub first_step : (n : ℕ) → Rebuild n step_row (l.Import label.FirstStep) (2 ∷ 1 ∷ []) → {a b : List SpannedTemplateToken} {x y : Phrase Part} → OneToken 77 a x → OneToken (fixed_class f.PathSeparator) b y
    → Stepped n (a ++ (b ++ [])) (make_of (l.Import label.FirstStep) (2 ∷ 1 ∷ []) (x ∷ y ∷ []))
first_step n rebuild {a = a} {b = b} {x = x} {y = s} i j =
    let y = (word_of i.one.token i.class).0 in (
      y,
      [],
      pieces_back n step_row (2 ∷ 1 ∷ []) (token 77) (token (fixed_class f.PathSeparator) ∷ []) (2 ∷ 1 ∷ []) (l.Import label.FirstStep) rebuild rebuild (v.steps (y ∷ []))
          (a_leaf (word_item a x i) (a_mark (mark_item f.PathSeparator b s j) end)) refl
          (of_one_part (λ qs. Made (l.Import label.FirstStep) qs (v.steps (y ∷ []))) (λ p h. made_as (l.Import label.FirstStep) (p ∷ []) (v.steps (y ∷ [])) (λ s. part.Texts (y ∷ [])) (λ s k. make.first_step (word_part p y h k ∷ [])) (λ s. some_steps refl) (λ s. refl) refl))
          (λ c o. tt) (λ c o. refl) (λ c o. tt),
    )

steps_last : (xs : List (List ℕ)) (y : List ℕ) → steps_tokens xs ++ (word y ∷ mark f.PathSeparator ∷ []) ≡ steps_tokens (xs ++ (y ∷ []))
steps_last [] y = refl
steps_last (x ∷ xs) y = ap (λ z. word x ∷ mark f.PathSeparator ∷ z) (steps_last xs y)

pub next_step : (n m : ℕ) → Rebuild n (further_row m) (l.Import label.NextStep) (2 ∷ 2 ∷ 1 ∷ []) → {a b c : List SpannedTemplateToken} {x y z : Phrase Part} → Stepped m a x → OneToken 77 b y → OneToken (fixed_class f.PathSeparator) c z
    → Stepped n (a ++ (b ++ (c ++ []))) (make_of (l.Import label.NextStep) (2 ∷ 2 ∷ 1 ∷ []) (x ∷ y ∷ z ∷ []))
next_step n m rebuild {b = b} {c = c} {y = s} {z = z} g i j =
    let y = (word_of i.one.token i.class).0 in
    let ys : List (List ℕ) = g.1 ++ (y ∷ []) in (
      g.0,
      ys,
      pieces_back n (further_row m) (2 ∷ 2 ∷ 1 ∷ []) (phrase m) step_row (2 ∷ 2 ∷ 1 ∷ []) (l.Import label.NextStep) rebuild rebuild (v.steps (g.0 ∷ ys))
          (a_part g.2 (a_leaf (word_item b s i) (a_mark (mark_item f.PathSeparator c z j) end))) (steps_last (g.0 ∷ g.1) y)
          (of_two_parts (λ qs. Made (l.Import label.NextStep) qs (v.steps (g.0 ∷ ys))) (λ p r h k. made_as (l.Import label.NextStep) (p ∷ r ∷ []) (v.steps (g.0 ∷ ys)) (λ s. part.Texts (g.0 ∷ ys)) (λ s i. make.next_step (steps_part p g.0 g.1 h i ∷ word_part r y k i ∷ [])) (λ s. some_steps refl) (λ s. refl) refl))
          (λ d o. tt) (λ d o. refl) (λ d o. tt),
    )

-- ---- what is taken

pub item_read : (n : ℕ) → Rebuild n (token 77 ∷ []) (l.Import label.Item) (2 ∷ []) → {u : List SpannedTemplateToken} {x : Phrase Part} → OneToken 77 u x → Contained n (u ++ []) (make_of (l.Import label.Item) (2 ∷ []) (x ∷ []))
item_read n rebuild {u = u} {x = x} i =
    let y = (word_of i.one.token i.class).0 in
    let c : Content = item y None in (
      c,
      pieces_back n (token 77 ∷ []) (2 ∷ []) (token 77) [] (2 ∷ []) (l.Import label.Item) rebuild rebuild (v.content c) (a_leaf (word_item u x i) end) refl
          (of_one_part (λ qs. Made (l.Import label.Item) qs (v.content c)) (λ p h.
          made_as (l.Import label.Item) (p ∷ []) (v.content c) (λ s. part.Content (content.Item (record { ident = ident_of y; rename = None }))) (λ s k. make.item (word_part p y h k ∷ [])) (λ s. a_content _ refl (tree_of_item (record { ident = ident_of y; rename = None }))) (λ s. refl) refl))
          (λ d o. tt) (λ d o. refl) (λ d o. tt),
    )

abbrev pub renamed_row : List Symbol
renamed_row = token 77 ∷ token (fixed_class f.As) ∷ token 77 ∷ []

pub renamed_read : (n : ℕ) → Rebuild n renamed_row (l.Import label.Renamed) (2 ∷ 1 ∷ 2 ∷ []) → {a b c : List SpannedTemplateToken} {x y z : Phrase Part} → OneToken 77 a x → OneToken (fixed_class f.As) b y → OneToken 77 c z
    → Contained n (a ++ (b ++ (c ++ []))) (make_of (l.Import label.Renamed) (2 ∷ 1 ∷ 2 ∷ []) (x ∷ y ∷ z ∷ []))
renamed_read n rebuild {a = a} {b = b} {c = e} {x = x} {y = s} {z = z} i j k =
    let y = (word_of i.one.token i.class).0 in
    let r = (word_of k.one.token k.class).0 in
    let c : Content = item y (Some r) in (
      c,
      pieces_back n renamed_row (2 ∷ 1 ∷ 2 ∷ []) (token 77) (token (fixed_class f.As) ∷ token 77 ∷ []) (2 ∷ 1 ∷ 2 ∷ []) (l.Import label.Renamed) rebuild rebuild (v.content c)
          (a_leaf (word_item a x i) (a_mark (mark_item f.As b s j) (a_leaf (word_item e z k) end))) refl
          (of_two_parts (λ qs. Made (l.Import label.Renamed) qs (v.content c)) (λ p q h g.
          made_as (l.Import label.Renamed) (p ∷ q ∷ []) (v.content c) (λ s. part.Content (content.Item (record { ident = ident_of y; rename = Some (ident_of r) }))) (λ s i. make.renamed (word_part p y h i ∷ word_part q r g i ∷ []))
          (λ s. a_content _ refl (tree_of_item (record { ident = ident_of y; rename = Some (ident_of r) }))) (λ s. refl) refl))
          (λ d o. tt) (λ d o. refl) (λ d o. tt),
    )

abbrev pub collection_row : ℕ → List Symbol
collection_row m = token (fixed_class f.BraceLeft) ∷ phrase m ∷ token (fixed_class f.BraceRight) ∷ []

pub collection_read : (n m : ℕ) → Rebuild n (collection_row m) (l.Import label.Collection) (1 ∷ 2 ∷ 1 ∷ []) → {a b c : List SpannedTemplateToken} {x y z : Phrase Part} → OneToken (fixed_class f.BraceLeft) a x → TreesListed m b y → OneToken (fixed_class f.BraceRight) c z
    → Contained n (a ++ (b ++ (c ++ []))) (make_of (l.Import label.Collection) (1 ∷ 2 ∷ 1 ∷ []) (x ∷ y ∷ z ∷ []))
collection_read n m rebuild {a = a} {c = c} {x = x} {z = z} i g k = (
  collection (imps g.0),
  pieces_back n (collection_row m) (1 ∷ 2 ∷ 1 ∷ []) (token (fixed_class f.BraceLeft)) (phrase m ∷ token (fixed_class f.BraceRight) ∷ []) (1 ∷ 2 ∷ 1 ∷ []) (l.Import label.Collection) rebuild rebuild (v.content (collection (imps g.0)))
      (a_mark (mark_item f.BraceLeft a x i) (a_list g.1 (mark_item f.BraceRight c z k) (mark_tokens f.BraceRight k) (cuts (λ us. refl)) end)) refl
      (of_one_part (λ qs. Made (l.Import label.Collection) qs (v.content (collection (imps g.0)))) (makes g.0))
      (λ d o. (tt, tt)) (λ d o. refl) (λ d o. tt),
)
  where
    makes : (is : List Imp) (p : Part) → Stands p (v.trees is) → Made (l.Import label.Collection) (p ∷ []) (v.content (collection (imps is)))
    makes is p (some_trees ys e q) =
        made_as (l.Import label.Collection) (p ∷ []) (v.content (collection (imps is))) (λ s. part.Content (content.Collection ys)) (λ s i. make.collection (e i ∷ [])) (λ s. a_content _ refl (tree_of_collection ys ∙ ap (λ z. collection (imps z)) q)) (λ s. refl) refl

-- ---- imports in braces

abbrev imp : List (List ℕ) → Content → Imp
imp path c = record { path = path; content = c }

tree_makes : (path : List (List ℕ)) (c : Content) (p k : Part) → Stands p (v.steps path) → Stands k (v.content c) → Made (l.Import label.Tree) (p ∷ k ∷ []) (v.tree (imp path c))
tree_makes path c p k h (a_content y e q) =
    made_as (l.Import label.Tree) (p ∷ k ∷ []) (v.tree (imp path c)) (λ s. part.Tree (record { path = names_of p; content = y })) (λ s i. make.tree (p ∷ e i ∷ [])) (λ s. a_tree _ refl (λ i. imp (names_are p path h i) (q i))) (λ s. refl) refl

pub tree_alone : (n m : ℕ) → Rebuild n (phrase m ∷ []) (l.Import label.Tree) (0 ∷ 2 ∷ []) → {u : List SpannedTemplateToken} {x : Phrase Part} → Contained m u x → Treed n (u ++ []) (make_of (l.Import label.Tree) (0 ∷ 2 ∷ []) (x ∷ []))
tree_alone n m rebuild g = (
  imp [] g.0,
  pieces_back n (phrase m ∷ []) (0 ∷ 2 ∷ []) (phrase m) [] (0 ∷ 2 ∷ []) (l.Import label.Tree) rebuild rebuild (v.tree (imp [] g.0)) (no_part (v.steps []) (no_steps refl) (a_part g.1 end)) (append-nil (content_tokens g.0))
      (of_two_parts (λ qs. Made (l.Import label.Tree) qs (v.tree (imp [] g.0))) (tree_makes [] g.0)) (λ c o. tt) (λ c o. refl) (λ c o. tt),
)

pub tree_further : (n m r : ℕ) → Rebuild n (phrase m ∷ phrase r ∷ []) (l.Import label.Tree) (2 ∷ 2 ∷ []) → {a b : List SpannedTemplateToken} {x y : Phrase Part} → Stepped m a x → Contained r b y
    → Treed n (a ++ (b ++ [])) (make_of (l.Import label.Tree) (2 ∷ 2 ∷ []) (x ∷ y ∷ []))
tree_further n m r rebuild h g = (
  imp (h.0 ∷ h.1) g.0,
  pieces_back n (phrase m ∷ phrase r ∷ []) (2 ∷ 2 ∷ []) (phrase m) (phrase r ∷ []) (2 ∷ 2 ∷ []) (l.Import label.Tree) rebuild rebuild (v.tree (imp (h.0 ∷ h.1) g.0)) (a_part h.2 (a_part g.1 end))
      (ap (λ z. steps_tokens (h.0 ∷ h.1) ++ z) (append-nil (content_tokens g.0))) (of_two_parts (λ qs. Made (l.Import label.Tree) qs (v.tree (imp (h.0 ∷ h.1) g.0))) (tree_makes (h.0 ∷ h.1) g.0)) (λ c o. tt) (λ c o. refl) (λ c o. tt),
)

pub first_tree : (n m : ℕ) → Rebuild n (phrase m ∷ []) l.First (2 ∷ []) → {u : List SpannedTemplateToken} {x : Phrase Part} → Treed m u x → TreesSeparated n (u ++ []) (make_of l.First (2 ∷ []) (x ∷ []))
first_tree n m rebuild g = (
  g.0,
  [],
  back_of n (phrase m ∷ []) l.First (2 ∷ []) rebuild (v.tree g.0 ∷ []) (v.trees (g.0 ∷ [])) refl
      (of_one (λ ys. Makes (v.trees (g.0 ∷ [])) (make_of l.First (2 ∷ []) ys)) (makes g.0))
      (more g.1.item no_more) (λ c p. tt) g.1.level (λ c p. tt),
)
  where
    makes : (i : Imp) (a : Phrase Part) → Stood (a ∷ []) (v.tree i ∷ []) → Makes (v.trees (i ∷ [])) (make_of l.First (2 ∷ []) (a ∷ []))
    makes i a h = go h.0.0
      where
        go : Stands a.part (v.tree i) → Makes (v.trees (i ∷ [])) (make_of l.First (2 ∷ []) (a ∷ []))
        go (a_tree x is p) =
            makes_of l.First (2 ∷ []) a [] (v.trees (i ∷ [])) (λ z. part.Trees (x ∷ [])) (λ z i. lists.started (is i)) (λ z. some_trees _ refl (λ i. p i ∷ [])) (λ ps. refl) (λ z. refl) (stood_pass (a ∷ []) (v.tree i ∷ []) h)

trees_last : (is : List Imp) (j : Imp) → more_imps_tokens (imps (is ++ (j ∷ []))) ≡ more_imps_tokens (imps is) ++ (comma ∷ (view_tokens (v.tree j) ++ []))
trees_last [] j = refl
trees_last (i ∷ is) j =
    ap (λ z. comma ∷ (view_tokens (v.tree i) ++ z)) (trees_last is j) ∙ ap (λ z. comma ∷ z) (sym (append_assoc (view_tokens (v.tree i)) (more_imps_tokens (imps is)) (comma ∷ (view_tokens (v.tree j) ++ []))))

pub more_trees : (n m : ℕ) → Rebuild n (phrase n ∷ token (fixed_class f.Comma) ∷ phrase m ∷ []) l.More (2 ∷ 1 ∷ 2 ∷ []) → {a b c : List SpannedTemplateToken} {x y z : Phrase Part} → TreesSeparated n a x → OneToken (fixed_class f.Comma) b y → Treed m c z
    → TreesSeparated n (a ++ (b ++ (c ++ []))) (make_of l.More (2 ∷ 1 ∷ 2 ∷ []) (x ∷ y ∷ z ∷ []))
more_trees n m rebuild {b = b} {y = y} g i h = (
  g.0,
  g.1 ++ (h.0 ∷ []),
  back_of n (phrase n ∷ token (fixed_class f.Comma) ∷ phrase m ∷ []) l.More (2 ∷ 1 ∷ 2 ∷ []) rebuild (v.trees (g.0 ∷ g.1) ∷ v.token comma ∷ v.tree h.0 ∷ []) (v.trees (g.0 ∷ (g.1 ++ (h.0 ∷ []))))
      (append_assoc (view_tokens (v.tree g.0)) (more_imps_tokens (imps g.1)) (comma ∷ (view_tokens (v.tree h.0) ++ [])) ∙ ap (λ z. view_tokens (v.tree g.0) ++ z) (sym (trees_last g.1 h.0)))
      (of_three (λ ys. Makes (v.trees (g.0 ∷ (g.1 ++ (h.0 ∷ [])))) (make_of l.More (2 ∷ 1 ∷ 2 ∷ []) ys)) (makes g.0 g.1 h.0))
      (more g.2.item (more (mark_item f.Comma b y i) (more h.1.item no_more))) (λ d p. tt) (λ d p. h.1.level _ _ ∙ g.2.level d p) (λ d p. tt),
)
  where
    makes : (i : Imp) (is : List Imp) (j : Imp) (a b c : Phrase Part) → Stood (a ∷ b ∷ c ∷ []) (v.trees (i ∷ is) ∷ v.token comma ∷ v.tree j ∷ []) → Makes (v.trees (i ∷ (is ++ (j ∷ [])))) (make_of l.More (2 ∷ 1 ∷ 2 ∷ []) (a ∷ b ∷ c ∷ []))
    makes i is j a b c h = go h.0.0 h.1.1.0.0
      where
        go : Stands a.part (v.trees (i ∷ is)) → Stands c.part (v.tree j) → Makes (v.trees (i ∷ (is ++ (j ∷ [])))) (make_of l.More (2 ∷ 1 ∷ 2 ∷ []) (a ∷ b ∷ c ∷ []))
        go (some_trees ys e p) (a_tree y at q) =
            makes_of l.More (2 ∷ 1 ∷ 2 ∷ []) a (b ∷ c ∷ []) (v.trees (i ∷ (is ++ (j ∷ [])))) (λ z. part.Trees (ys ++ (y ∷ []))) (λ z k. lists.joined (e k) (at k))
            (λ z. some_trees _ refl (map-append import_tree ys (y ∷ []) ∙ (λ k. p k ++ (q k ∷ [])))) (λ ps. refl) (λ z. refl) (stood_pass (a ∷ b ∷ c ∷ []) (v.trees (i ∷ is) ∷ v.token comma ∷ v.tree j ∷ []) h)

pub trees_without : (n m : ℕ) → Rebuild n (phrase m ∷ []) l.Pass (2 ∷ []) → {u : List SpannedTemplateToken} {x : Phrase Part} → TreesSeparated m u x → TreesListed n (u ++ []) (make_of l.Pass (2 ∷ []) (x ∷ []))
trees_without n m rebuild g = (g.0 ∷ g.1, list_without n m (v.trees (g.0 ∷ g.1)) rebuild g.2)

pub trees_with : (n m : ℕ) → Rebuild n (phrase m ∷ token (fixed_class f.Comma) ∷ []) l.Pass (2 ∷ 1 ∷ []) → Rebuild n (phrase m ∷ []) l.Pass (2 ∷ []) → {a b : List SpannedTemplateToken} {x y : Phrase Part} → TreesSeparated m a x → OneToken (fixed_class f.Comma) b y
    → TreesListed n (a ++ (b ++ [])) (make_of l.Pass (2 ∷ 1 ∷ []) (x ∷ y ∷ []))
trees_with n m read rebuild g k = (g.0 ∷ g.1, list_with n m (v.trees (g.0 ∷ g.1)) read rebuild g.2 k)

-- ---- import statements

abbrev importing : List Attr → Option ModulePath → Content → Importing
importing xs q c = record { attributes = xs; path = q; content = c }

import_makes : (xs : List Attr) (ts : List TemplateToken) (q : Option ModulePath) (c : Content) (us : List TemplateToken) (p r k : Part) → Stands p (v.attributes xs ts) → Stands r (v.source q) → Stands k (v.content c)
    → Made (l.Import label.Import) (p ∷ r ∷ k ∷ []) (v.importing (importing xs q c) us)
import_makes xs ts q c us p r k h g (a_content y e d) =
    made_as (l.Import label.Import) (p ∷ r ∷ k ∷ []) (v.importing (importing xs q c) us) (λ s. part.Import (record { attributes = attributes_of p; path = path_in r; content = y })) (λ s i. make.whole_import (p ∷ r ∷ e i ∷ []))
    (λ s. an_importing _ refl (λ i. importing (attributes_are p xs ts h i) (path_is r q g i) (d i))) (λ s. refl) refl

abbrev pub content_row : ℕ → List Symbol
content_row m = phrase m ∷ token (fixed_class f.Semicolon) ∷ []

abbrev pub plain_row : ℕ → List Symbol
plain_row m = token (fixed_class f.Import) ∷ content_row m

abbrev pub from_row : ℕ → ℕ → List Symbol
from_row s m = token (fixed_class f.Import) ∷ phrase s ∷ content_row m

abbrev pub attributes_plain_row : ℕ → ℕ → List Symbol
attributes_plain_row r m = phrase r ∷ plain_row m

abbrev pub attributes_from_row : ℕ → ℕ → ℕ → List Symbol
attributes_from_row r s m = phrase r ∷ from_row s m

pub import_plain : (n m : ℕ) → Rebuild n (plain_row m) (l.Import label.Import) (0 ∷ 1 ∷ 0 ∷ 2 ∷ 1 ∷ []) → {a b c : List SpannedTemplateToken} {x y z : Phrase Part} → OneToken (fixed_class f.Import) a x → Contained m b y → OneToken (fixed_class f.Semicolon) c z
    → Imported n (a ++ (b ++ (c ++ []))) (make_of (l.Import label.Import) (0 ∷ 1 ∷ 0 ∷ 2 ∷ 1 ∷ []) (x ∷ y ∷ z ∷ []))
import_plain n m rebuild {a = a} {c = c} {x = x} {z = z} i g k =
    let tree = importing [] None g.0 in
    let ts = import_rest tree in (
      tree,
      ts,
      an_import no_attributes,
      pieces_back n (plain_row m) (0 ∷ 1 ∷ 0 ∷ 2 ∷ 1 ∷ []) (token (fixed_class f.Import)) (content_row m) (0 ∷ 1 ∷ 0 ∷ 2 ∷ 1 ∷ []) (l.Import label.Import) rebuild rebuild (v.importing tree ts)
          (no_part (v.attributes [] []) (v.no_attributes refl) (a_mark (mark_item f.Import a x i) (no_part (v.source None) (no_source refl) (a_part g.1 (a_mark (mark_item f.Semicolon c z k) end))))) refl
          (of_three_parts (λ qs. Made (l.Import label.Import) qs (v.importing tree ts)) (import_makes [] [] None g.0 ts)) (λ d o. tt) (λ d o. refl) (λ d o. refl),
    )

pub import_from : (n s m : ℕ) → Rebuild n (from_row s m) (l.Import label.Import) (0 ∷ 1 ∷ 2 ∷ 2 ∷ 1 ∷ []) → {a b c d : List SpannedTemplateToken} {x y z w : Phrase Part} → OneToken (fixed_class f.Import) a x → Sourced s b y → Contained m c z → OneToken (fixed_class f.Semicolon) d w
    → Imported n (a ++ (b ++ (c ++ (d ++ [])))) (make_of (l.Import label.Import) (0 ∷ 1 ∷ 2 ∷ 2 ∷ 1 ∷ []) (x ∷ y ∷ z ∷ w ∷ []))
import_from n s m rebuild {a = a} {d = d} {x = x} {w = w} i h g k =
    let tree = importing [] (Some h.0) g.0 in
    let ts = import_rest tree in (
      tree,
      ts,
      an_import no_attributes,
      pieces_back n (from_row s m) (0 ∷ 1 ∷ 2 ∷ 2 ∷ 1 ∷ []) (token (fixed_class f.Import)) (phrase s ∷ content_row m) (0 ∷ 1 ∷ 2 ∷ 2 ∷ 1 ∷ []) (l.Import label.Import) rebuild rebuild (v.importing tree ts)
          (no_part (v.attributes [] []) (v.no_attributes refl) (a_mark (mark_item f.Import a x i) (a_part h.1 (a_part g.1 (a_mark (mark_item f.Semicolon d w k) end))))) refl
          (of_three_parts (λ qs. Made (l.Import label.Import) qs (v.importing tree ts)) (import_makes [] [] (Some h.0) g.0 ts)) (λ e o. tt) (λ e o. refl) (λ e o. refl),
    )

pub import_attributed : (n r m : ℕ) → Rebuild n (attributes_plain_row r m) (l.Import label.Import) (2 ∷ 1 ∷ 0 ∷ 2 ∷ 1 ∷ []) → {e a b c : List SpannedTemplateToken} {j x y z : Phrase Part}
    → AttributesRowed r e j → OneToken (fixed_class f.Import) a x → Contained m b y → OneToken (fixed_class f.Semicolon) c z
    → Imported n (e ++ (a ++ (b ++ (c ++ [])))) (make_of (l.Import label.Import) (2 ∷ 1 ∷ 0 ∷ 2 ∷ 1 ∷ []) (j ∷ x ∷ y ∷ z ∷ []))
import_attributed n r m rebuild {a = a} {c = c} {x = x} {z = z} t i g k =
    let tree = importing (t.0 ∷ t.1) None g.0 in
    let ts = t.2 ++ import_rest tree in (
      tree,
      ts,
      an_import t.3,
      pieces_back n (attributes_plain_row r m) (2 ∷ 1 ∷ 0 ∷ 2 ∷ 1 ∷ []) (phrase r) (plain_row m) (2 ∷ 1 ∷ 0 ∷ 2 ∷ 1 ∷ []) (l.Import label.Import) rebuild rebuild (v.importing tree ts)
          (a_part t.4 (a_mark (mark_item f.Import a x i) (no_part (v.source None) (no_source refl) (a_part g.1 (a_mark (mark_item f.Semicolon c z k) end))))) refl
          (of_three_parts (λ qs. Made (l.Import label.Import) qs (v.importing tree ts)) (import_makes (t.0 ∷ t.1) t.2 None g.0 ts)) (λ d o. tt) (λ d o. refl) (λ d o. refl),
    )

pub import_attributed_from : (n r s m : ℕ) → Rebuild n (attributes_from_row r s m) (l.Import label.Import) (2 ∷ 1 ∷ 2 ∷ 2 ∷ 1 ∷ []) → {e a b c d : List SpannedTemplateToken} {j x y z w : Phrase Part}
    → AttributesRowed r e j → OneToken (fixed_class f.Import) a x → Sourced s b y → Contained m c z → OneToken (fixed_class f.Semicolon) d w
    → Imported n (e ++ (a ++ (b ++ (c ++ (d ++ []))))) (make_of (l.Import label.Import) (2 ∷ 1 ∷ 2 ∷ 2 ∷ 1 ∷ []) (j ∷ x ∷ y ∷ z ∷ w ∷ []))
import_attributed_from n r s m rebuild {a = a} {d = d} {x = x} {w = w} t i h g k =
    let tree = importing (t.0 ∷ t.1) (Some h.0) g.0 in
    let ts = t.2 ++ import_rest tree in (
      tree,
      ts,
      an_import t.3,
      pieces_back n (attributes_from_row r s m) (2 ∷ 1 ∷ 2 ∷ 2 ∷ 1 ∷ []) (phrase r) (from_row s m) (2 ∷ 1 ∷ 2 ∷ 2 ∷ 1 ∷ []) (l.Import label.Import) rebuild rebuild (v.importing tree ts)
          (a_part t.4 (a_mark (mark_item f.Import a x i) (a_part h.1 (a_part g.1 (a_mark (mark_item f.Semicolon d w k) end))))) refl
          (of_three_parts (λ qs. Made (l.Import label.Import) qs (v.importing tree ts)) (import_makes (t.0 ∷ t.1) t.2 (Some h.0) g.0 ts)) (λ e o. tt) (λ e o. refl) (λ e o. refl),
    )
