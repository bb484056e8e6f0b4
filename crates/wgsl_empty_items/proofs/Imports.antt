-- The equality of imports and directives is a test of their trees, which tells whether those are one.
use Rattle.std.proofs.Common.{◌≡◌, refl, sym, ap, ◌∙◌, subst, ℕ, Bool, true, false, ◌&&◌, List, [], ◌∷◌, map, Option, true≢false}
use Rattle.std.specs.Bool.{Decides}
use Rattle.std.specs.Option.{option_eq}
use Rattle.std.specs.Str.{bytes_eq}
use Rattle.std.specs.Cmp.{first_so, second_so}
use Rattle.std.specs.Cmp.Lexicographic.{pointwise}
use Rattle.std.proofs.lemmas.Slice.Eq.{bytes_eq-Decides}
use denote.Enum.Bare.{same_true, true_same}
use Rattle.wgsl_words.specs.contracts.enumerations.words.DiagnosticSeverity.{the_type as severity_type}
use Rattle.wgsl_words.specs.contracts.enumerations.words.DiagnosticSeverityPartialEq.TheImpl as severity
use Rattle.wgsl_path.specs.contracts.path.ModulePathPartialEq.TheImpl as path
use Rattle.wgsl_path.specs.declared.path.ModulePath.{ModulePath}
use Rattle.wgsl_path.specs.Equality.{paths_Decide}
use Rattle.wgsl_declarations.specs.contracts.imports.import.ImportContentPartialEq.TheImpl as content
use Rattle.wgsl_declarations.specs.contracts.imports.import.ImportContentPartialEq.TheImpl.Laws as law
use Rattle.wgsl_declarations.specs.contracts.imports.import.ImportStatementPartialEq.TheImpl as statement
use Rattle.wgsl_declarations.specs.contracts.imports.directive.GlobalDirectivePartialEq.TheImpl as directive
use Rattle.wgsl_declarations.specs.declared.imports.import.ImportStatement.{ImportStatement}
use Rattle.wgsl_declarations.specs.declared.imports.import.ImportItem.{ImportItem}
use Rattle.wgsl_declarations.specs.declared.imports.import.ImportOf.{ImportOf}
use Rattle.wgsl_declarations.specs.declared.imports.import.ImportContent.{ImportContent, out-ImportContent, roll-ImportContent, out-roll-ImportContent, map-ImportContent, ind-ImportContent}
use Rattle.wgsl_declarations.specs.declared.imports.import.ImportContent.TheOpen.{ImportContent-F}
use Rattle.wgsl_declarations.specs.declared.imports.directive.GlobalDirective.{GlobalDirective}
use Rattle.wgsl_declarations.specs.declared.imports.directive.GlobalDirective.TheVariants as code
use Rattle.wgsl_declarations.specs.ImportsTree.{Content, item, collection, Imps, nil, cons, imps, Importing, Directive, diagnostic, enabling, requiring}
use Rattle.wgsl_declarations.specs.ImportsView.{import_layer, layer, content_tree, importing_tree, directive_tree}
use Rattle.wgsl_declarations.proofs.Trees.{tree_out}
use Rattle.wgsl_empty_items.proofs.Parts.{option_decides, list_decides, options_agree}
use Rattle.wgsl_empty_items.proofs.Attributes.{same_attr, attrs_decide, attribute_lists_agree}

-- ---- the test of what is taken

abbrev mutual
  same_content : Content → Content → Bool
  same_content (item n r) (item m s) = bytes_eq n m && option_eq bytes_eq r s
  same_content (collection xs) (collection ys) = same_imps xs ys
  same_content _ _ = false

  same_imps : Imps → Imps → Bool
  same_imps nil nil = true
  same_imps (cons p c is) (cons q d js) = (pointwise bytes_eq p q && same_content c d) && same_imps is js
  same_imps _ _ = false

texts_decide : (p q : List (List ℕ)) → Decides (pointwise bytes_eq p q) (p ≡ q)
texts_decide = list_decides bytes_eq bytes_eq-Decides

maybe_texts_decide : (r s : Option (List ℕ)) → Decides (option_eq bytes_eq r s) (r ≡ s)
maybe_texts_decide = option_decides bytes_eq bytes_eq-Decides

mutual
  content_true : (c d : Content) → same_content c d ≡ true → c ≡ d
  content_true (item n r) (item m s) h = λ i.
      item ((bytes_eq-Decides n m).0 (first_so (bytes_eq n m) (option_eq bytes_eq r s) h) i)
      ((maybe_texts_decide r s).0 (second_so (bytes_eq n m) (option_eq bytes_eq r s) h) i)
  content_true (collection xs) (collection ys) h = ap collection (imps_true xs ys h)
  content_true c d h = absurd (true≢false (sym h))

  imps_true : (xs ys : Imps) → same_imps xs ys ≡ true → xs ≡ ys
  imps_true nil nil h = refl
  imps_true (cons p c is) (cons q d js) h =
      let both = first_so (pointwise bytes_eq p q && same_content c d) (same_imps is js) h in
      λ i. cons ((texts_decide p q).0 (first_so (pointwise bytes_eq p q) (same_content c d) both) i)
      (content_true c d (second_so (pointwise bytes_eq p q) (same_content c d) both) i)
      (imps_true is js (second_so (pointwise bytes_eq p q && same_content c d) (same_imps is js) h) i)
  imps_true xs ys h = absurd (true≢false (sym h))

mutual
  content_self : (c : Content) → same_content c c ≡ true
  content_self (item n r) = λ i. (bytes_eq-Decides n n).1 refl i && (maybe_texts_decide r r).1 refl i
  content_self (collection xs) = imps_self xs

  imps_self : (xs : Imps) → same_imps xs xs ≡ true
  imps_self nil = refl
  imps_self (cons p c is) = λ i. ((texts_decide p p).1 refl i && content_self c i) && imps_self is i

content_decides : (c d : Content) → Decides (same_content c d) (c ≡ d)
content_decides c d = (content_true c d, λ same. subst (λ z. same_content c z ≡ true) same (content_self c))

-- ---- equality of what is taken

abbrev equal : ImportContent → ImportContent → Bool
equal = content.eq-value.it

abbrev equal_items : ImportItem → ImportItem → Bool
equal_items x y = bytes_eq x.ident.name y.ident.name && option_eq (λ i j. bytes_eq i.name j.name) x.rename y.rename

abbrev equal_imports : ImportOf ImportContent → ImportOf ImportContent → Bool
equal_imports x y = pointwise bytes_eq x.path y.path && equal x.content y.content

abbrev same_layer : ImportContent-F ImportContent → ImportContent-F ImportContent → Bool
same_layer (ImportContent-F.Item x) (ImportContent-F.Item y) = equal_items x y
same_layer (ImportContent-F.Collection xs) (ImportContent-F.Collection ys) = pointwise equal_imports xs ys
same_layer _ _ = false

opens : (a b : ImportContent) (x y : ImportContent-F ImportContent) → out-ImportContent a ≡ x → out-ImportContent b ≡ y → law.unfolded a b ≡ same_layer x y
opens a b (ImportContent-F.Item x) (ImportContent-F.Item y) p q = rw p (rw q refl)
opens a b (ImportContent-F.Collection x) (ImportContent-F.Collection y) p q = rw p (rw q refl)
opens a b x y p q = rw p (rw q refl)

same_out : (a b : ImportContent) → equal a b ≡ same_layer (out-ImportContent a) (out-ImportContent b)
same_out a b = law.is a b ∙ opens a b (out-ImportContent a) (out-ImportContent b) refl refl

module _ {A : Type 0} (f : A → ImportContent) (child : (x : A) (y : ImportContent) → equal (f x) y ≡ same_content (content_tree (f x)) (content_tree y)) where
  abbrev import_at : ImportOf A → ImportOf ImportContent
  import_at i = record { path = i.path; content = f i.content }

  imports_agree : (xs : List (ImportOf A)) (ys : List (ImportOf ImportContent))
      → pointwise equal_imports (map import_at xs) ys ≡ same_imps (imps (map (import_layer content_tree) (map import_at xs))) (imps (map (import_layer content_tree) ys))
  imports_agree [] [] = refl
  imports_agree [] (y ∷ ys) = refl
  imports_agree (x ∷ xs) [] = refl
  imports_agree (x ∷ xs) (y ∷ ys) = λ i. (pointwise bytes_eq x.path y.path && child x.content y.content i) && imports_agree xs ys i

  layers_agree : (x : ImportContent-F A) (y : ImportContent-F ImportContent)
      → same_layer (map-ImportContent A ImportContent f x) y ≡ same_content (layer content_tree (map-ImportContent A ImportContent f x)) (layer content_tree y)
  layers_agree (ImportContent-F.Item x) (ImportContent-F.Item y) =
      ap (λ rest. bytes_eq x.ident.name y.ident.name && rest) (options_agree (λ i j. bytes_eq i.name j.name) bytes_eq (λ i. i.name) (λ i j. refl) x.rename y.rename)
  layers_agree (ImportContent-F.Collection xs) (ImportContent-F.Collection ys) = imports_agree xs ys
  layers_agree x y = refl

abbrev Agrees : ImportContent → Type 0
Agrees a = (b : ImportContent) → equal a b ≡ same_content (content_tree a) (content_tree b)

abbrev Shown : Type 0
Shown = (a : ImportContent) × Agrees a

abbrev shown : Shown → ImportContent
shown c = c.0

of_layer : (y : ImportContent-F Shown) → Agrees (roll-ImportContent (map-ImportContent Shown ImportContent shown y))
of_layer y b =
    let x = map-ImportContent Shown ImportContent shown y in
    let open_x = out-roll-ImportContent x in
    same_out (roll-ImportContent x) b
    ∙ ap (λ z. same_layer z (out-ImportContent b)) open_x
    ∙ layers_agree shown (λ c. c.1) y (out-ImportContent b)
    ∙ ap (λ z. same_content (layer content_tree z) (layer content_tree (out-ImportContent b))) (sym open_x)
    ∙ (λ i. same_content (sym (tree_out (roll-ImportContent x)) i) (sym (tree_out b) i))

content_agrees : (a b : ImportContent) → equal a b ≡ same_content (content_tree a) (content_tree b)
content_agrees = ind-ImportContent Agrees (λ x y is. subst (λ z. Agrees (roll-ImportContent z)) is (of_layer y))

pub contents_decide : (a b : ImportContent) → Decides (equal a b) (content_tree a ≡ content_tree b)
contents_decide a b = subst (λ test. Decides test (content_tree a ≡ content_tree b)) (sym (content_agrees a b)) (content_decides (content_tree a) (content_tree b))

-- ---- import statements

abbrev same_importing : Importing → Importing → Bool
same_importing x y = pointwise same_attr x.attributes y.attributes && (option_eq path.eq-value.it x.path y.path && same_content x.content y.content)

maybe_paths_decide : (p q : Option ModulePath) → Decides (option_eq path.eq-value.it p q) (p ≡ q)
maybe_paths_decide = option_decides path.eq-value.it paths_Decide

importing_true : (x y : Importing) → same_importing x y ≡ true → x ≡ y
importing_true x y h =
    let first = pointwise same_attr x.attributes y.attributes in
    let second = option_eq path.eq-value.it x.path y.path in
    let third = same_content x.content y.content in
    let rest = second_so first (second && third) h in
    λ i. record {
      attributes = (attrs_decide x.attributes y.attributes).0 (first_so first (second && third) h) i;
      path = (maybe_paths_decide x.path y.path).0 (first_so second third rest) i;
      content = content_true x.content y.content (second_so second third rest) i;
    }

importing_self : (x : Importing) → same_importing x x ≡ true
importing_self x = λ i. (attrs_decide x.attributes x.attributes).1 refl i && ((maybe_paths_decide x.path x.path).1 refl i && content_self x.content i)

importing_decides : (x y : Importing) → Decides (same_importing x y) (x ≡ y)
importing_decides x y = (importing_true x y, λ same. subst (λ z. same_importing x z ≡ true) same (importing_self x))

importing_agrees : (a b : ImportStatement) → statement.eq-value.it a b ≡ same_importing (importing_tree a) (importing_tree b)
importing_agrees a b = λ i. attribute_lists_agree a.attributes b.attributes i && (option_eq path.eq-value.it a.path b.path && content_agrees a.content b.content i)

pub imports_decide : (a b : ImportStatement) → Decides (statement.eq-value.it a b) (importing_tree a ≡ importing_tree b)
imports_decide a b = subst (λ test. Decides test (importing_tree a ≡ importing_tree b)) (sym (importing_agrees a b)) (importing_decides (importing_tree a) (importing_tree b))

-- ---- directives

abbrev same_directive : Directive → Directive → Bool
same_directive (diagnostic ps s r) (diagnostic qs t q) = pointwise same_attr ps qs && (severity.eq-value.it s t && bytes_eq r q)
same_directive (enabling ps x) (enabling qs y) = pointwise same_attr ps qs && pointwise bytes_eq x y
same_directive (requiring ps x) (requiring qs y) = pointwise same_attr ps qs && pointwise bytes_eq x y
same_directive _ _ = false

directive_true : (x y : Directive) → same_directive x y ≡ true → x ≡ y
directive_true (diagnostic ps s r) (diagnostic qs t q) h =
    let first = pointwise same_attr ps qs in
    let second = severity.eq-value.it s t in
    let rest = second_so first (second && bytes_eq r q) h in
    λ i. diagnostic ((attrs_decide ps qs).0 (first_so first (second && bytes_eq r q) h) i)
    (same_true severity_type (search) s t (first_so second (bytes_eq r q) rest) i)
    ((bytes_eq-Decides r q).0 (second_so second (bytes_eq r q) rest) i)
directive_true (enabling ps x) (enabling qs y) h = λ i.
    enabling ((attrs_decide ps qs).0 (first_so (pointwise same_attr ps qs) (pointwise bytes_eq x y) h) i)
    ((texts_decide x y).0 (second_so (pointwise same_attr ps qs) (pointwise bytes_eq x y) h) i)
directive_true (requiring ps x) (requiring qs y) h = λ i.
    requiring ((attrs_decide ps qs).0 (first_so (pointwise same_attr ps qs) (pointwise bytes_eq x y) h) i)
    ((texts_decide x y).0 (second_so (pointwise same_attr ps qs) (pointwise bytes_eq x y) h) i)
directive_true x y h = absurd (true≢false (sym h))

directive_self : (x : Directive) → same_directive x x ≡ true
directive_self (diagnostic ps s r) = λ i. (attrs_decide ps ps).1 refl i && (true_same severity_type s s refl i && (bytes_eq-Decides r r).1 refl i)
directive_self (enabling ps x) = λ i. (attrs_decide ps ps).1 refl i && (texts_decide x x).1 refl i
directive_self (requiring ps x) = λ i. (attrs_decide ps ps).1 refl i && (texts_decide x x).1 refl i

directive_decides : (x y : Directive) → Decides (same_directive x y) (x ≡ y)
directive_decides x y = (directive_true x y, λ same. subst (λ z. same_directive x z ≡ true) same (directive_self x))

directive_agrees : (a b : GlobalDirective) → directive.eq-value.it a b ≡ same_directive (directive_tree a) (directive_tree b)
directive_agrees (code.Diagnostic x) (code.Diagnostic y) = ap (λ first. first && (severity.eq-value.it x.severity y.severity && bytes_eq x.rule_name y.rule_name)) (attribute_lists_agree x.attributes y.attributes)
directive_agrees (code.Enable x) (code.Enable y) = ap (λ first. first && pointwise bytes_eq x.extensions y.extensions) (attribute_lists_agree x.attributes y.attributes)
directive_agrees (code.Requires x) (code.Requires y) = ap (λ first. first && pointwise bytes_eq x.extensions y.extensions) (attribute_lists_agree x.attributes y.attributes)
directive_agrees x y = refl

pub directives_decide : (a b : GlobalDirective) → Decides (directive.eq-value.it a b) (directive_tree a ≡ directive_tree b)
directives_decide a b = subst (λ test. Decides test (directive_tree a ≡ directive_tree b)) (sym (directive_agrees a b)) (directive_decides (directive_tree a) (directive_tree b))
