-- The productions of attributes, and of attributes in a row.
use Rattle.std.proofs.Common.{◌≡◌, refl, sym, ap, ◌∙◌, subst, ℕ, Bool, true, List, [], ◌∷◌, ◌++◌, append_assoc, append-nil, map, Option, Some, None}
use Rattle.std.proofs.lemmas.List.{map-append}
use Rattle.wgsl_path.specs.declared.span.Span.{Span}
use Rattle.wgsl_path.specs.declared.span.Spanned.{Spanned}
use Rattle.wgsl_token.specs.declared.token.Token.TheVariants as t
use Rattle.wgsl_token.specs.declared.token.Fixed.{Fixed}
use Rattle.wgsl_token.specs.declared.token.Fixed.TheVariants as f
use Rattle.wgsl_token.specs.Spelling.{spelling}
use Rattle.wgsl_templates.specs.declared.meaning.token.TemplateToken.{TemplateToken}
use Rattle.wgsl_templates.specs.declared.meaning.token.TemplateToken.TheVariants.{Plain}
use Rattle.wgsl_templates.specs.declared.meaning.token.SpannedTemplateToken.{SpannedTemplateToken}
use Rattle.wgsl_templates.specs.Kinds.{kind}
use Rattle.wgsl_print_laws.specs.Laws.{without_places}
use Rattle.wgsl_print_laws.specs.OptionalMarks.{Before, callee, groups, is_any_word, same_attribute, begins_outside}
use Rattle.wgsl_expressions.specs.declared.expression.Expression.{Expression}
use Rattle.wgsl_expressions.specs.Tree.{Exp, exps}
use Rattle.wgsl_expressions.specs.View.{node_tree}
use Rattle.wgsl_expressions.specs.declared.attributes.attribute.Attribute.{Attribute}
use Rattle.wgsl_expressions.specs.AttributesTree.{Attr}
use Rattle.wgsl_expressions.specs.AttributesView.{attribute_tree, attributes_tree}
use Rattle.wgsl_print_laws.specs.Tokens.{mark, word}
use Rattle.wgsl_print_laws.specs.Printable.{AreSpelled, are_apart}
use Rattle.wgsl_print_laws.specs.Attributes.{IsWord, identifier, reserved, keyword, arguments_tokens, AttributeTokens, an_attribute}
use Rattle.wgsl_print_laws.specs.Imports.{AttributesTokens, no_attributes, attributes_and}
use Rattle.wgsl_print_laws.proofs.Expressions.{are_front, are_behind, are_both}
use Rattle.wgsl_grammar_tables.specs.Grammars.{Symbol, token, phrase, Row, done, next}
use Rattle.wgsl_semantic_values.specs.Reading.{attributes_of}
use Rattle.wgsl_semantic_values.specs.declared.part.Part.{Part}
use Rattle.wgsl_semantic_values.specs.declared.part.Part.TheVariants as part
use Rattle.wgsl_semantic_values.specs.declared.label.Label.{Label}
use Rattle.wgsl_semantic_values.specs.declared.label.Label.TheVariants as l
use Rattle.wgsl_semantic_values.specs.declared.label.AttributeLabel.TheVariants as label
use Rattle.wgsl_parser.specs.Phrase.{Phrase}
use Rattle.wgsl_parser.specs.Attributes as make
use Rattle.wgsl_parser.specs.Attributes.{checked}
use Rattle.wgsl_semantic_values.specs.Lists as lists
use Rattle.wgsl_parser.specs.Failures.{attribute_failed, made_failed}
use Rattle.wgsl_parser.specs.Phrases.{grammar}
use Rattle.wgsl_grammar_tables.specs.Classes.{fixed_class}
use Rattle.wgsl_read_back.proofs.Views.{View, NoneFails, view_tokens, Stands, a_token, a_word, some_expressions, some_arguments, ends_as}
use Rattle.wgsl_read_back.proofs.Views as v
use Rattle.wgsl_read_back.proofs.Items.{BeginsOutside, begins_then, Again, Item, Back, OneToken, Steps, cont_as, split, places_append, moved, closes}
use Rattle.wgsl_read_back.proofs.Rows.{concat, nil as no_more, more, list_more, RowBack, again_row, likewise_row, made_again, Fine, steps_row, spelled_row, stood_back, Stood, stood_pass, Makes, make_of, makes_of, made_check_passes, Rebuild, back_of, of_one, of_two, of_three}
use Rattle.wgsl_read_back.proofs.Places.{mark_of, word_of, reserved_of}
use Rattle.wgsl_read_back.proofs.Families.{token_item, mark_item, pass_back}
use Rattle.wgsl_read_back.proofs.Operands.{Listed, word_item, word_part}
use Rattle.wgsl_read_back.proofs.AttributeTrees.{tree_attribute, checked_found, found_again, attribute_written}

-- ---- the words of attributes

-- a word, which is one token
pub record IsOne (u : List SpannedTemplateToken) (w : List ℕ) (k : TemplateToken) : Type 0 where
  pub word : IsWord w k
  pub any : is_any_word k ≡ true
  pub tokens : without_places u ≡ k ∷ []

abbrev pub Worded : ℕ → List SpannedTemplateToken → Phrase Part → Type 0
Worded n u x = (w : List ℕ) × (k : TemplateToken) × IsOne u w k × Back n (v.attribute_word w k) u x

one_token : {c : ℕ} (u : List SpannedTemplateToken) {x : Phrase Part} (i : OneToken c u x) (k : TemplateToken) → i.one.token ≡ k → without_places (u ++ []) ≡ k ∷ []
one_token u i k is = places_append u [] ∙ append-nil (without_places u) ∙ ap without_places (sym i.whole) ∙ ap (λ z. z ∷ []) is

pub word_alone : (n : ℕ) → Rebuild n (token 77 ∷ []) (l.Attribute label.Word) (2 ∷ []) → {u : List SpannedTemplateToken} {x : Phrase Part} → OneToken 77 u x → Worded n (u ++ []) (make_of (l.Attribute label.Word) (2 ∷ []) (x ∷ []))
word_alone n rebuild {u = u} {x = x} k =
    let y = (word_of k.one.token k.class).0 in (
      y,
      word y,
      record { word = identifier y; any = refl; tokens = one_token u k (word y) (word_of k.one.token k.class).1 },
      back_of n (token 77 ∷ []) (l.Attribute label.Word) (2 ∷ []) rebuild (v.token (word y) ∷ []) (v.attribute_word y (word y)) refl
          (of_one (λ ys. Makes (v.attribute_word y (word y)) (make_of (l.Attribute label.Word) (2 ∷ []) ys)) (λ a h.
          makes_of (l.Attribute label.Word) (2 ∷ []) a [] (v.attribute_word y (word y)) (λ s. part.Word y) (λ s i. make.name_word (word_part a.part y h.0.0 i ∷ [])) (λ s. a_word refl) (λ ps. refl) (λ s. refl) (stood_pass (a ∷ []) (v.token (word y) ∷ []) h)))
          (more (word_item u x k) no_more) (λ c p. tt) (λ c p. refl) (λ c p. tt),
    )

reserved_part : (p : Part) (y : List ℕ) → Stands p (v.token (Plain (t.Reserved y))) → p ≡ part.Reserved y
reserved_part p y (a_token e) = e

pub reserved_alone : (n : ℕ) → Rebuild n (token 79 ∷ []) (l.Attribute label.ReservedWord) (2 ∷ []) → {u : List SpannedTemplateToken} {x : Phrase Part} → OneToken 79 u x → Worded n (u ++ []) (make_of (l.Attribute label.ReservedWord) (2 ∷ []) (x ∷ []))
reserved_alone n rebuild {u = u} {x = x} k =
    let y = (reserved_of k.one.token k.class).0 in
    let w : TemplateToken = Plain (t.Reserved y) in (
      y,
      w,
      record { word = reserved y; any = refl; tokens = one_token u k w (reserved_of k.one.token k.class).1 },
      back_of n (token 79 ∷ []) (l.Attribute label.ReservedWord) (2 ∷ []) rebuild (v.token w ∷ []) (v.attribute_word y w) refl
          (of_one (λ ys. Makes (v.attribute_word y w) (make_of (l.Attribute label.ReservedWord) (2 ∷ []) ys)) (λ a h.
          makes_of (l.Attribute label.ReservedWord) (2 ∷ []) a [] (v.attribute_word y w) (λ s. part.Word y) (λ s i. make.reserved_word (reserved_part a.part y h.0.0 i ∷ [])) (λ s. a_word refl) (λ ps. refl) (λ s. refl) (stood_pass (a ∷ []) (v.token w ∷ []) h)))
          (more (token_item 79 w u x k (reserved_of k.one.token k.class).1 refl) no_more) (λ c p. tt) (λ c p. refl) (λ c p. tt),
    )

pub keyword_alone : (g : Fixed) → is_any_word (mark g) ≡ true → ((b : Before) (o : List Bool) → groups b o (kind (mark g)) ≡ o) → (n : ℕ) → Rebuild n (token (fixed_class g) ∷ []) (l.Attribute (label.Keyword g)) (1 ∷ []) → {u : List SpannedTemplateToken} {x : Phrase Part}
    → OneToken (fixed_class g) u x → Worded n (u ++ []) (make_of (l.Attribute (label.Keyword g)) (1 ∷ []) (x ∷ []))
keyword_alone g any level n rebuild {u = u} {x = x} k = (
  spelling g,
  mark g,
  record { word = keyword g any; any = any; tokens = one_token u k (mark g) (mark_of k.one.token g k.class) },
  back_of n (token (fixed_class g) ∷ []) (l.Attribute (label.Keyword g)) (1 ∷ []) rebuild (v.token (mark g) ∷ []) (v.attribute_word (spelling g) (mark g)) refl
      (of_one (λ ys. Makes (v.attribute_word (spelling g) (mark g)) (make_of (l.Attribute (label.Keyword g)) (1 ∷ []) ys)) (λ a h.
      makes_of (l.Attribute (label.Keyword g)) (1 ∷ []) a [] (v.attribute_word (spelling g) (mark g)) (λ s. part.Word (spelling g)) (λ s. refl) (λ s. a_word refl) (λ ps. refl) (λ s. refl) (stood_pass (a ∷ []) (v.token (mark g) ∷ []) h)))
      (more (mark_item g u x k) no_more) (λ c p. tt) level (λ c p. tt),
)

-- ---- arguments, behind a word

pub record ArgumentsBack (n : ℕ) (v : View) (u : List SpannedTemplateToken) (x : Phrase Part) : Type 0 where
  pub stands : Stands x.part v
  pub passes : x.failure ≡ None
  pub again : (w : List SpannedTemplateToken) → without_places w ≡ view_tokens v → Again (phrase n) v w
  pub likewise : (w : List SpannedTemplateToken) → without_places w ≡ without_places u → Again (phrase n) v w
  pub spelled : AreSpelled (without_places u) → AreSpelled (view_tokens v)
  pub steps : (o : List Bool) → Steps callee o (without_places u) (view_tokens v)
  pub level : (o : List Bool) → (steps o).opened ≡ o

abbrev pub Argued : ℕ → List SpannedTemplateToken → Phrase Part → Type 0
Argued n u x = (es : List Exp) × (are_apart (exps es) ≡ true) × ArgumentsBack n (v.arguments es) u x

module _ (n : ℕ) (ss : List Symbol) (label : Label) (pattern : List ℕ) (rebuild : Rebuild n ss label pattern) where
  arguments_back_of : {u : List SpannedTemplateToken} {xs : List (Phrase Part)} (vs : List View) (v : View) → concat vs ≡ view_tokens v → ((ys : List (Phrase Part)) → Stood ys vs → Makes v (make_of label pattern ys))
      → (r : RowBack ss vs u xs) → (fine : (o : List Bool) → Fine r callee o) → ((o : List Bool) → (steps_row r callee o (fine o)).opened ≡ o) → ArgumentsBack n v u (make_of label pattern xs)
  arguments_back_of {u = u} {xs = xs} vs v tokens makes r fine level =
      let one = makes xs (stood_back r) in record {
        stands = one.stands;
        passes = one.passes;
        again = λ w e. made_again n ss label pattern rebuild vs v makes w (again_row r w (e ∙ sym tokens));
        likewise = λ w e. made_again n ss label pattern rebuild vs v makes w (likewise_row r w e);
        spelled = λ h. subst AreSpelled tokens (spelled_row r h);
        steps = λ o. let q = steps_row r callee o (fine o) in record {
          last = q.last;
          opened = q.opened;
          cont = cont_as callee o (without_places u) (concat vs) (without_places u) (view_tokens v) q.last q.opened refl tokens q.cont;
        };
        level = level;
      }

abbrev pub empty_row : List Symbol
empty_row = token (fixed_class f.ParenLeft) ∷ token (fixed_class f.ParenRight) ∷ []

abbrev pub arguments_row : ℕ → List Symbol
arguments_row m = token (fixed_class f.ParenLeft) ∷ phrase m ∷ token (fixed_class f.ParenRight) ∷ []

pub no_arguments : (n : ℕ) → Rebuild n empty_row (l.Attribute label.Arguments) (1 ∷ 0 ∷ 1 ∷ []) → {a b : List SpannedTemplateToken} {x y : Phrase Part} → OneToken (fixed_class f.ParenLeft) a x → OneToken (fixed_class f.ParenRight) b y
    → Argued n (a ++ (b ++ [])) (make_of (l.Attribute label.Arguments) (1 ∷ 0 ∷ 1 ∷ []) (x ∷ y ∷ []))
no_arguments n rebuild {a = a} {b = b} {x = x} {y = y} i j = (
  [],
  refl,
  arguments_back_of n empty_row (l.Attribute label.Arguments) (1 ∷ 0 ∷ 1 ∷ []) rebuild (v.token (mark f.ParenLeft) ∷ v.token (mark f.ParenRight) ∷ []) (v.arguments []) refl
      (of_two (λ ys. Makes (v.arguments []) (make_of (l.Attribute label.Arguments) (1 ∷ 0 ∷ 1 ∷ []) ys)) (λ c d h.
      makes_of (l.Attribute label.Arguments) (1 ∷ 0 ∷ 1 ∷ []) c (d ∷ []) (v.arguments []) (λ s. part.Arguments []) (λ s. refl) (λ s. some_arguments [] refl refl) (λ ps. refl) (λ s. refl) (stood_pass (c ∷ d ∷ []) (v.token (mark f.ParenLeft) ∷ v.token (mark f.ParenRight) ∷ []) h)))
      (more (mark_item f.ParenLeft a x i) (more (mark_item f.ParenRight b y j) no_more)) (λ o. tt) (λ o. refl),
)

pub some_arguments_read : (n m : ℕ) → Rebuild n (arguments_row m) (l.Attribute label.Arguments) (1 ∷ 2 ∷ 1 ∷ []) → {a b c : List SpannedTemplateToken} {x y z : Phrase Part} → OneToken (fixed_class f.ParenLeft) a x → Listed m b y → OneToken (fixed_class f.ParenRight) c z
    → Argued n (a ++ (b ++ (c ++ []))) (make_of (l.Attribute label.Arguments) (1 ∷ 2 ∷ 1 ∷ []) (x ∷ y ∷ z ∷ []))
some_arguments_read n m rebuild {a = a} {c = c} {x = x} {z = z} i h k =
    let shut = mark_of k.one.token f.ParenRight k.class in (
      h.0,
      h.1,
      arguments_back_of n (arguments_row m) (l.Attribute label.Arguments) (1 ∷ 2 ∷ 1 ∷ []) rebuild (v.token (mark f.ParenLeft) ∷ v.expressions h.0 ∷ v.token (mark f.ParenRight) ∷ []) (v.arguments h.0) refl
          (of_three (λ ys. Makes (v.arguments h.0) (make_of (l.Attribute label.Arguments) (1 ∷ 2 ∷ 1 ∷ []) ys)) (makes h.0))
          (more (mark_item f.ParenLeft a x i) (list_more h.2 (mark_item f.ParenRight c z k) (ap without_places (sym k.whole) ∙ ap (λ z. z ∷ []) shut) (closes refl) no_more)) (λ o. ((h.2.ended _ _, refl), tt)) (λ o. refl),
    )
  where
    makes : (es : List Exp) (d e g : Phrase Part) → Stood (d ∷ e ∷ g ∷ []) (v.token (mark f.ParenLeft) ∷ v.expressions es ∷ v.token (mark f.ParenRight) ∷ []) → Makes (v.arguments es) (make_of (l.Attribute label.Arguments) (1 ∷ 2 ∷ 1 ∷ []) (d ∷ e ∷ g ∷ []))
    makes es d e g h = go h.1.0.0
      where
        go : Stands e.part (v.expressions es) → Makes (v.arguments es) (make_of (l.Attribute label.Arguments) (1 ∷ 2 ∷ 1 ∷ []) (d ∷ e ∷ g ∷ []))
        go (some_expressions ns is q) =
            makes_of (l.Attribute label.Arguments) (1 ∷ 2 ∷ 1 ∷ []) d (e ∷ g ∷ []) (v.arguments es) (λ s. part.Arguments ns) (λ s i. make.all_arguments (is i ∷ [])) (λ s. some_arguments ns refl q) (λ ps. refl) (λ s. refl)
            (stood_pass (d ∷ e ∷ g ∷ []) (v.token (mark f.ParenLeft) ∷ v.expressions es ∷ v.token (mark f.ParenRight) ∷ []) h)

-- ---- attributes

abbrev pub Attributed : ℕ → List SpannedTemplateToken → Phrase Part → Type 0
Attributed n u x = (a : Attr) × (ts : List TemplateToken) × AttributeTokens a ts × Back n (v.attribute a ts) u x × BeginsOutside (without_places u)

at_begins : (u w : List SpannedTemplateToken) {x : Phrase Part} → OneToken (fixed_class f.Attr) u x → BeginsOutside (without_places (u ++ w))
at_begins u w k = begins_then u w (λ us. ap (λ z. begins_outside (z ++ us)) (ap without_places (sym k.whole) ∙ ap (λ z. z ∷ []) (mark_of k.one.token f.Attr k.class)))

abbrev pub bare_attribute_row : ℕ → List Symbol
bare_attribute_row m = token (fixed_class f.Attr) ∷ phrase m ∷ []

abbrev pub attribute_row : ℕ → ℕ → List Symbol
attribute_row m r = token (fixed_class f.Attr) ∷ phrase m ∷ phrase r ∷ []

abbrev read_as : Span → List ℕ → Option (List (Spanned Expression)) → Part
read_as s w xs = part.Attribute (record { node = checked w xs; span = s })

word_is : (p : Part) (w : List ℕ) (k : TemplateToken) → Stands p (v.attribute_word w k) → p ≡ part.Word w
word_is p w k (a_word e) = e

bare_makes : (w : List ℕ) (k : TemplateToken) (a : Attr) (ts : List TemplateToken) → tree_attribute w None ≡ Some a → (c d : Phrase Part) → Stood (c ∷ d ∷ []) (v.token (mark f.Attr) ∷ v.attribute_word w k ∷ [])
    → Makes (v.attribute a ts) (make_of (l.Attribute label.Attribute) (1 ∷ 2 ∷ 0 ∷ []) (c ∷ d ∷ []))
bare_makes w k a ts is c d h =
    let found = found_again w None a is None refl in
    makes_of (l.Attribute label.Attribute) (1 ∷ 2 ∷ 0 ∷ []) c (d ∷ []) (v.attribute a ts) (λ s. read_as s w None) (λ s i. make.whole_attribute s (word_is d.part w k h.1.0.0 i ∷ part.Absent ∷ [])) (λ s. v.an_attribute _ refl found.0 found.1) (λ ps. refl) (λ s. found.0)
    (stood_pass (c ∷ d ∷ []) (v.token (mark f.Attr) ∷ v.attribute_word w k ∷ []) h)

pub bare_attribute : (n m : ℕ) → Rebuild n (bare_attribute_row m) (l.Attribute label.Attribute) (1 ∷ 2 ∷ 0 ∷ []) → {a b : List SpannedTemplateToken} {x y : Phrase Part} → OneToken (fixed_class f.Attr) a x → Worded m b y
    → (make_of (l.Attribute label.Attribute) (1 ∷ 2 ∷ 0 ∷ []) (x ∷ y ∷ [])).failure ≡ None → Attributed n (a ++ (b ++ [])) (make_of (l.Attribute label.Attribute) (1 ∷ 2 ∷ 0 ∷ []) (x ∷ y ∷ []))
bare_attribute n m rebuild {a = a} {b = b} {x = x} {y = y} i g pass =
    let check = made_check_passes (l.Attribute label.Attribute) (1 ∷ 2 ∷ 0 ∷ []) x (y ∷ []) pass in
    let found = checked_found g.0 None (ap (λ z. made_failed (l.Attribute label.Attribute) (make.whole_attribute check.0 (z ∷ part.Absent ∷ []))) (sym (word_is y.part g.0 g.1 g.3.item.stands)) ∙ check.1) in
    let ts : List TemplateToken = mark f.Attr ∷ g.1 ∷ [] in (
      found.0,
      ts,
      an_attribute (attribute_written g.0 None found.0 found.1) g.2.word refl,
      back_of n (bare_attribute_row m) (l.Attribute label.Attribute) (1 ∷ 2 ∷ 0 ∷ []) rebuild (v.token (mark f.Attr) ∷ v.attribute_word g.0 g.1 ∷ []) (v.attribute found.0 ts) refl
          (of_two (λ ys. Makes (v.attribute found.0 ts) (make_of (l.Attribute label.Attribute) (1 ∷ 2 ∷ 0 ∷ []) ys)) (bare_makes g.0 g.1 found.0 ts found.1))
          (more (mark_item f.Attr a x i) (more g.3.item no_more)) (λ c p. tt) (λ c p. g.3.level _ p) (λ c p. tt),
      at_begins a (b ++ []) i,
    )

-- with arguments
arguments_are : (p : Part) (es : List Exp) → Stands p (v.arguments es) → (ns : List (Spanned Expression)) × (p ≡ part.Arguments ns) × (map node_tree ns ≡ es)
arguments_are p es (some_arguments ns is q) = (ns, is, q)

full_makes : (w : List ℕ) (k : TemplateToken) (es : List Exp) (a : Attr) (ts : List TemplateToken) → tree_attribute w (Some es) ≡ Some a → (c d e : Phrase Part) → Stood (c ∷ d ∷ e ∷ []) (v.token (mark f.Attr) ∷ v.attribute_word w k ∷ v.arguments es ∷ [])
    → Makes (v.attribute a ts) (make_of (l.Attribute label.Attribute) (1 ∷ 2 ∷ 2 ∷ []) (c ∷ d ∷ e ∷ []))
full_makes w k es a ts is c d e h =
    let ns = arguments_are e.part es h.1.1.0.0 in
    let found = found_again w (Some es) a is (Some ns.0) (ap Some ns.2) in
    makes_of (l.Attribute label.Attribute) (1 ∷ 2 ∷ 2 ∷ []) c (d ∷ e ∷ []) (v.attribute a ts) (λ s. read_as s w (Some ns.0)) (λ s i. make.whole_attribute s (word_is d.part w k h.1.0.0 i ∷ ns.1 i ∷ [])) (λ s. v.an_attribute _ refl found.0 found.1) (λ ps. refl) (λ s. found.0)
    (stood_pass (c ∷ d ∷ e ∷ []) (v.token (mark f.Attr) ∷ v.attribute_word w k ∷ v.arguments es ∷ []) h)

pub full_attribute : (n m r : ℕ) → Rebuild n (attribute_row m r) (l.Attribute label.Attribute) (1 ∷ 2 ∷ 2 ∷ []) → {a b c : List SpannedTemplateToken} {x y z : Phrase Part} → OneToken (fixed_class f.Attr) a x → Worded m b y → Argued r c z
    → (make_of (l.Attribute label.Attribute) (1 ∷ 2 ∷ 2 ∷ []) (x ∷ y ∷ z ∷ [])).failure ≡ None → Attributed n (a ++ (b ++ (c ++ []))) (make_of (l.Attribute label.Attribute) (1 ∷ 2 ∷ 2 ∷ []) (x ∷ y ∷ z ∷ []))
full_attribute n m r rebuild {a = a} {b = b} {c = c} {x = x} {y = y} {z = z} i g h pass = (
  found.0,
  ts,
  an_attribute (attribute_written g.0 (Some h.0) found.0 found.1) g.2.word h.1,
  record {
    item = record {
      stands = one.stands;
      passes = one.passes;
      again = again;
      likewise = likewise;
      spelled = λ s.
          let all = subst AreSpelled (places_append a (b ++ (c ++ [])) ∙ ap (λ z. without_places a ++ z) (places_append b (c ++ []) ∙ ap (λ z. without_places b ++ z) (places_append c [] ∙ append-nil (without_places c)))) s in
          let behind = are_behind (without_places a) (without_places b ++ without_places c) all in
          are_both (mark f.Attr ∷ []) (g.1 ∷ arguments_tokens (Some h.0)) (at.spelled (are_front (without_places a) (without_places b ++ without_places c) all))
          (are_both (g.1 ∷ []) (arguments_tokens (Some h.0)) (g.3.item.spelled (are_front (without_places b) (without_places c) behind)) (h.2.spelled (are_behind (without_places b) (without_places c) behind)));
      steps = λ o p. let q = h.2.steps p in record { last = q.last; opened = q.opened; cont = λ us ks k. moved (source us) refl (same_attribute g.1 g.2.any (q.cont us ks k)) };
    };
    level = λ o p. h.2.level p;
    ended = λ o p. tt;
  },
  at_begins a (b ++ (c ++ [])) i,
)
  where
    at : Item (token (fixed_class f.Attr)) (v.token (mark f.Attr)) a x
    at = mark_item f.Attr a x i

    check : (s : Span) × (made_failed (l.Attribute label.Attribute) (make.whole_attribute s (y.part ∷ z.part ∷ [])) ≡ None)
    check = made_check_passes (l.Attribute label.Attribute) (1 ∷ 2 ∷ 2 ∷ []) x (y ∷ z ∷ []) pass

    found : (d : Attr) × (tree_attribute g.0 (Some h.0) ≡ Some d)
    found =
        let ns = arguments_are z.part h.0 h.2.stands in
        let e = checked_found g.0 (Some ns.0) ((λ k. made_failed (l.Attribute label.Attribute) (make.whole_attribute check.0 (sym (word_is y.part g.0 g.1 g.3.item.stands) k ∷ sym ns.1 k ∷ []))) ∙ check.1) in
        (e.0, ap (λ es. tree_attribute g.0 (Some es)) (sym ns.2) ∙ e.1)

    ts : List TemplateToken
    ts = mark f.Attr ∷ g.1 ∷ arguments_tokens (Some h.0)

    one : Makes (v.attribute found.0 ts) (make_of (l.Attribute label.Attribute) (1 ∷ 2 ∷ 2 ∷ []) (x ∷ y ∷ z ∷ []))
    one = full_makes g.0 g.1 h.0 found.0 ts found.1 x y z ((at.stands, at.passes), ((g.3.item.stands, g.3.item.passes), ((h.2.stands, h.2.passes), tt)))

    found_row : (w p q k : List SpannedTemplateToken) → p ++ (q ++ k) ≡ w → Again (token (fixed_class f.Attr)) (v.token (mark f.Attr)) p → Again (phrase m) (v.attribute_word g.0 g.1) q → Again (phrase r) (v.arguments h.0) k → Again (phrase n) (v.attribute found.0 ts) w
    found_row w p q k whole one two three =
        let made = full_makes g.0 g.1 h.0 found.0 ts found.1 one.value two.value three.value ((one.stands, one.passes), ((two.stands, two.passes), ((three.stands, three.passes), tt))) in
        let row : Row grammar (attribute_row m r) (p ++ (q ++ (k ++ []))) (one.value ∷ two.value ∷ three.value ∷ []) = next one.derives (next two.derives (next three.derives done)) in
        let P : List SpannedTemplateToken → Type 0 = λ z. Again (phrase n) (v.attribute found.0 ts) z in
        subst P (ap (λ z. p ++ (q ++ z)) (append-nil k) ∙ whole)
        (record { value = make_of (l.Attribute label.Attribute) (1 ∷ 2 ∷ 2 ∷ []) (one.value ∷ two.value ∷ three.value ∷ []); derives = rebuild _ _ row; stands = made.stands; passes = made.passes })

    again : (w : List SpannedTemplateToken) → without_places w ≡ ts → Again (phrase n) (v.attribute found.0 ts) w
    again w e =
        let p = split w (mark f.Attr ∷ []) (g.1 ∷ arguments_tokens (Some h.0)) e in
        let q = split p.rest (g.1 ∷ []) (arguments_tokens (Some h.0)) p.rest_is in
        found_row w p.front q.front q.rest (ap (λ z. p.front ++ z) q.whole ∙ p.whole) (at.again p.front p.front_is) (g.3.item.again q.front q.front_is) (h.2.again q.rest q.rest_is)

    likewise : (w : List SpannedTemplateToken) → without_places w ≡ without_places (a ++ (b ++ (c ++ []))) → Again (phrase n) (v.attribute found.0 ts) w
    likewise w e =
        let p = split w (without_places a) (without_places (b ++ (c ++ []))) (e ∙ places_append a (b ++ (c ++ []))) in
        let q = split p.rest (without_places b) (without_places (c ++ [])) (p.rest_is ∙ places_append b (c ++ [])) in
        found_row w p.front q.front q.rest (ap (λ z. p.front ++ z) q.whole ∙ p.whole) (at.likewise p.front p.front_is) (g.3.item.likewise q.front q.front_is) (h.2.likewise q.rest (q.rest_is ∙ ap without_places (append-nil c)))

    source : (us : List TemplateToken) → mark f.Attr ∷ g.1 ∷ (without_places c ++ us) ≡ without_places (a ++ (b ++ (c ++ []))) ++ us
    source us =
        let first : without_places a ≡ mark f.Attr ∷ [] = ap without_places (sym i.whole) ∙ ap (λ z. z ∷ []) (mark_of i.one.token f.Attr i.class) in
        let whole : without_places (a ++ (b ++ (c ++ []))) ≡ mark f.Attr ∷ g.1 ∷ without_places c =
        places_append a (b ++ (c ++ [])) ∙ (λ k. first k ++ (places_append b (c ++ []) ∙ (λ j. g.2.tokens j ++ (places_append c [] ∙ append-nil (without_places c)) j)) k) in
        ap (λ z. z ++ us) (sym whole)

pub pass_attribute : (n m : ℕ) → Rebuild n (phrase m ∷ []) l.Pass (2 ∷ []) → {u : List SpannedTemplateToken} {x : Phrase Part} → Attributed m u x → Attributed n (u ++ []) (make_of l.Pass (2 ∷ []) (x ∷ []))
pass_attribute n m rebuild {u = u} g = (g.0, g.1, g.2, pass_back n m (v.attribute g.0 g.1) rebuild g.3, begins_then u [] g.4)

-- ---- attributes one behind the other

abbrev pub AttributesRowed : ℕ → List SpannedTemplateToken → Phrase Part → Type 0
AttributesRowed n u x = (a : Attr) × (xs : List Attr) × (ts : List TemplateToken) × AttributesTokens (a ∷ xs) ts × Back n (v.attributes (a ∷ xs) ts) u x × BeginsOutside (without_places u)

attribute_alone : (a : Attr) (ts : List TemplateToken) → AttributeTokens a ts → AttributesTokens (a ∷ []) ts
attribute_alone a ts h = subst (AttributesTokens (a ∷ [])) (append-nil ts) (attributes_and h no_attributes)

attributes_last : {xs : List Attr} {ts : List TemplateToken} (a : Attr) (us : List TemplateToken) → AttributesTokens xs ts → AttributeTokens a us → AttributesTokens (xs ++ (a ∷ [])) (ts ++ us)
attributes_last a us no_attributes h = attribute_alone a us h
attributes_last a us (attributes_and {a = b} {xs = xs} {ts = ts} {us = vs} g gs) h = subst (AttributesTokens (b ∷ (xs ++ (a ∷ [])))) (sym (append_assoc ts vs us)) (attributes_and g (attributes_last a us gs h))

none_fails_last : (ys : List (Spanned Attribute)) (y : Spanned Attribute) → NoneFails ys → attribute_failed y.node ≡ None → NoneFails (ys ++ (y ∷ []))
none_fails_last [] y h g = (g, tt)
none_fails_last (z ∷ ys) y h g = (h.0, none_fails_last ys y h.1 g)

pub first_attribute : (n m : ℕ) → Rebuild n (phrase m ∷ []) l.First (2 ∷ []) → {u : List SpannedTemplateToken} {x : Phrase Part} → Attributed m u x → AttributesRowed n (u ++ []) (make_of l.First (2 ∷ []) (x ∷ []))
first_attribute n m rebuild {u = u} g = (
  g.0,
  [],
  g.1,
  attribute_alone g.0 g.1 g.2,
  back_of n (phrase m ∷ []) l.First (2 ∷ []) rebuild (v.attribute g.0 g.1 ∷ []) (v.attributes (g.0 ∷ []) g.1) (append-nil g.1)
      (of_one (λ ys. Makes (v.attributes (g.0 ∷ []) g.1) (make_of l.First (2 ∷ []) ys)) (makes g.0 g.1))
      (more g.3.item no_more) (λ c p. tt) g.3.level (λ c p. tt),
  begins_then u [] g.4,
)
  where
    makes : (a : Attr) (ts : List TemplateToken) (c : Phrase Part) → Stood (c ∷ []) (v.attribute a ts ∷ []) → Makes (v.attributes (a ∷ []) ts) (make_of l.First (2 ∷ []) (c ∷ []))
    makes a ts c h = go h.0.0
      where
        go : Stands c.part (v.attribute a ts) → Makes (v.attributes (a ∷ []) ts) (make_of l.First (2 ∷ []) (c ∷ []))
        go (v.an_attribute y is p q) =
            makes_of l.First (2 ∷ []) c [] (v.attributes (a ∷ []) ts) (λ s. part.Attributes (y ∷ [])) (λ s i. lists.started (is i)) (λ s. v.some_attributes (y ∷ []) refl (p, tt) (λ i. q i ∷ [])) (λ ps. refl) (λ s. refl)
            (stood_pass (c ∷ []) (v.attribute a ts ∷ []) h)

pub more_attributes : (n r m : ℕ) → Rebuild n (phrase r ∷ phrase m ∷ []) l.More (2 ∷ 2 ∷ []) → {a b : List SpannedTemplateToken} {x y : Phrase Part} → AttributesRowed r a x → Attributed m b y
    → AttributesRowed n (a ++ (b ++ [])) (make_of l.More (2 ∷ 2 ∷ []) (x ∷ y ∷ []))
more_attributes n r m rebuild {a = a} {b = b} g h = (
  g.0,
  g.1 ++ (h.0 ∷ []),
  g.2 ++ h.1,
  attributes_last h.0 h.1 g.3 h.2,
  back_of n (phrase r ∷ phrase m ∷ []) l.More (2 ∷ 2 ∷ []) rebuild (v.attributes (g.0 ∷ g.1) g.2 ∷ v.attribute h.0 h.1 ∷ []) (v.attributes (g.0 ∷ (g.1 ++ (h.0 ∷ []))) (g.2 ++ h.1)) (ap (λ z. g.2 ++ z) (append-nil h.1))
      (of_two (λ ys. Makes (v.attributes (g.0 ∷ (g.1 ++ (h.0 ∷ []))) (g.2 ++ h.1)) (make_of l.More (2 ∷ 2 ∷ []) ys)) (makes g.0 g.1 g.2 h.0 h.1))
      (more g.4.item (more h.3.item no_more)) (λ c p. tt) (λ c p. h.3.level _ _ ∙ g.4.level c p) (λ c p. tt),
  begins_then a (b ++ []) g.5,
)
  where
    makes : (a : Attr) (xs : List Attr) (ts : List TemplateToken) (b : Attr) (us : List TemplateToken) (c d : Phrase Part) → Stood (c ∷ d ∷ []) (v.attributes (a ∷ xs) ts ∷ v.attribute b us ∷ [])
        → Makes (v.attributes (a ∷ (xs ++ (b ∷ []))) (ts ++ us)) (make_of l.More (2 ∷ 2 ∷ []) (c ∷ d ∷ []))
    makes a xs ts b us c d h = go h.0.0 h.1.0.0
      where
        go : Stands c.part (v.attributes (a ∷ xs) ts) → Stands d.part (v.attribute b us) → Makes (v.attributes (a ∷ (xs ++ (b ∷ []))) (ts ++ us)) (make_of l.More (2 ∷ 2 ∷ []) (c ∷ d ∷ []))
        go (v.some_attributes ys is p q) (v.an_attribute y at r s) =
            makes_of l.More (2 ∷ 2 ∷ []) c (d ∷ []) (v.attributes (a ∷ (xs ++ (b ∷ []))) (ts ++ us)) (λ z. part.Attributes (ys ++ (y ∷ []))) (λ z i. lists.joined (is i) (at i))
            (λ z. v.some_attributes (ys ++ (y ∷ [])) refl (none_fails_last ys y p r) (map-append (λ n. attribute_tree n.node) ys (y ∷ []) ∙ (λ i. q i ++ (s i ∷ [])))) (λ ps. refl) (λ z. refl)
            (stood_pass (c ∷ d ∷ []) (v.attributes (a ∷ xs) ts ∷ v.attribute b us ∷ []) h)

-- a part that may be absent
pub attributes_are : (p : Part) (xs : List Attr) (ts : List TemplateToken) → Stands p (v.attributes xs ts) → attributes_tree (attributes_of p) ≡ xs
attributes_are p xs ts (v.some_attributes ys e h q) = ap (λ z. attributes_tree (attributes_of z)) e ∙ q
attributes_are p _ _ (v.no_attributes e) = ap (λ z. attributes_tree (attributes_of z)) e
