-- What phrases of expressions and types are, single tokens, and the productions that pass on and those of operators.
use Rattle.std.proofs.Common.{◌≡◌, refl, sym, ap, ◌∙◌, subst, ℕ, Bool, true, not, ◌&&◌, ◌||◌, List, [], ◌∷◌, ◌++◌, append-nil, None}
use Rattle.wgsl_words.specs.declared.operators.BinaryOperator.{BinaryOperator}
use Rattle.wgsl_words.specs.declared.operators.BinaryOperator.TheVariants.{ShortCircuitOr}
use Rattle.wgsl_words.specs.declared.operators.UnaryOperator.{UnaryOperator}
use Rattle.wgsl_words.specs.declared.operators.UnaryOperator.TheVariants.{Negation}
use Rattle.wgsl_token.specs.declared.token.Token.TheVariants as t
use Rattle.wgsl_token.specs.declared.token.Fixed.{Fixed}
use Rattle.wgsl_token.specs.declared.token.Fixed.TheVariants as f
use Rattle.wgsl_templates.specs.declared.meaning.token.TemplateToken.{TemplateToken}
use Rattle.wgsl_templates.specs.declared.meaning.token.TemplateToken.TheVariants.{Plain, TemplateArgsStart}
use Rattle.wgsl_templates.specs.declared.meaning.token.SpannedTemplateToken.{SpannedTemplateToken}
use Rattle.wgsl_templates.specs.Kinds.{kind}
use Rattle.wgsl_print_laws.specs.Laws.{without_places}
use Rattle.wgsl_print_laws.specs.OptionalMarks.{Before, before, groups}
use Rattle.wgsl_expressions.specs.declared.expression.Expression.TheVariants as exp
use Rattle.wgsl_expressions.specs.Print.{is_numeric}
use Rattle.wgsl_expressions.specs.Tree.{Exp, unary, binary, Typ}
use Rattle.wgsl_expressions.proofs.Trees.{tree_of_unary, tree_of_binary}
use Rattle.wgsl_simple_statements.specs.declared.declaration.DeclarationKind.{DeclarationKind}
use Rattle.wgsl_simple_statements.specs.declared.declaration.DeclarationKind.TheVariants as kinds
use Rattle.wgsl_print_laws.specs.Tokens.{mark, unary_sign, binary_sign, exp_tokens}
use Rattle.wgsl_print_laws.specs.Printable.{AreSpelled, ends_in_number, is_apart, type_is_apart}
use Rattle.wgsl_grammar_tables.specs.Grammars.{token, phrase}
use Rattle.wgsl_semantic_values.specs.declared.part.Part.{Part}
use Rattle.wgsl_semantic_values.specs.declared.part.Part.TheVariants as part
use Rattle.wgsl_semantic_values.specs.declared.label.Label.TheVariants as l
use Rattle.wgsl_semantic_values.specs.declared.label.ExpressionLabel.TheVariants as label
use Rattle.wgsl_parser.specs.Leaves as leaves
use Rattle.wgsl_parser.specs.Phrase.{Phrase}
use Rattle.wgsl_semantic_values.specs.Making as make
use Rattle.wgsl_grammar_tables.specs.Classes.{fixed_class, class_of}
use Rattle.wgsl_parser.specs.Failures.{made_failed}
use Rattle.wgsl_read_back.proofs.Views.{View, view_tokens, Stands, a_token, an_ups, a_path, a_type, a_call, an_expression, some_expressions, a_text, some_texts, a_directive, a_kind, a_word, some_arguments, an_attribute, some_attributes, no_attributes, a_source, no_source, some_steps, no_steps, a_content, a_tree, some_trees, an_importing, ends_as}
use Rattle.wgsl_read_back.proofs.Views as v
use Rattle.wgsl_read_back.proofs.Items.{cont_as, Item, Back, OneToken, token_again, token_steps}
use Rattle.wgsl_read_back.proofs.Rows.{nil as no_more, more, Stood, stood_pass, Makes, make_of, makes_of, Rebuild, back_of, of_one, of_two, of_three}
use Rattle.wgsl_read_back.proofs.Places.{mark_of}

-- ---- what phrases are

abbrev pub Expressed : ℕ → List SpannedTemplateToken → Phrase Part → Type 0
Expressed n u x = (e : Exp) × (is_apart e ≡ true) × Back n (v.expression e) u x

-- before which a point may stand
abbrev pub Single : ℕ → List SpannedTemplateToken → Phrase Part → Type 0
Single n u x = (e : Exp) × (is_apart e ≡ true) × ((is_numeric e || not (ends_in_number e)) ≡ true) × Back n (v.expression e) u x

abbrev pub Typed : ℕ → List SpannedTemplateToken → Phrase Part → Type 0
Typed n u x = (t : Typ) × (type_is_apart t ≡ true) × Back n (v.type t) u x

-- ---- tokens

abbrev pub token_item : (c : ℕ) (t : TemplateToken) (u : List SpannedTemplateToken) (x : Phrase Part) → (k : OneToken c u x) → k.one.token ≡ t → class_of t ≡ c → Item (token c) (v.token t) u x
token_item c t u x k is class = record {
  stands = a_token (ap (λ z. z.part) (sym k.value) ∙ ap leaves.leaf is);
  passes = ap (λ z. z.failure) (sym k.value);
  again = token_again c t class;
  likewise = λ w e. token_again c t class w (e ∙ ap without_places (sym k.whole) ∙ ap (λ z. z ∷ []) is);
  spelled = λ h. subst AreSpelled (ap without_places (sym k.whole) ∙ ap (λ z. z ∷ []) is) h;
  steps = λ b o. record {
    last = before t;
    opened = groups b o (kind t);
    cont = cont_as b o (t ∷ []) (t ∷ []) (without_places u) (t ∷ []) (before t) (groups b o (kind t)) (sym (ap without_places (sym k.whole) ∙ ap (λ z. z ∷ []) is)) refl (token_steps t b o).cont;
  };
}

abbrev pub mark_item : (g : Fixed) (u : List SpannedTemplateToken) (x : Phrase Part) → OneToken (fixed_class g) u x → Item (token (fixed_class g)) (v.token (mark g)) u x
mark_item g u x k = token_item (fixed_class g) (mark g) u x k (mark_of k.one.token g k.class) refl

-- the tokens of a mark
pub mark_tokens : (g : Fixed) {u : List SpannedTemplateToken} {x : Phrase Part} → OneToken (fixed_class g) u x → without_places u ≡ mark g ∷ []
mark_tokens g k = ap without_places (sym k.whole) ∙ ap (λ z. z ∷ []) (mark_of k.one.token g k.class)

-- ---- productions that pass on

pub passed : {p : Part} {w : View} → Stands p w → made_failed l.Pass p ≡ None
passed (a_token {t = k} e) = ap (made_failed l.Pass) e ∙ none k
  where
    none : (k : TemplateToken) → made_failed l.Pass (leaves.leaf k) ≡ None
    none TemplateArgsStart = refl
    none (Plain (t.Fixed f.Const)) = refl
    none _ = refl
passed (an_ups e) = ap (made_failed l.Pass) e
passed (a_path y e h g) = ap (made_failed l.Pass) e
passed (a_type y e h) = ap (made_failed l.Pass) e
passed (a_call y e h g) = ap (made_failed l.Pass) e
passed (an_expression n e h) = ap (made_failed l.Pass) e
passed (some_expressions ns e h) = ap (made_failed l.Pass) e
passed (a_text e) = ap (made_failed l.Pass) e
passed (some_texts e) = ap (made_failed l.Pass) e
passed (a_directive y e h) = ap (made_failed l.Pass) e
passed (v.a_setting y e h) = ap (made_failed l.Pass) e
passed (a_word e) = ap (made_failed l.Pass) e
passed (some_arguments ns e h) = ap (made_failed l.Pass) e
passed (an_attribute y e h q) = ap (made_failed l.Pass) e ∙ h
passed (some_attributes ys e h q) = ap (made_failed l.Pass) e
passed (no_attributes e) = ap (made_failed l.Pass) e
passed (a_source e) = ap (made_failed l.Pass) e
passed (no_source e) = ap (made_failed l.Pass) e
passed (some_steps e) = ap (made_failed l.Pass) e
passed (no_steps e) = ap (made_failed l.Pass) e
passed (a_content y e h) = ap (made_failed l.Pass) e
passed (a_tree y e h) = ap (made_failed l.Pass) e
passed (some_trees ys e h) = ap (made_failed l.Pass) e
passed (an_importing y e h) = ap (made_failed l.Pass) e
passed (v.a_value n e h) = ap (made_failed l.Pass) e
passed (v.no_value e) = ap (made_failed l.Pass) e
passed (v.a_typed y e h g) = ap (made_failed l.Pass) e
passed (v.a_declared y e h g i j k) = ap (made_failed l.Pass) e
passed (v.an_asserted y e h g) = ap (made_failed l.Pass) e
passed (v.a_phony n e h) = ap (made_failed l.Pass) e
passed (v.a_plain y e h) = ap (made_failed l.Pass) e
passed (v.a_header y e h) = ap (made_failed l.Pass) e
passed (v.no_header e) = ap (made_failed l.Pass) e
passed (v.a_statement y e h) = ap (made_failed l.Pass) e
passed (v.some_statements ys e h) = ap (made_failed l.Pass) e
passed (v.no_statements e) = ap (made_failed l.Pass) e
passed (v.a_block y e h) = ap (made_failed l.Pass) e
passed (v.an_else y e h) = ap (made_failed l.Pass) e
passed (v.no_else e) = ap (made_failed l.Pass) e
passed (v.an_else_if y e h g) = ap (made_failed l.Pass) e
passed (v.some_else_ifs ys e h) = ap (made_failed l.Pass) e
passed (v.no_else_ifs e) = ap (made_failed l.Pass) e
passed (v.a_selector y e h) = ap (made_failed l.Pass) e
passed (v.some_selectors ys e h) = ap (made_failed l.Pass) e
passed (v.a_clause y e h g) = ap (made_failed l.Pass) e
passed (v.some_clauses ys e h) = ap (made_failed l.Pass) e
passed (v.an_ending y e h) = ap (made_failed l.Pass) e
passed (v.no_ending e) = ap (made_failed l.Pass) e
passed (v.a_break_if y e h) = ap (made_failed l.Pass) e
passed (v.no_break_if e) = ap (made_failed l.Pass) e
passed (v.a_member y e h) = ap (made_failed l.Pass) e
passed (v.some_members ys e h) = ap (made_failed l.Pass) e
passed (v.a_parameter y e h) = ap (made_failed l.Pass) e
passed (v.some_parameters ys e h) = ap (made_failed l.Pass) e
passed (v.no_parameters e) = ap (made_failed l.Pass) e
passed (v.a_result y e h g) = ap (made_failed l.Pass) e
passed (v.no_result e) = ap (made_failed l.Pass) e
passed (v.a_declaration y e h) = ap (made_failed l.Pass) e
passed (v.some_declarations ys e h) = ap (made_failed l.Pass) e
passed (v.no_declarations e) = ap (made_failed l.Pass) e
passed (v.some_imports ys e h) = ap (made_failed l.Pass) e
passed (v.no_imports e) = ap (made_failed l.Pass) e
passed (v.some_directives ys e h) = ap (made_failed l.Pass) e
passed (v.no_directives e) = ap (made_failed l.Pass) e
passed (v.a_module y e h) = ap (made_failed l.Pass) e
passed (a_kind {k = k} e) = ap (made_failed l.Pass) e ∙ none k
  where
    none : (k : DeclarationKind) → made_failed l.Pass (part.Kind k) ≡ None
    none (kinds.Var None) = refl
    none _ = refl

pub pass_back : (n m : ℕ) (w : View) → Rebuild n (phrase m ∷ []) l.Pass (2 ∷ []) → {u : List SpannedTemplateToken} {x : Phrase Part} → Back m w u x → Back n w (u ++ []) (make_of l.Pass (2 ∷ []) (x ∷ []))
pass_back n m w rebuild b =
    back_of n (phrase m ∷ []) l.Pass (2 ∷ []) rebuild (w ∷ []) w (append-nil (view_tokens w))
    (of_one (λ ys. Makes w (make_of l.Pass (2 ∷ []) ys)) (λ a h. makes_of l.Pass (2 ∷ []) a [] w (λ s. a.part) (λ s. refl) (λ s. h.0.0) (λ ps. refl) (λ s. passed h.0.0) (stood_pass (a ∷ []) (w ∷ []) h)))
    (more b.item no_more) (λ c p. tt) b.level b.ended

pub pass_expressed : (n m : ℕ) → Rebuild n (phrase m ∷ []) l.Pass (2 ∷ []) → {u : List SpannedTemplateToken} {x : Phrase Part} → Expressed m u x → Expressed n (u ++ []) (make_of l.Pass (2 ∷ []) (x ∷ []))
pass_expressed n m rebuild h = (h.0, h.1, pass_back n m (v.expression h.0) rebuild h.2)

pub pass_single : (n m : ℕ) → Rebuild n (phrase m ∷ []) l.Pass (2 ∷ []) → {u : List SpannedTemplateToken} {x : Phrase Part} → Single m u x → Single n (u ++ []) (make_of l.Pass (2 ∷ []) (x ∷ []))
pass_single n m rebuild h = (h.0, h.1, h.2, pass_back n m (v.expression h.0) rebuild h.3)

pub expressed : {n : ℕ} {u : List SpannedTemplateToken} {x : Phrase Part} → Single n u x → Expressed n u x
expressed h = (h.0, h.1, h.3)

pub pass_typed : (n m : ℕ) → Rebuild n (phrase m ∷ []) l.Pass (2 ∷ []) → {u : List SpannedTemplateToken} {x : Phrase Part} → Typed m u x → Typed n (u ++ []) (make_of l.Pass (2 ∷ []) (x ∷ []))
pass_typed n m rebuild h = (h.0, h.1, pass_back n m (v.type h.0) rebuild h.2)

-- ---- operators

binary_level : (o : BinaryOperator) (b : Before) (p : List Bool) → groups b p (kind (mark (binary_sign o))) ≡ p
binary_level ShortCircuitOr b p = refl
binary_level _ b p = refl

unary_level : (o : UnaryOperator) (b : Before) (p : List Bool) → groups b p (kind (mark (unary_sign o))) ≡ p
unary_level Negation b p = refl
unary_level _ b p = refl

both : (a b : Bool) → a ≡ true → b ≡ true → (a && b) ≡ true
both a b e h = (λ i. e i && h i)

binary_makes : (o : BinaryOperator) (d e : Exp) (k : TemplateToken) (a b c : Phrase Part) → Stood (a ∷ b ∷ c ∷ []) (v.expression d ∷ v.token k ∷ v.expression e ∷ [])
    → Makes (v.expression (binary o d e)) (make_of (l.Expression (label.Binary o)) (2 ∷ 1 ∷ 2 ∷ []) (a ∷ b ∷ c ∷ []))
binary_makes o d e k a b c h = go h.0.0 h.1.1.0.0
  where
    go : Stands a.part (v.expression d) → Stands c.part (v.expression e) → Makes (v.expression (binary o d e)) (make_of (l.Expression (label.Binary o)) (2 ∷ 1 ∷ 2 ∷ []) (a ∷ b ∷ c ∷ []))
    go (an_expression n p q) (an_expression m r s) =
        makes_of (l.Expression (label.Binary o)) (2 ∷ 1 ∷ 2 ∷ []) a (b ∷ c ∷ []) (v.expression (binary o d e)) (λ z. part.Expression (record { node = exp.Binary (record { operator = o; left = n; right = m }); span = z }))
        (λ z i. make.binary o z (p i ∷ r i ∷ [])) (λ z. an_expression _ refl (tree_of_binary (record { operator = o; left = n; right = m }) ∙ (λ i. binary o (q i) (s i)))) (λ ps. refl) (λ z. refl)
        (stood_pass (a ∷ b ∷ c ∷ []) (v.expression d ∷ v.token k ∷ v.expression e ∷ []) h)

module _ (o : BinaryOperator) (n m r : ℕ) (rebuild : Rebuild n (phrase m ∷ token (fixed_class (binary_sign o)) ∷ phrase r ∷ []) (l.Expression (label.Binary o)) (2 ∷ 1 ∷ 2 ∷ [])) where
  pub binary_expressed : {a b c : List SpannedTemplateToken} {x y z : Phrase Part} → Expressed m a x → OneToken (fixed_class (binary_sign o)) b y → Expressed r c z
      → Expressed n (a ++ (b ++ (c ++ []))) (make_of (l.Expression (label.Binary o)) (2 ∷ 1 ∷ 2 ∷ []) (x ∷ y ∷ z ∷ []))
  binary_expressed {b = b} {y = y} h k g =
      let sign = mark (binary_sign o) in
      let row = more h.2.item (more (mark_item (binary_sign o) b y k) (more g.2.item no_more)) in (
        binary o h.0 g.0,
        both (is_apart h.0) (is_apart g.0) h.1 g.1,
        back_of n (phrase m ∷ token (fixed_class (binary_sign o)) ∷ phrase r ∷ []) (l.Expression (label.Binary o)) (2 ∷ 1 ∷ 2 ∷ []) rebuild
            (v.expression h.0 ∷ v.token sign ∷ v.expression g.0 ∷ []) (v.expression (binary o h.0 g.0)) (ap (λ z. exp_tokens h.0 ++ (sign ∷ z)) (append-nil (exp_tokens g.0)))
            (of_three (λ ys. Makes (v.expression (binary o h.0 g.0)) (make_of (l.Expression (label.Binary o)) (2 ∷ 1 ∷ 2 ∷ []) ys)) (binary_makes o h.0 g.0 sign))
            row
            (λ c p. tt)
            (λ c p. g.2.level _ _ ∙ binary_level o (h.2.item.steps c p).last (h.2.item.steps c p).opened ∙ h.2.level c p)
            (λ c p. g.2.ended _ _),
      )

unary_makes : (o : UnaryOperator) (e : Exp) (k : TemplateToken) (a b : Phrase Part) → Stood (a ∷ b ∷ []) (v.token k ∷ v.expression e ∷ [])
    → Makes (v.expression (unary o e)) (make_of (l.Expression (label.Unary o)) (1 ∷ 2 ∷ []) (a ∷ b ∷ []))
unary_makes o e k a b h = go h.1.0.0
  where
    go : Stands b.part (v.expression e) → Makes (v.expression (unary o e)) (make_of (l.Expression (label.Unary o)) (1 ∷ 2 ∷ []) (a ∷ b ∷ []))
    go (an_expression n p q) =
        makes_of (l.Expression (label.Unary o)) (1 ∷ 2 ∷ []) a (b ∷ []) (v.expression (unary o e)) (λ z. part.Expression (record { node = exp.Unary (record { operator = o; operand = n }); span = z }))
        (λ z i. make.unary o z (p i ∷ [])) (λ z. an_expression _ refl (tree_of_unary (record { operator = o; operand = n }) ∙ (λ i. unary o (q i)))) (λ ps. refl) (λ z. refl)
        (stood_pass (a ∷ b ∷ []) (v.token k ∷ v.expression e ∷ []) h)

module _ (o : UnaryOperator) (n m : ℕ) (rebuild : Rebuild n (token (fixed_class (unary_sign o)) ∷ phrase m ∷ []) (l.Expression (label.Unary o)) (1 ∷ 2 ∷ [])) where
  pub unary_back : {a b : List SpannedTemplateToken} {x y : Phrase Part} (e : Exp) → OneToken (fixed_class (unary_sign o)) a x → Back m (v.expression e) b y
      → Back n (v.expression (unary o e)) (a ++ (b ++ [])) (make_of (l.Expression (label.Unary o)) (1 ∷ 2 ∷ []) (x ∷ y ∷ []))
  unary_back {a = a} {x = x} e k g =
      let sign = mark (unary_sign o) in
      let row = more (mark_item (unary_sign o) a x k) (more g.item no_more) in
      back_of n (token (fixed_class (unary_sign o)) ∷ phrase m ∷ []) (l.Expression (label.Unary o)) (1 ∷ 2 ∷ []) rebuild
      (v.token sign ∷ v.expression e ∷ []) (v.expression (unary o e)) (ap (λ z. sign ∷ z) (append-nil (exp_tokens e)))
      (of_two (λ ys. Makes (v.expression (unary o e)) (make_of (l.Expression (label.Unary o)) (1 ∷ 2 ∷ []) ys)) (unary_makes o e sign))
      row
      (λ c p. tt)
      (λ c p. g.level _ _ ∙ unary_level o c p)
      (λ c p. g.ended _ _)

  pub unary_expressed : {a b : List SpannedTemplateToken} {x y : Phrase Part} → OneToken (fixed_class (unary_sign o)) a x → Expressed m b y
      → Expressed n (a ++ (b ++ [])) (make_of (l.Expression (label.Unary o)) (1 ∷ 2 ∷ []) (x ∷ y ∷ []))
  unary_expressed k g = (unary o g.0, g.1, unary_back g.0 k g.2)
