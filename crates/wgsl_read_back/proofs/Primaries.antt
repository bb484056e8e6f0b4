-- The productions of operands and of lists.
use Rattle.std.proofs.Common.{◌≡◌, refl, sym, ap, ◌∙◌, ℕ, Bool, true, false, not, ◌||◌, List, [], ◌∷◌, ◌++◌, append_assoc, append-nil}
use Rattle.std.proofs.lemmas.List.{map-append}
use Rattle.std.proofs.lemmas.Bool.{and_parts}
use Rattle.wgsl_path.specs.Paths.{ident_of}
use Rattle.wgsl_token.specs.declared.token.Fixed.TheVariants as f
use Rattle.wgsl_templates.specs.declared.meaning.token.TemplateToken.TheVariants.{Plain}
use Rattle.wgsl_templates.specs.declared.meaning.token.SpannedTemplateToken.{SpannedTemplateToken}
use Rattle.wgsl_templates.specs.Kinds.{kind}
use Rattle.wgsl_print_laws.specs.OptionalMarks.{Before, before, is_callee, ends_operand, outer, groups, comma}
use Rattle.wgsl_expressions.specs.declared.expression.Expression.TheVariants as exp
use Rattle.wgsl_expressions.specs.declared.expression.LiteralExpression.{LiteralExpression}
use Rattle.wgsl_expressions.specs.declared.expression.LiteralExpression.TheVariants as lit
use Rattle.wgsl_expressions.specs.Print.{is_number, is_numeric}
use Rattle.wgsl_expressions.specs.Tree.{Exp, literal, parenthesized, component, indexed, call, named, Exps, exps, Typ}
use Rattle.wgsl_expressions.specs.View.{node_tree}
use Rattle.wgsl_expressions.proofs.Trees.{tree_of_literal, tree_of_parenthesized, tree_of_component, tree_of_indexed, tree_of_call, tree_of_named}
use Rattle.wgsl_print_laws.specs.Tokens.{mark, word, literal_token, exp_tokens, more_tokens, typ_tokens}
use Rattle.wgsl_print_laws.specs.Printable.{ends_in_number, is_apart, are_apart}
use Rattle.wgsl_grammar_tables.specs.Grammars.{token, phrase}
use Rattle.wgsl_semantic_values.specs.declared.part.Part.{Part}
use Rattle.wgsl_semantic_values.specs.declared.part.Part.TheVariants as part
use Rattle.wgsl_semantic_values.specs.declared.label.Label.TheVariants as l
use Rattle.wgsl_semantic_values.specs.declared.label.ExpressionLabel.TheVariants as label
use Rattle.wgsl_parser.specs.Leaves as leaves
use Rattle.wgsl_parser.specs.Phrase.{Phrase}
use Rattle.wgsl_semantic_values.specs.Making as make
use Rattle.wgsl_semantic_values.specs.Lists as lists
use Rattle.wgsl_grammar_tables.specs.Classes.{fixed_class, class_of}
use Rattle.wgsl_read_back.proofs.Views.{View, view_tokens, Stands, a_token, an_ups, a_path, a_type, a_call, an_expression, some_expressions, ends_as}
use Rattle.wgsl_read_back.proofs.Views as v
use Rattle.wgsl_read_back.proofs.Items.{Back, OneToken}
use Rattle.wgsl_read_back.proofs.Rows.{nil as no_more, more, Stood, stood_pass, Makes, make_of, makes_of, Rebuild, back_of, of_one, of_three, of_four}
use Rattle.wgsl_read_back.proofs.Places.{word_of, number_of}
use Rattle.wgsl_read_back.proofs.Lists.{list_without, list_with}
use Rattle.wgsl_read_back.proofs.Families.{Expressed, Single, Typed, token_item, mark_item}
use Rattle.wgsl_read_back.proofs.Operands.{Called, Separated, Listed, both, word_item, word_part}

-- ---- operands

either_way : (b : Bool) → (b || not b) ≡ true
either_way true = refl
either_way false = refl

leaf_literal : (x : LiteralExpression) → leaves.leaf (Plain (literal_token x)) ≡ part.Literal x
leaf_literal (lit.Bool true) = refl
leaf_literal (lit.Bool false) = refl
leaf_literal (lit.AbstractInt z) = refl
leaf_literal (lit.AbstractFloat z) = refl
leaf_literal (lit.I32 z) = refl
leaf_literal (lit.U32 z) = refl
leaf_literal (lit.F32 z) = refl
leaf_literal (lit.F16 z) = refl

literal_level : (x : LiteralExpression) (b : Before) (p : List Bool) → groups b p (kind (Plain (literal_token x))) ≡ p
literal_level (lit.Bool true) b p = refl
literal_level (lit.Bool false) b p = refl
literal_level (lit.AbstractInt z) b p = refl
literal_level _ b p = refl

literal_ends : (x : LiteralExpression) → ends_operand (before (Plain (literal_token x))) ≡ true
literal_ends (lit.Bool true) = refl
literal_ends (lit.Bool false) = refl
literal_ends (lit.AbstractInt z) = refl
literal_ends _ = refl

pub literal_single : (n c : ℕ) → Rebuild n (token c ∷ []) (l.Expression label.ALiteral) (2 ∷ []) → {u : List SpannedTemplateToken} {y : Phrase Part} (x : LiteralExpression) → (k : OneToken c u y) → k.one.token ≡ Plain (literal_token x)
    → Single n (u ++ []) (make_of (l.Expression label.ALiteral) (2 ∷ []) (y ∷ []))
literal_single n c rebuild {u = u} {y = y} x k is = (
  literal x,
  refl,
  either_way (is_number x),
  back_of n (token c ∷ []) (l.Expression label.ALiteral) (2 ∷ []) rebuild (v.token (Plain (literal_token x)) ∷ []) (v.expression (literal x)) refl
      (of_one (λ ys. Makes (v.expression (literal x)) (make_of (l.Expression label.ALiteral) (2 ∷ []) ys)) makes)
      (more (token_item c (Plain (literal_token x)) u y k is (ap class_of (sym is) ∙ k.class)) no_more) (λ d p. tt) (λ d p. literal_level x d p) (λ d p. literal_ends x),
)
  where
    makes : (a : Phrase Part) → Stood (a ∷ []) (v.token (Plain (literal_token x)) ∷ []) → Makes (v.expression (literal x)) (make_of (l.Expression label.ALiteral) (2 ∷ []) (a ∷ []))
    makes a h = go h.0.0
      where
        go : Stands a.part (v.token (Plain (literal_token x))) → Makes (v.expression (literal x)) (make_of (l.Expression label.ALiteral) (2 ∷ []) (a ∷ []))
        go (a_token e) =
            makes_of (l.Expression label.ALiteral) (2 ∷ []) a [] (v.expression (literal x)) (λ z. part.Expression (record { node = exp.Literal x; span = z }))
            (λ z. ap (λ q. make.a_literal z (q ∷ [])) (e ∙ leaf_literal x)) (λ z. an_expression _ refl (tree_of_literal x)) (λ ps. refl) (λ z. refl) (stood_pass (a ∷ []) (v.token (Plain (literal_token x)) ∷ []) h)

pub number_single : (n : ℕ) → Rebuild n (token 78 ∷ []) (l.Expression label.ALiteral) (2 ∷ []) → {u : List SpannedTemplateToken} {y : Phrase Part} → OneToken 78 u y → Single n (u ++ []) (make_of (l.Expression label.ALiteral) (2 ∷ []) (y ∷ []))
number_single n rebuild k = let x = number_of k.one.token k.class in literal_single n 78 rebuild x.0 k x.1

pub named_single : (n m : ℕ) → Rebuild n (phrase m ∷ []) (l.Expression label.Named) (2 ∷ []) → {u : List SpannedTemplateToken} {x : Phrase Part} → Typed m u x → Single n (u ++ []) (make_of (l.Expression label.Named) (2 ∷ []) (x ∷ []))
named_single n m rebuild g = (
  named g.0,
  g.1,
  refl,
  back_of n (phrase m ∷ []) (l.Expression label.Named) (2 ∷ []) rebuild (v.type g.0 ∷ []) (v.expression (named g.0)) (append-nil (typ_tokens g.0))
      (of_one (λ ys. Makes (v.expression (named g.0)) (make_of (l.Expression label.Named) (2 ∷ []) ys)) (makes g.0))
      (more g.2.item no_more) (λ c p. tt) g.2.level (λ c p. ap ends_operand (g.2.ended c p)),
)
  where
    makes : (t : Typ) (a : Phrase Part) → Stood (a ∷ []) (v.type t ∷ []) → Makes (v.expression (named t)) (make_of (l.Expression label.Named) (2 ∷ []) (a ∷ []))
    makes t a h = go h.0.0
      where
        go : Stands a.part (v.type t) → Makes (v.expression (named t)) (make_of (l.Expression label.Named) (2 ∷ []) (a ∷ []))
        go (a_type x is p) =
            makes_of (l.Expression label.Named) (2 ∷ []) a [] (v.expression (named t)) (λ z. part.Expression (record { node = exp.TypeOrIdentifier x; span = z }))
            (λ z i. make.named z (is i ∷ [])) (λ z. an_expression _ refl (tree_of_named x ∙ ap named p)) (λ ps. refl) (λ z. refl) (stood_pass (a ∷ []) (v.type t ∷ []) h)

pub called_single : (n m : ℕ) → Rebuild n (phrase m ∷ []) (l.Expression label.Called) (2 ∷ []) → {u : List SpannedTemplateToken} {x : Phrase Part} → Called m u x → Single n (u ++ []) (make_of (l.Expression label.Called) (2 ∷ []) (x ∷ []))
called_single n m rebuild g = (
  call g.0 g.1,
  g.2,
  refl,
  back_of n (phrase m ∷ []) (l.Expression label.Called) (2 ∷ []) rebuild (v.call g.0 g.1 ∷ []) (v.expression (call g.0 g.1)) (append-nil (exp_tokens (call g.0 g.1)))
      (of_one (λ ys. Makes (v.expression (call g.0 g.1)) (make_of (l.Expression label.Called) (2 ∷ []) ys)) (makes g.0 g.1))
      (more g.3.item no_more) (λ c p. tt) g.3.level g.3.ended,
)
  where
    makes : (t : Typ) (xs : Exps) (a : Phrase Part) → Stood (a ∷ []) (v.call t xs ∷ []) → Makes (v.expression (call t xs)) (make_of (l.Expression label.Called) (2 ∷ []) (a ∷ []))
    makes t xs a h = go h.0.0
      where
        go : Stands a.part (v.call t xs) → Makes (v.expression (call t xs)) (make_of (l.Expression label.Called) (2 ∷ []) (a ∷ []))
        go (a_call x is p q) =
            makes_of (l.Expression label.Called) (2 ∷ []) a [] (v.expression (call t xs)) (λ z. part.Expression (record { node = exp.FunctionCall x; span = z }))
            (λ z i. make.called z (is i ∷ [])) (λ z. an_expression _ refl (tree_of_call x ∙ (λ i. call (p i) (q i)))) (λ ps. refl) (λ z. refl) (stood_pass (a ∷ []) (v.call t xs ∷ []) h)

pub parenthesized_back : (n m : ℕ) → Rebuild n (token (fixed_class f.ParenLeft) ∷ phrase m ∷ token (fixed_class f.ParenRight) ∷ []) (l.Expression label.Parenthesized) (1 ∷ 2 ∷ 1 ∷ []) → {a b c : List SpannedTemplateToken} {x y z : Phrase Part}
    (e : Exp) → OneToken (fixed_class f.ParenLeft) a x → Back m (v.expression e) b y → OneToken (fixed_class f.ParenRight) c z → Back n (v.expression (parenthesized e)) (a ++ (b ++ (c ++ []))) (make_of (l.Expression label.Parenthesized) (1 ∷ 2 ∷ 1 ∷ []) (x ∷ y ∷ z ∷ []))
parenthesized_back n m rebuild {a = a} {c = c} {x = x} {z = z} e i g j =
    back_of n (token (fixed_class f.ParenLeft) ∷ phrase m ∷ token (fixed_class f.ParenRight) ∷ []) (l.Expression label.Parenthesized) (1 ∷ 2 ∷ 1 ∷ []) rebuild
    (v.token (mark f.ParenLeft) ∷ v.expression e ∷ v.token (mark f.ParenRight) ∷ []) (v.expression (parenthesized e)) refl
    (of_three (λ ys. Makes (v.expression (parenthesized e)) (make_of (l.Expression label.Parenthesized) (1 ∷ 2 ∷ 1 ∷ []) ys)) (makes e))
    (more (mark_item f.ParenLeft a x i) (more g.item (more (mark_item f.ParenRight c z j) no_more))) (λ d p. tt) (λ d p. ap outer (g.level (before (mark f.ParenLeft)) (is_callee d ∷ p))) (λ d p. refl)
  where
    makes : (e : Exp) (a b c : Phrase Part) → Stood (a ∷ b ∷ c ∷ []) (v.token (mark f.ParenLeft) ∷ v.expression e ∷ v.token (mark f.ParenRight) ∷ []) → Makes (v.expression (parenthesized e)) (make_of (l.Expression label.Parenthesized) (1 ∷ 2 ∷ 1 ∷ []) (a ∷ b ∷ c ∷ []))
    makes e a b c h = go h.1.0.0
      where
        go : Stands b.part (v.expression e) → Makes (v.expression (parenthesized e)) (make_of (l.Expression label.Parenthesized) (1 ∷ 2 ∷ 1 ∷ []) (a ∷ b ∷ c ∷ []))
        go (an_expression x is p) =
            makes_of (l.Expression label.Parenthesized) (1 ∷ 2 ∷ 1 ∷ []) a (b ∷ c ∷ []) (v.expression (parenthesized e)) (λ z. part.Expression (record { node = exp.Parenthesized (record { expression = x }); span = z }))
            (λ z i. make.parenthesized z (is i ∷ [])) (λ z. an_expression _ refl (tree_of_parenthesized (record { expression = x }) ∙ ap parenthesized p)) (λ ps. refl) (λ z. refl)
            (stood_pass (a ∷ b ∷ c ∷ []) (v.token (mark f.ParenLeft) ∷ v.expression e ∷ v.token (mark f.ParenRight) ∷ []) h)

pub parenthesized_single : (n m : ℕ) → Rebuild n (token (fixed_class f.ParenLeft) ∷ phrase m ∷ token (fixed_class f.ParenRight) ∷ []) (l.Expression label.Parenthesized) (1 ∷ 2 ∷ 1 ∷ []) → {a b c : List SpannedTemplateToken} {x y z : Phrase Part}
    → OneToken (fixed_class f.ParenLeft) a x → Expressed m b y → OneToken (fixed_class f.ParenRight) c z → Single n (a ++ (b ++ (c ++ []))) (make_of (l.Expression label.Parenthesized) (1 ∷ 2 ∷ 1 ∷ []) (x ∷ y ∷ z ∷ []))
parenthesized_single n m rebuild i g j = (parenthesized g.0, g.1, refl, parenthesized_back n m rebuild g.0 i g.2 j)

pub component_back : (n m : ℕ) → Rebuild n (phrase m ∷ token (fixed_class f.Period) ∷ token 77 ∷ []) (l.Expression label.Component) (2 ∷ 1 ∷ 2 ∷ []) → {a b c : List SpannedTemplateToken} {x y z : Phrase Part}
    (e : Exp) → Back m (v.expression e) a x → OneToken (fixed_class f.Period) b y → (j : OneToken 77 c z) → Back n (v.expression (component e (word_of j.one.token j.class).0)) (a ++ (b ++ (c ++ []))) (make_of (l.Expression label.Component) (2 ∷ 1 ∷ 2 ∷ []) (x ∷ y ∷ z ∷ []))
component_back n m rebuild {b = b} {c = c} {y = y} {z = z} e g i j =
    let name = (word_of j.one.token j.class).0 in
    back_of n (phrase m ∷ token (fixed_class f.Period) ∷ token 77 ∷ []) (l.Expression label.Component) (2 ∷ 1 ∷ 2 ∷ []) rebuild
    (v.expression e ∷ v.token (mark f.Period) ∷ v.token (word name) ∷ []) (v.expression (component e name)) refl
    (of_three (λ ys. Makes (v.expression (component e name)) (make_of (l.Expression label.Component) (2 ∷ 1 ∷ 2 ∷ []) ys)) (makes e name))
    (more g.item (more (mark_item f.Period b y i) (more (word_item c z j) no_more))) (λ d p. tt) (λ d p. g.level d p) (λ d p. refl)
  where
    makes : (e : Exp) (name : List ℕ) (a b c : Phrase Part) → Stood (a ∷ b ∷ c ∷ []) (v.expression e ∷ v.token (mark f.Period) ∷ v.token (word name) ∷ []) → Makes (v.expression (component e name)) (make_of (l.Expression label.Component) (2 ∷ 1 ∷ 2 ∷ []) (a ∷ b ∷ c ∷ []))
    makes e name a b c h = go h.0.0
      where
        go : Stands a.part (v.expression e) → Makes (v.expression (component e name)) (make_of (l.Expression label.Component) (2 ∷ 1 ∷ 2 ∷ []) (a ∷ b ∷ c ∷ []))
        go (an_expression x is p) =
            makes_of (l.Expression label.Component) (2 ∷ 1 ∷ 2 ∷ []) a (b ∷ c ∷ []) (v.expression (component e name)) (λ z. part.Expression (record { node = exp.NamedComponent (record { base = x; component = ident_of name }); span = z }))
            (λ z i. make.component z (is i ∷ word_part c.part name h.1.1.0.0 i ∷ [])) (λ z. an_expression _ refl (tree_of_component (record { base = x; component = ident_of name }) ∙ ap (λ d. component d name) p)) (λ ps. refl) (λ z. refl)
            (stood_pass (a ∷ b ∷ c ∷ []) (v.expression e ∷ v.token (mark f.Period) ∷ v.token (word name) ∷ []) h)

pub component_single : (n m : ℕ) → Rebuild n (phrase m ∷ token (fixed_class f.Period) ∷ token 77 ∷ []) (l.Expression label.Component) (2 ∷ 1 ∷ 2 ∷ []) → {a b c : List SpannedTemplateToken} {x y z : Phrase Part}
    → Single m a x → OneToken (fixed_class f.Period) b y → OneToken 77 c z → Single n (a ++ (b ++ (c ++ []))) (make_of (l.Expression label.Component) (2 ∷ 1 ∷ 2 ∷ []) (x ∷ y ∷ z ∷ []))
component_single n m rebuild g i j =
    (component g.0 (word_of j.one.token j.class).0, both (is_numeric g.0 || not (ends_in_number g.0)) (is_apart g.0) g.2 g.1, refl, component_back n m rebuild g.0 g.3 i j)

pub indexed_back : (n m r : ℕ) → Rebuild n (phrase m ∷ token (fixed_class f.BracketLeft) ∷ phrase r ∷ token (fixed_class f.BracketRight) ∷ []) (l.Expression label.Indexed) (2 ∷ 1 ∷ 2 ∷ 1 ∷ [])
    → {a b c d : List SpannedTemplateToken} {x y z w : Phrase Part} (e k : Exp) → Back m (v.expression e) a x → OneToken (fixed_class f.BracketLeft) b y → Back r (v.expression k) c z → OneToken (fixed_class f.BracketRight) d w
    → Back n (v.expression (indexed e k)) (a ++ (b ++ (c ++ (d ++ [])))) (make_of (l.Expression label.Indexed) (2 ∷ 1 ∷ 2 ∷ 1 ∷ []) (x ∷ y ∷ z ∷ w ∷ []))
indexed_back n m r rebuild {b = b} {d = d} {y = y} {w = w} e k g i h j =
    back_of n (phrase m ∷ token (fixed_class f.BracketLeft) ∷ phrase r ∷ token (fixed_class f.BracketRight) ∷ []) (l.Expression label.Indexed) (2 ∷ 1 ∷ 2 ∷ 1 ∷ []) rebuild
    (v.expression e ∷ v.token (mark f.BracketLeft) ∷ v.expression k ∷ v.token (mark f.BracketRight) ∷ []) (v.expression (indexed e k)) refl
    (of_four (λ ys. Makes (v.expression (indexed e k)) (make_of (l.Expression label.Indexed) (2 ∷ 1 ∷ 2 ∷ 1 ∷ []) ys)) (makes e k))
    (more g.item (more (mark_item f.BracketLeft b y i) (more h.item (more (mark_item f.BracketRight d w j) no_more)))) (λ c p. tt)
    (λ c p. ap outer (h.level (before (mark f.BracketLeft)) (false ∷ (g.item.steps c p).opened)) ∙ g.level c p) (λ c p. refl)
  where
    makes : (e k : Exp) (a b c d : Phrase Part) → Stood (a ∷ b ∷ c ∷ d ∷ []) (v.expression e ∷ v.token (mark f.BracketLeft) ∷ v.expression k ∷ v.token (mark f.BracketRight) ∷ [])
        → Makes (v.expression (indexed e k)) (make_of (l.Expression label.Indexed) (2 ∷ 1 ∷ 2 ∷ 1 ∷ []) (a ∷ b ∷ c ∷ d ∷ []))
    makes e k a b c d h = go h.0.0 h.1.1.0.0
      where
        go : Stands a.part (v.expression e) → Stands c.part (v.expression k) → Makes (v.expression (indexed e k)) (make_of (l.Expression label.Indexed) (2 ∷ 1 ∷ 2 ∷ 1 ∷ []) (a ∷ b ∷ c ∷ d ∷ []))
        go (an_expression x is p) (an_expression y at q) =
            makes_of (l.Expression label.Indexed) (2 ∷ 1 ∷ 2 ∷ 1 ∷ []) a (b ∷ c ∷ d ∷ []) (v.expression (indexed e k)) (λ z. part.Expression (record { node = exp.Indexing (record { base = x; index = y }); span = z }))
            (λ z i. make.indexed z (is i ∷ at i ∷ [])) (λ z. an_expression _ refl (tree_of_indexed (record { base = x; index = y }) ∙ (λ i. indexed (p i) (q i)))) (λ ps. refl) (λ z. refl)
            (stood_pass (a ∷ b ∷ c ∷ d ∷ []) (v.expression e ∷ v.token (mark f.BracketLeft) ∷ v.expression k ∷ v.token (mark f.BracketRight) ∷ []) h)

pub indexed_single : (n m r : ℕ) → Rebuild n (phrase m ∷ token (fixed_class f.BracketLeft) ∷ phrase r ∷ token (fixed_class f.BracketRight) ∷ []) (l.Expression label.Indexed) (2 ∷ 1 ∷ 2 ∷ 1 ∷ [])
    → {a b c d : List SpannedTemplateToken} {x y z w : Phrase Part} → Single m a x → OneToken (fixed_class f.BracketLeft) b y → Expressed r c z → OneToken (fixed_class f.BracketRight) d w
    → Single n (a ++ (b ++ (c ++ (d ++ [])))) (make_of (l.Expression label.Indexed) (2 ∷ 1 ∷ 2 ∷ 1 ∷ []) (x ∷ y ∷ z ∷ w ∷ []))
indexed_single n m r rebuild g i h j = (indexed g.0 h.0, both (is_apart g.0) (is_apart h.0) g.1 h.1, refl, indexed_back n m r rebuild g.0 h.0 g.3 i h.2 j)

-- ---- lists

pub first_separated : (n m : ℕ) → Rebuild n (phrase m ∷ []) l.First (2 ∷ []) → {u : List SpannedTemplateToken} {x : Phrase Part} → Expressed m u x → Separated n (u ++ []) (make_of l.First (2 ∷ []) (x ∷ []))
first_separated n m rebuild g = (
  g.0,
  [],
  both (is_apart g.0) true g.1 refl,
  back_of n (phrase m ∷ []) l.First (2 ∷ []) rebuild (v.expression g.0 ∷ []) (v.expressions (g.0 ∷ [])) refl
      (of_one (λ ys. Makes (v.expressions (g.0 ∷ [])) (make_of l.First (2 ∷ []) ys)) (makes g.0))
      (more g.2.item no_more) (λ c p. tt) g.2.level g.2.ended,
)
  where
    makes : (e : Exp) (a : Phrase Part) → Stood (a ∷ []) (v.expression e ∷ []) → Makes (v.expressions (e ∷ [])) (make_of l.First (2 ∷ []) (a ∷ []))
    makes e a h = go h.0.0
      where
        go : Stands a.part (v.expression e) → Makes (v.expressions (e ∷ [])) (make_of l.First (2 ∷ []) (a ∷ []))
        go (an_expression x is p) =
            makes_of l.First (2 ∷ []) a [] (v.expressions (e ∷ [])) (λ z. part.Expressions (x ∷ []))
            (λ z i. lists.started (is i)) (λ z. some_expressions _ refl (λ i. p i ∷ [])) (λ ps. refl) (λ z. refl) (stood_pass (a ∷ []) (v.expression e ∷ []) h)

more_last : (ds : List Exp) (e : Exp) → more_tokens (exps (ds ++ (e ∷ []))) ≡ more_tokens (exps ds) ++ (comma ∷ (exp_tokens e ++ []))
more_last [] e = refl
more_last (d ∷ ds) e = ap (λ z. comma ∷ (exp_tokens d ++ z)) (more_last ds e) ∙ ap (λ z. comma ∷ z) (sym (append_assoc (exp_tokens d) (more_tokens (exps ds)) (comma ∷ (exp_tokens e ++ []))))

apart_last : (ds : List Exp) (e : Exp) → are_apart (exps ds) ≡ true → is_apart e ≡ true → are_apart (exps (ds ++ (e ∷ []))) ≡ true
apart_last [] e h g = both (is_apart e) true g refl
apart_last (d ∷ ds) e h g = let b = and_parts (is_apart d) (are_apart (exps ds)) h in both (is_apart d) (are_apart (exps (ds ++ (e ∷ [])))) b.0 (apart_last ds e b.1 g)

pub more_separated : (n m : ℕ) → Rebuild n (phrase n ∷ token (fixed_class f.Comma) ∷ phrase m ∷ []) l.More (2 ∷ 1 ∷ 2 ∷ []) → {a b c : List SpannedTemplateToken} {x y z : Phrase Part} → Separated n a x → OneToken (fixed_class f.Comma) b y → Expressed m c z
    → Separated n (a ++ (b ++ (c ++ []))) (make_of l.More (2 ∷ 1 ∷ 2 ∷ []) (x ∷ y ∷ z ∷ []))
more_separated n m rebuild {b = b} {y = y} g i h = (
  g.0,
  g.1 ++ (h.0 ∷ []),
  apart_last (g.0 ∷ g.1) h.0 g.2 h.1,
  back_of n (phrase n ∷ token (fixed_class f.Comma) ∷ phrase m ∷ []) l.More (2 ∷ 1 ∷ 2 ∷ []) rebuild
      (v.expressions (g.0 ∷ g.1) ∷ v.token comma ∷ v.expression h.0 ∷ []) (v.expressions (g.0 ∷ (g.1 ++ (h.0 ∷ []))))
      (append_assoc (exp_tokens g.0) (more_tokens (exps g.1)) (comma ∷ (exp_tokens h.0 ++ [])) ∙ ap (λ z. exp_tokens g.0 ++ z) (sym (more_last g.1 h.0)))
      (of_three (λ ys. Makes (v.expressions (g.0 ∷ (g.1 ++ (h.0 ∷ [])))) (make_of l.More (2 ∷ 1 ∷ 2 ∷ []) ys)) (makes g.0 g.1 h.0))
      (more g.3.item (more (mark_item f.Comma b y i) (more h.2.item no_more))) (λ d p. tt) (λ d p. h.2.level _ _ ∙ g.3.level d p) (λ d p. h.2.ended _ _),
)
  where
    makes : (d : Exp) (ds : List Exp) (e : Exp) (a b c : Phrase Part) → Stood (a ∷ b ∷ c ∷ []) (v.expressions (d ∷ ds) ∷ v.token comma ∷ v.expression e ∷ []) → Makes (v.expressions (d ∷ (ds ++ (e ∷ [])))) (make_of l.More (2 ∷ 1 ∷ 2 ∷ []) (a ∷ b ∷ c ∷ []))
    makes d ds e a b c h = go h.0.0 h.1.1.0.0
      where
        go : Stands a.part (v.expressions (d ∷ ds)) → Stands c.part (v.expression e) → Makes (v.expressions (d ∷ (ds ++ (e ∷ [])))) (make_of l.More (2 ∷ 1 ∷ 2 ∷ []) (a ∷ b ∷ c ∷ []))
        go (some_expressions ns is p) (an_expression x at q) =
            makes_of l.More (2 ∷ 1 ∷ 2 ∷ []) a (b ∷ c ∷ []) (v.expressions (d ∷ (ds ++ (e ∷ [])))) (λ z. part.Expressions (ns ++ (x ∷ [])))
            (λ z i. lists.joined (is i) (at i)) (λ z. some_expressions _ refl (map-append node_tree ns (x ∷ []) ∙ (λ i. p i ++ (q i ∷ [])))) (λ ps. refl) (λ z. refl)
            (stood_pass (a ∷ b ∷ c ∷ []) (v.expressions (d ∷ ds) ∷ v.token comma ∷ v.expression e ∷ []) h)

pub listed_without : (n m : ℕ) → Rebuild n (phrase m ∷ []) l.Pass (2 ∷ []) → {u : List SpannedTemplateToken} {x : Phrase Part} → Separated m u x → Listed n (u ++ []) (make_of l.Pass (2 ∷ []) (x ∷ []))
listed_without n m rebuild g = (g.0 ∷ g.1, g.2, list_without n m (v.expressions (g.0 ∷ g.1)) rebuild g.3)

pub listed_with : (n m : ℕ) → Rebuild n (phrase m ∷ token (fixed_class f.Comma) ∷ []) l.Pass (2 ∷ 1 ∷ []) → Rebuild n (phrase m ∷ []) l.Pass (2 ∷ []) → {a b : List SpannedTemplateToken} {x y : Phrase Part} → Separated m a x → OneToken (fixed_class f.Comma) b y
    → Listed n (a ++ (b ++ [])) (make_of l.Pass (2 ∷ 1 ∷ []) (x ∷ y ∷ []))
listed_with n m read rebuild g k = (g.0 ∷ g.1, g.2, list_with n m (v.expressions (g.0 ∷ g.1)) read rebuild g.3 k)
