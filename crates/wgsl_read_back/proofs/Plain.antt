-- The productions of what is assigned to, and of statements that hold no other.
use Rattle.std.proofs.Common.{◌≡◌, refl, ap, ◌∙◌, ℕ, Bool, true, false, not, ◌||◌, List, [], ◌∷◌, ◌++◌, append-nil, codes, Option, Some, None}
use Rattle.wgsl_path.specs.declared.path.ModulePath.{ModulePath}
use Rattle.wgsl_path.specs.declared.span.Spanned.{Spanned}
use Rattle.wgsl_path.specs.Paths.{ident_of}
use Rattle.wgsl_words.specs.declared.operators.UnaryOperator.{UnaryOperator}
use Rattle.wgsl_words.specs.declared.enumerations.words.AssignmentOperator.{AssignmentOperator}
use Rattle.wgsl_words.specs.declared.enumerations.words.AssignmentOperator.TheVariants.{Equal}
use Rattle.wgsl_token.specs.declared.token.Fixed.{Fixed}
use Rattle.wgsl_token.specs.declared.token.Fixed.TheVariants as f
use Rattle.wgsl_templates.specs.declared.meaning.token.TemplateToken.{TemplateToken}
use Rattle.wgsl_templates.specs.declared.meaning.token.SpannedTemplateToken.{SpannedTemplateToken}
use Rattle.wgsl_templates.specs.Kinds.{kind}
use Rattle.wgsl_print_laws.specs.OptionalMarks.{Before, groups, ends_operand}
use Rattle.wgsl_expressions.specs.declared.expression.Expression.{Expression}
use Rattle.wgsl_expressions.specs.declared.expression.Expression.TheVariants as exp
use Rattle.wgsl_expressions.specs.Tree.{Exp, Exps, unary, parenthesized, component, indexed, named, simple, call, Typ}
use Rattle.wgsl_expressions.specs.View.{node_tree}
use Rattle.wgsl_expressions.specs.Print.{is_numeric}
use Rattle.wgsl_expressions.proofs.Trees.{tree_of_named}
use Rattle.wgsl_expressions.specs.AttributesView.{attributes_tree}
use Rattle.wgsl_simple_statements.specs.declared.declaration.DeclarationKind.{DeclarationKind}
use Rattle.wgsl_simple_statements.specs.Tree as s
use Rattle.wgsl_statements.specs.declared.statement.Statement.{Statement}
use Rattle.wgsl_statements.specs.declared.statement.Statement.TheVariants as statement
use Rattle.wgsl_statements.specs.Tree as stm
use Rattle.wgsl_statements.specs.View.{statement_tree}
use Rattle.wgsl_statements.proofs.Trees.{tree_of_assignment, tree_of_increment, tree_of_decrement, tree_of_break, tree_of_continue, tree_of_return, tree_of_discard, tree_of_call, tree_of_assertion, tree_of_value}
use Rattle.wgsl_print_laws.specs.Tokens.{mark, exp_tokens, unary_sign}
use Rattle.wgsl_print_laws.specs.Printable.{ends_in_number, is_apart}
use Rattle.wgsl_print_laws.specs.Attributes.{name_exp}
use Rattle.wgsl_print_laws.specs.Simple.{assignment_sign, PlaceTokens, SimpleTokens, value_is_apart, value_tokens, declared_tokens, asserted_tokens}
use Rattle.wgsl_print_laws.specs.Simple as t
use Rattle.wgsl_grammar_tables.specs.Grammars.{Symbol, token, phrase}
use Rattle.wgsl_semantic_values.specs.declared.part.Part.{Part}
use Rattle.wgsl_semantic_values.specs.declared.part.Part.TheVariants as part
use Rattle.wgsl_semantic_values.specs.declared.label.Label.TheVariants as l
use Rattle.wgsl_semantic_values.specs.declared.label.ExpressionLabel.TheVariants as elabel
use Rattle.wgsl_semantic_values.specs.declared.label.PlainLabel.{PlainLabel}
use Rattle.wgsl_semantic_values.specs.declared.label.PlainLabel.TheVariants as label
use Rattle.wgsl_semantic_values.specs.declared.label.StatementLabel.TheVariants as slabel
use Rattle.wgsl_parser.specs.Phrase.{Phrase}
use Rattle.wgsl_semantic_values.specs.Making as emake
use Rattle.wgsl_semantic_values.specs.Values as make
use Rattle.wgsl_parser.specs.Statements as smake
use Rattle.wgsl_grammar_tables.specs.Classes.{fixed_class}
use Rattle.wgsl_read_back.proofs.Views.{View, view_tokens, Stands, a_token, a_path, a_call, an_expression, a_value, no_value, a_declared, an_asserted, a_phony, a_plain, a_header}
use Rattle.wgsl_read_back.proofs.Views as v
use Rattle.wgsl_read_back.proofs.Items.{Back, OneToken}
use Rattle.wgsl_read_back.proofs.Rows.{make_of, Rebuild}
use Rattle.wgsl_read_back.proofs.Pieces.{StandAll, end, a_mark, a_part, a_part_as, no_part, Made, made_as, pieces_back, of_no_part, of_one_part, of_two_parts, phrase_back}
use Rattle.wgsl_read_back.proofs.Families.{Expressed, mark_item, pass_back, unary_back}
use Rattle.wgsl_read_back.proofs.Primaries.{parenthesized_back, component_back, indexed_back}
use Rattle.wgsl_read_back.proofs.Operands.{Named, Called, both}
use Rattle.wgsl_read_back.proofs.Places.{word_of}
use Rattle.wgsl_read_back.proofs.Values.{ValueDeclared, Asserted}

-- ---- what phrases are

-- what may be assigned to, or counted up
abbrev pub Placed : ℕ → List SpannedTemplateToken → Phrase Part → Type 0
Placed n u x = (e : Exp) × (is_apart e ≡ true) × (ends_in_number e ≡ false) × Back n (v.expression e) u x

abbrev pub Phony : ℕ → List SpannedTemplateToken → Phrase Part → Type 0
Phony n u x = Back n v.phony u x

-- a statement without its `;`, and the same in a header
abbrev pub PlainStated : ℕ → List SpannedTemplateToken → Phrase Part → Type 0
PlainStated n u x = (y : s.Simple) × (ts : List TemplateToken) × SimpleTokens y ts × Back n (v.plain y ts) u x

abbrev pub Headed : ℕ → List SpannedTemplateToken → Phrase Part → Type 0
Headed n u x = (y : s.Simple) × (ts : List TemplateToken) × SimpleTokens y ts × Back n (v.header (Some y) ts) u x

-- ---- places

pub unary_placed : (o : UnaryOperator) (n m : ℕ) → Rebuild n (token (fixed_class (unary_sign o)) ∷ phrase m ∷ []) (l.Expression (elabel.Unary o)) (1 ∷ 2 ∷ []) → {a b : List SpannedTemplateToken} {x y : Phrase Part}
    → OneToken (fixed_class (unary_sign o)) a x → Placed m b y → Placed n (a ++ (b ++ [])) (make_of (l.Expression (elabel.Unary o)) (1 ∷ 2 ∷ []) (x ∷ y ∷ []))
unary_placed o n m rebuild k g = (unary o g.0, g.1, g.2, unary_back o n m rebuild g.0 k g.3)

pub pass_placed : (n m : ℕ) → Rebuild n (phrase m ∷ []) l.Pass (2 ∷ []) → {u : List SpannedTemplateToken} {x : Phrase Part} → Placed m u x → Placed n (u ++ []) (make_of l.Pass (2 ∷ []) (x ∷ []))
pass_placed n m rebuild g = (g.0, g.1, g.2, pass_back n m (v.expression g.0) rebuild g.3)

pub name_placed : (n m : ℕ) → Rebuild n (phrase m ∷ []) (l.Expression elabel.PlaceName) (2 ∷ []) → {u : List SpannedTemplateToken} {x : Phrase Part} → Named m u x → Placed n (u ++ []) (make_of (l.Expression elabel.PlaceName) (2 ∷ []) (x ∷ []))
name_placed n m rebuild g = (
  named (simple g.0 g.1),
  refl,
  refl,
  phrase_back n m (l.Expression elabel.PlaceName) rebuild (v.expression (named (simple g.0 g.1))) g.2 (append-nil (view_tokens (v.path g.0 g.1))) (makes g.0 g.1) (λ b o. ap ends_operand (g.2.ended b o)),
)
  where
    makes : (q : Option ModulePath) (y : List ℕ) (p : Part) → Stands p (v.path q y) → Made (l.Expression elabel.PlaceName) (p ∷ []) (v.expression (named (simple q y)))
    makes q y p (a_path x is path name) =
        made_as (l.Expression elabel.PlaceName) (p ∷ []) (v.expression (named (simple q y))) (λ z. part.Expression (record { node = exp.TypeOrIdentifier (record { path = x.path; ident = x.ident; template_args = None }); span = z }))
        (λ z i. emake.place_name z (is i ∷ [])) (λ z. an_expression _ refl (tree_of_named (record { path = x.path; ident = x.ident; template_args = None }) ∙ (λ i. named (simple (path i) (name i))))) (λ z. refl) refl

pub parenthesized_placed : (n m : ℕ) → Rebuild n (token (fixed_class f.ParenLeft) ∷ phrase m ∷ token (fixed_class f.ParenRight) ∷ []) (l.Expression elabel.Parenthesized) (1 ∷ 2 ∷ 1 ∷ []) → {a b c : List SpannedTemplateToken} {x y z : Phrase Part}
    → OneToken (fixed_class f.ParenLeft) a x → Placed m b y → OneToken (fixed_class f.ParenRight) c z → Placed n (a ++ (b ++ (c ++ []))) (make_of (l.Expression elabel.Parenthesized) (1 ∷ 2 ∷ 1 ∷ []) (x ∷ y ∷ z ∷ []))
parenthesized_placed n m rebuild i g j = (parenthesized g.0, g.1, refl, parenthesized_back n m rebuild g.0 i g.3 j)

no_number_before : (e : Exp) → ends_in_number e ≡ false → (is_numeric e || not (ends_in_number e)) ≡ true
no_number_before e h = ap (λ z. is_numeric e || not z) h ∙ or_true (is_numeric e)
  where
    or_true : (b : Bool) → (b || true) ≡ true
    or_true true = refl
    or_true false = refl

pub component_placed : (n m : ℕ) → Rebuild n (phrase m ∷ token (fixed_class f.Period) ∷ token 77 ∷ []) (l.Expression elabel.Component) (2 ∷ 1 ∷ 2 ∷ []) → {a b c : List SpannedTemplateToken} {x y z : Phrase Part}
    → Placed m a x → OneToken (fixed_class f.Period) b y → OneToken 77 c z → Placed n (a ++ (b ++ (c ++ []))) (make_of (l.Expression elabel.Component) (2 ∷ 1 ∷ 2 ∷ []) (x ∷ y ∷ z ∷ []))
component_placed n m rebuild g i j =
    (component g.0 (word_of j.one.token j.class).0, both (is_numeric g.0 || not (ends_in_number g.0)) (is_apart g.0) (no_number_before g.0 g.2) g.1, refl, component_back n m rebuild g.0 g.3 i j)

pub indexed_placed : (n m r : ℕ) → Rebuild n (phrase m ∷ token (fixed_class f.BracketLeft) ∷ phrase r ∷ token (fixed_class f.BracketRight) ∷ []) (l.Expression elabel.Indexed) (2 ∷ 1 ∷ 2 ∷ 1 ∷ [])
    → {a b c d : List SpannedTemplateToken} {x y z w : Phrase Part} → Placed m a x → OneToken (fixed_class f.BracketLeft) b y → Expressed r c z → OneToken (fixed_class f.BracketRight) d w
    → Placed n (a ++ (b ++ (c ++ (d ++ [])))) (make_of (l.Expression elabel.Indexed) (2 ∷ 1 ∷ 2 ∷ 1 ∷ []) (x ∷ y ∷ z ∷ w ∷ []))
indexed_placed n m r rebuild g i h j = (indexed g.0 h.0, both (is_apart g.0) (is_apart h.0) g.1 h.1, refl, indexed_back n m r rebuild g.0 h.0 g.3 i h.2 j)

pub phony_alone : (n : ℕ) → Rebuild n (token (fixed_class f.Underscore) ∷ []) (l.Expression elabel.Underscore) (1 ∷ []) → {u : List SpannedTemplateToken} {x : Phrase Part} → OneToken (fixed_class f.Underscore) u x
    → Phony n (u ++ []) (make_of (l.Expression elabel.Underscore) (1 ∷ []) (x ∷ []))
phony_alone n rebuild {u = u} {x = x} k =
    pieces_back n (token (fixed_class f.Underscore) ∷ []) (1 ∷ []) (token (fixed_class f.Underscore)) [] (1 ∷ []) (l.Expression elabel.Underscore) rebuild rebuild v.phony (a_mark (mark_item f.Underscore u x k) end) refl
    (of_no_part (λ qs. Made (l.Expression elabel.Underscore) qs v.phony)
    (made_as (l.Expression elabel.Underscore) [] v.phony (λ z. part.Expression (record { node = exp.TypeOrIdentifier (record { path = None; ident = ident_of (codes "_"); template_args = None }); span = z })) (λ z. refl)
    (λ z. a_phony _ refl (tree_of_named (record { path = None; ident = ident_of (codes "_"); template_args = None }))) (λ z. refl) refl)) (λ b o. tt) (λ b o. refl) (λ b o. tt)

-- ---- statements

-- what a label makes of parts is this statement, without a place
plain_made : (which : PlainLabel) (qs : List Part) (y : Statement) (x : s.Simple) (ts : List TemplateToken) → make.make_plain which qs ≡ part.Plain y → statement_tree y ≡ Some (stm.simple x) → Made (l.Plain which) qs (v.plain x ts)
plain_made which qs y x ts is tree = made_as (l.Plain which) qs (v.plain x ts) (λ z. part.Plain y) (λ z. is) (λ z. a_plain y refl tree) (λ z. refl) refl

-- of one word
word_row : Fixed → List Symbol
word_row g = token (fixed_class g) ∷ []

pub word_stated : (g : Fixed) (which : PlainLabel) (y : Statement) (x : s.Simple) → SimpleTokens x (mark g ∷ []) → make.make_plain which [] ≡ part.Plain y → statement_tree y ≡ Some (stm.simple x)
    → ((b : Before) (o : List Bool) → groups b o (kind (mark g)) ≡ o) → (n : ℕ) → Rebuild n (token (fixed_class g) ∷ []) (l.Plain which) (1 ∷ []) → {u : List SpannedTemplateToken} {z : Phrase Part} → OneToken (fixed_class g) u z
    → PlainStated n (u ++ []) (make_of (l.Plain which) (1 ∷ []) (z ∷ []))
word_stated g which y x has is tree level n rebuild {u = u} {z = z} k = (
  x,
  mark g ∷ [],
  has,
  pieces_back n (token (fixed_class g) ∷ []) (1 ∷ []) (token (fixed_class g)) [] (1 ∷ []) (l.Plain which) rebuild rebuild (v.plain x (mark g ∷ [])) (a_mark (mark_item g u z k) end) refl
      (of_no_part (λ qs. Made (l.Plain which) qs (v.plain x (mark g ∷ []))) (plain_made which [] y x (mark g ∷ []) is tree)) (λ b o. tt) level (λ b o. tt),
)

pub break_tree_is : statement_tree (statement.Break (record { attributes = [] })) ≡ Some (stm.simple (s.breaking []))
break_tree_is = tree_of_break (record { attributes = [] })

pub continue_tree_is : statement_tree (statement.Continue (record { attributes = [] })) ≡ Some (stm.simple (s.continuing []))
continue_tree_is = tree_of_continue (record { attributes = [] })

pub discard_tree_is : statement_tree (statement.Discard (record { attributes = [] })) ≡ Some (stm.simple (s.discarding []))
discard_tree_is = tree_of_discard (record { attributes = [] })

pub call_stated : (n m : ℕ) → Rebuild n (phrase m ∷ []) (l.Plain label.CalledStatement) (2 ∷ []) → {u : List SpannedTemplateToken} {x : Phrase Part} → Called m u x → PlainStated n (u ++ []) (make_of (l.Plain label.CalledStatement) (2 ∷ []) (x ∷ []))
call_stated n m rebuild g =
    let ts : List TemplateToken = exp_tokens (call g.0 g.1) in (
      s.calling [] g.0 g.1,
      ts,
      t.called g.2,
      phrase_back n m (l.Plain label.CalledStatement) rebuild (v.plain (s.calling [] g.0 g.1) ts) g.3 (append-nil ts) (makes g.0 g.1 ts) (λ b o. tt),
    )
  where
    makes : (t : Typ) (xs : Exps) (ts : List TemplateToken) (q : Part) → Stands q (v.call t xs) → Made (l.Plain label.CalledStatement) (q ∷ []) (v.plain (s.calling [] t xs) ts)
    makes t xs ts q (a_call y is type arguments) =
        plain_made label.CalledStatement (q ∷ []) (statement.FunctionCall (record { attributes = []; call = y })) (s.calling [] t xs) ts (λ i. make.called_statement (is i ∷ []))
        (tree_of_call (record { attributes = []; call = y }) ∙ (λ i. Some (stm.simple (s.calling [] (type i) (arguments i)))))

-- ---- assignments

abbrev pub assignment_row : AssignmentOperator → ℕ → ℕ → List Symbol
assignment_row o m r = phrase m ∷ token (fixed_class (assignment_sign o)) ∷ phrase r ∷ []

assignment_level : (o : AssignmentOperator) (b : Before) (p : List Bool) → groups b p (kind (mark (assignment_sign o))) ≡ p
assignment_level Equal b p = refl
assignment_level _ b p = refl

assigned_made : (o : AssignmentOperator) (x e : Exp) (ts : List TemplateToken) (q r : Part) (n : Spanned Expression) → q ≡ part.Expression n → node_tree n ≡ x → Stands r (v.expression e) → Made (l.Plain (label.Assignment o)) (q ∷ r ∷ []) (v.plain (s.assignment [] o x e) ts)
assigned_made o x e ts q r n is left (an_expression k at right) =
    plain_made (label.Assignment o) (q ∷ r ∷ []) (statement.Assignment (record { attributes = []; operator = o; lhs = n; rhs = k })) (s.assignment [] o x e) ts (λ i. make.assignment o (is i ∷ at i ∷ []))
    (tree_of_assignment (record { attributes = []; operator = o; lhs = n; rhs = k }) ∙ (λ i. Some (stm.simple (s.assignment [] o (left i) (right i)))))

pub assigned : (o : AssignmentOperator) (n m r : ℕ) → Rebuild n (assignment_row o m r) (l.Plain (label.Assignment o)) (2 ∷ 1 ∷ 2 ∷ []) → {a b c : List SpannedTemplateToken} {x y z : Phrase Part}
    → Placed m a x → OneToken (fixed_class (assignment_sign o)) b y → Expressed r c z → PlainStated n (a ++ (b ++ (c ++ []))) (make_of (l.Plain (label.Assignment o)) (2 ∷ 1 ∷ 2 ∷ []) (x ∷ y ∷ z ∷ []))
assigned o n m r rebuild {b = b} {y = y} g k h =
    let ts : List TemplateToken = exp_tokens g.0 ++ (mark (assignment_sign o) ∷ exp_tokens h.0) in (
      s.assignment [] o g.0 h.0,
      ts,
      t.assigned o (t.place g.1) h.1,
      pieces_back n (assignment_row o m r) (2 ∷ 1 ∷ 2 ∷ []) (phrase m) (token (fixed_class (assignment_sign o)) ∷ phrase r ∷ []) (2 ∷ 1 ∷ 2 ∷ []) (l.Plain (label.Assignment o)) rebuild rebuild (v.plain (s.assignment [] o g.0 h.0) ts)
          (a_part g.3 (a_mark (mark_item (assignment_sign o) b y k) (a_part h.2 end))) (λ i. exp_tokens g.0 ++ (mark (assignment_sign o) ∷ append-nil (exp_tokens h.0) i)) (makes g.0 h.0 ts) (λ b p. tt) (λ b p. assignment_level o _ p) (λ b p. tt),
    )
  where
    makes : (x e : Exp) (ts : List TemplateToken) (qs : List Part) → StandAll qs (v.expression x ∷ v.expression e ∷ []) → Made (l.Plain (label.Assignment o)) qs (v.plain (s.assignment [] o x e) ts)
    makes x e ts = of_two_parts (λ qs. Made (l.Plain (label.Assignment o)) qs (v.plain (s.assignment [] o x e) ts)) go
      where
        go : (q r : Part) → Stands q (v.expression x) → Stands r (v.expression e) → Made (l.Plain (label.Assignment o)) (q ∷ r ∷ []) (v.plain (s.assignment [] o x e) ts)
        go q r (an_expression n is left) h = assigned_made o x e ts q r n is left h

pub phony_assigned : (n m r : ℕ) → Rebuild n (assignment_row Equal m r) (l.Plain (label.Assignment Equal)) (2 ∷ 1 ∷ 2 ∷ []) → {a b c : List SpannedTemplateToken} {x y z : Phrase Part}
    → Phony m a x → OneToken (fixed_class f.Equal) b y → Expressed r c z → PlainStated n (a ++ (b ++ (c ++ []))) (make_of (l.Plain (label.Assignment Equal)) (2 ∷ 1 ∷ 2 ∷ []) (x ∷ y ∷ z ∷ []))
phony_assigned n m r rebuild {b = b} {y = y} g k h =
    let ts : List TemplateToken = mark f.Underscore ∷ mark f.Equal ∷ exp_tokens h.0 in (
      s.assignment [] Equal (name_exp (codes "_")) h.0,
      ts,
      t.assigned Equal t.phony h.1,
      pieces_back n (assignment_row Equal m r) (2 ∷ 1 ∷ 2 ∷ []) (phrase m) (token (fixed_class f.Equal) ∷ phrase r ∷ []) (2 ∷ 1 ∷ 2 ∷ []) (l.Plain (label.Assignment Equal)) rebuild rebuild (v.plain (s.assignment [] Equal (name_exp (codes "_")) h.0) ts)
          (a_part g (a_mark (mark_item f.Equal b y k) (a_part h.2 end))) (λ i. mark f.Underscore ∷ mark f.Equal ∷ append-nil (exp_tokens h.0) i) (makes h.0 ts) (λ b p. tt) (λ b p. refl) (λ b p. tt),
    )
  where
    makes : (e : Exp) (ts : List TemplateToken) (qs : List Part) → StandAll qs (v.phony ∷ v.expression e ∷ []) → Made (l.Plain (label.Assignment Equal)) qs (v.plain (s.assignment [] Equal (name_exp (codes "_")) e) ts)
    makes e ts = of_two_parts (λ qs. Made (l.Plain (label.Assignment Equal)) qs (v.plain (s.assignment [] Equal (name_exp (codes "_")) e) ts)) go
      where
        go : (q r : Part) → Stands q v.phony → Stands r (v.expression e) → Made (l.Plain (label.Assignment Equal)) (q ∷ r ∷ []) (v.plain (s.assignment [] Equal (name_exp (codes "_")) e) ts)
        go q r (a_phony n is left) h = assigned_made Equal (name_exp (codes "_")) e ts q r n is left h

-- ---- counting

pub incremented : (n m : ℕ) → Rebuild n (phrase m ∷ token (fixed_class f.PlusPlus) ∷ []) (l.Plain label.Increment) (2 ∷ 1 ∷ []) → {a b : List SpannedTemplateToken} {x y : Phrase Part} → Placed m a x → OneToken (fixed_class f.PlusPlus) b y
    → PlainStated n (a ++ (b ++ [])) (make_of (l.Plain label.Increment) (2 ∷ 1 ∷ []) (x ∷ y ∷ []))
incremented n m rebuild {b = b} {y = y} g k =
    let ts : List TemplateToken = exp_tokens g.0 ++ (mark f.PlusPlus ∷ []) in (
      s.increment [] g.0,
      ts,
      t.incremented g.2 g.1,
      pieces_back n (phrase m ∷ token (fixed_class f.PlusPlus) ∷ []) (2 ∷ 1 ∷ []) (phrase m) (token (fixed_class f.PlusPlus) ∷ []) (2 ∷ 1 ∷ []) (l.Plain label.Increment) rebuild rebuild (v.plain (s.increment [] g.0) ts) (a_part g.3 (a_mark (mark_item f.PlusPlus b y k) end)) refl
          (makes g.0 ts) (λ b p. tt) (λ b p. refl) (λ b p. tt),
    )
  where
    makes : (e : Exp) (ts : List TemplateToken) (qs : List Part) → StandAll qs (v.expression e ∷ []) → Made (l.Plain label.Increment) qs (v.plain (s.increment [] e) ts)
    makes e ts = of_one_part (λ qs. Made (l.Plain label.Increment) qs (v.plain (s.increment [] e) ts)) go
      where
        go : (q : Part) → Stands q (v.expression e) → Made (l.Plain label.Increment) (q ∷ []) (v.plain (s.increment [] e) ts)
        go q (an_expression y is same) =
            plain_made label.Increment (q ∷ []) (statement.Increment (record { attributes = []; expression = y })) (s.increment [] e) ts (λ i. make.increment (is i ∷ [])) (tree_of_increment (record { attributes = []; expression = y }) ∙ (λ i. Some (stm.simple (s.increment [] (same i)))))

pub decremented : (n m : ℕ) → Rebuild n (phrase m ∷ token (fixed_class f.MinusMinus) ∷ []) (l.Plain label.Decrement) (2 ∷ 1 ∷ []) → {a b : List SpannedTemplateToken} {x y : Phrase Part} → Placed m a x → OneToken (fixed_class f.MinusMinus) b y
    → PlainStated n (a ++ (b ++ [])) (make_of (l.Plain label.Decrement) (2 ∷ 1 ∷ []) (x ∷ y ∷ []))
decremented n m rebuild {b = b} {y = y} g k =
    let ts : List TemplateToken = exp_tokens g.0 ++ (mark f.MinusMinus ∷ []) in (
      s.decrement [] g.0,
      ts,
      t.decremented g.2 g.1,
      pieces_back n (phrase m ∷ token (fixed_class f.MinusMinus) ∷ []) (2 ∷ 1 ∷ []) (phrase m) (token (fixed_class f.MinusMinus) ∷ []) (2 ∷ 1 ∷ []) (l.Plain label.Decrement) rebuild rebuild (v.plain (s.decrement [] g.0) ts) (a_part g.3 (a_mark (mark_item f.MinusMinus b y k) end)) refl
          (makes g.0 ts) (λ b p. tt) (λ b p. refl) (λ b p. tt),
    )
  where
    makes : (e : Exp) (ts : List TemplateToken) (qs : List Part) → StandAll qs (v.expression e ∷ []) → Made (l.Plain label.Decrement) qs (v.plain (s.decrement [] e) ts)
    makes e ts = of_one_part (λ qs. Made (l.Plain label.Decrement) qs (v.plain (s.decrement [] e) ts)) go
      where
        go : (q : Part) → Stands q (v.expression e) → Made (l.Plain label.Decrement) (q ∷ []) (v.plain (s.decrement [] e) ts)
        go q (an_expression y is same) =
            plain_made label.Decrement (q ∷ []) (statement.Decrement (record { attributes = []; expression = y })) (s.decrement [] e) ts (λ i. make.decrement (is i ∷ [])) (tree_of_decrement (record { attributes = []; expression = y }) ∙ (λ i. Some (stm.simple (s.decrement [] (same i)))))

-- ---- `return`

abbrev pub value_of_expression : (e : Exp) (p : Part) → Stands p (v.expression e) → Stands p (v.value (Some e))
value_of_expression e p (an_expression n is same) = a_value n is same

returned_makes : (o : Option Exp) (ts : List TemplateToken) (qs : List Part) → StandAll qs (v.value o ∷ []) → Made (l.Plain label.Return) qs (v.plain (s.returning [] o) ts)
returned_makes o ts = of_one_part (λ qs. Made (l.Plain label.Return) qs (v.plain (s.returning [] o) ts)) (go o)
  where
    go : (o : Option Exp) (q : Part) → Stands q (v.value o) → Made (l.Plain label.Return) (q ∷ []) (v.plain (s.returning [] o) ts)
    go _ q (a_value {e = e} n is same) =
        plain_made label.Return (q ∷ []) (statement.Return (record { attributes = []; expression = Some n })) (s.returning [] (Some e)) ts (λ i. make.return_value (is i ∷ [])) (tree_of_return (record { attributes = []; expression = Some n }) ∙ (λ i. Some (stm.simple (s.returning [] (Some (same i))))))
    go _ q (no_value is) = plain_made label.Return (q ∷ []) (statement.Return (record { attributes = []; expression = None })) (s.returning [] None) ts (λ i. make.return_value (is i ∷ [])) (tree_of_return (record { attributes = []; expression = None }))

pub return_alone : (n : ℕ) → Rebuild n (token (fixed_class f.Return) ∷ []) (l.Plain label.Return) (1 ∷ 0 ∷ []) → {u : List SpannedTemplateToken} {x : Phrase Part} → OneToken (fixed_class f.Return) u x → PlainStated n (u ++ []) (make_of (l.Plain label.Return) (1 ∷ 0 ∷ []) (x ∷ []))
return_alone n rebuild {u = u} {x = x} k = (
  s.returning [] None,
  mark f.Return ∷ [],
  t.returns refl,
  pieces_back n (token (fixed_class f.Return) ∷ []) (1 ∷ 0 ∷ []) (token (fixed_class f.Return)) [] (1 ∷ 0 ∷ []) (l.Plain label.Return) rebuild rebuild (v.plain (s.returning [] None) (mark f.Return ∷ [])) (a_mark (mark_item f.Return u x k) (no_part (v.value None) (no_value refl) end)) refl
      (returned_makes None (mark f.Return ∷ [])) (λ b o. tt) (λ b o. refl) (λ b o. tt),
)

pub return_with : (n m : ℕ) → Rebuild n (token (fixed_class f.Return) ∷ phrase m ∷ []) (l.Plain label.Return) (1 ∷ 2 ∷ []) → {a b : List SpannedTemplateToken} {x y : Phrase Part} → OneToken (fixed_class f.Return) a x → Expressed m b y
    → PlainStated n (a ++ (b ++ [])) (make_of (l.Plain label.Return) (1 ∷ 2 ∷ []) (x ∷ y ∷ []))
return_with n m rebuild {a = a} {x = x} k h =
    let ts : List TemplateToken = mark f.Return ∷ exp_tokens h.0 in (
      s.returning [] (Some h.0),
      ts,
      t.returns h.1,
      pieces_back n (token (fixed_class f.Return) ∷ phrase m ∷ []) (1 ∷ 2 ∷ []) (token (fixed_class f.Return)) (phrase m ∷ []) (1 ∷ 2 ∷ []) (l.Plain label.Return) rebuild rebuild (v.plain (s.returning [] (Some h.0)) ts)
          (a_mark (mark_item f.Return a x k) (a_part_as (v.value (Some h.0)) (value_of_expression h.0) h.2 end)) (ap (λ z. mark f.Return ∷ z) (append-nil (exp_tokens h.0))) (returned_makes (Some h.0) ts) (λ b o. tt) (λ b o. refl) (λ b o. tt),
    )

-- ---- declared values and assertions as statements

pub local_stated : (n m : ℕ) → Rebuild n (phrase m ∷ []) (l.Plain label.Local) (2 ∷ []) → {u : List SpannedTemplateToken} {x : Phrase Part} → ValueDeclared m u x → PlainStated n (u ++ []) (make_of (l.Plain label.Local) (2 ∷ []) (x ∷ []))
local_stated n m rebuild g =
    let ts : List TemplateToken = declared_tokens g.0 g.1 g.2 g.3 in (
      s.declaring [] g.0 g.1 g.2 g.3,
      ts,
      t.declared g.0 g.1 g.4 g.5,
      phrase_back n m (l.Plain label.Local) rebuild (v.plain (s.declaring [] g.0 g.1 g.2 g.3) ts) g.6 (append-nil ts) (makes g.0 g.1 g.2 g.3 ts) (λ b o. tt),
    )
  where
    makes : (k : DeclarationKind) (y : List ℕ) (t : Option Typ) (e : Option Exp) (ts : List TemplateToken) (q : Part) → Stands q (v.declared k y t e) → Made (l.Plain label.Local) (q ∷ []) (v.plain (s.declaring [] k y t e) ts)
    makes k y t e ts q (a_declared d is none which name type value) =
        plain_made label.Local (q ∷ []) (statement.Declaration d) (s.declaring [] k y t e) ts (λ i. make.local (is i ∷ []))
        (tree_of_value d ∙ (λ i. Some (stm.simple (s.declaring (attributes_tree (none i)) (which i) (name i) (type i) (value i)))))

pub assertion_stated : (n m : ℕ) → Rebuild n (phrase m ∷ []) (l.Plain label.Asserted) (2 ∷ []) → {u : List SpannedTemplateToken} {x : Phrase Part} → Asserted m u x → PlainStated n (u ++ []) (make_of (l.Plain label.Asserted) (2 ∷ []) (x ∷ []))
assertion_stated n m rebuild g =
    let ts : List TemplateToken = asserted_tokens g.0 in (
      s.asserting [] g.0,
      ts,
      t.asserted g.1,
      phrase_back n m (l.Plain label.Asserted) rebuild (v.plain (s.asserting [] g.0) ts) g.2 (append-nil ts) (makes g.0 ts) (λ b o. tt),
    )
  where
    makes : (e : Exp) (ts : List TemplateToken) (q : Part) → Stands q (v.asserted e) → Made (l.Plain label.Asserted) (q ∷ []) (v.plain (s.asserting [] e) ts)
    makes e ts q (an_asserted d is none same) =
        plain_made label.Asserted (q ∷ []) (statement.ConstAssert d) (s.asserting [] e) ts (λ i. make.asserted (is i ∷ [])) (tree_of_assertion d ∙ (λ i. Some (stm.simple (s.asserting (attributes_tree (none i)) (same i)))))

-- ---- passed on, and in a header

pub pass_stated : (n m : ℕ) → Rebuild n (phrase m ∷ []) l.Pass (2 ∷ []) → {u : List SpannedTemplateToken} {x : Phrase Part} → PlainStated m u x → PlainStated n (u ++ []) (make_of l.Pass (2 ∷ []) (x ∷ []))
pass_stated n m rebuild g = (g.0, g.1, g.2, pass_back n m (v.plain g.0 g.1) rebuild g.3)

pub pass_declared : (n m : ℕ) → Rebuild n (phrase m ∷ []) l.Pass (2 ∷ []) → {u : List SpannedTemplateToken} {x : Phrase Part} → ValueDeclared m u x → ValueDeclared n (u ++ []) (make_of l.Pass (2 ∷ []) (x ∷ []))
pass_declared n m rebuild g = (g.0, g.1, g.2, g.3, g.4, g.5, pass_back n m (v.declared g.0 g.1 g.2 g.3) rebuild g.6)

pub headed : (n m : ℕ) → Rebuild n (phrase m ∷ []) (l.Statement slabel.Header) (2 ∷ []) → {u : List SpannedTemplateToken} {x : Phrase Part} → PlainStated m u x → Headed n (u ++ []) (make_of (l.Statement slabel.Header) (2 ∷ []) (x ∷ []))
headed n m rebuild g = (
  g.0,
  g.1,
  g.2,
  phrase_back n m (l.Statement slabel.Header) rebuild (v.header (Some g.0) g.1) g.3 (append-nil g.1) (makes g.0 g.1) (λ b o. tt),
)
  where
    makes : (x : s.Simple) (ts : List TemplateToken) (q : Part) → Stands q (v.plain x ts) → Made (l.Statement slabel.Header) (q ∷ []) (v.header (Some x) ts)
    makes x ts q (a_plain y is tree) =
        made_as (l.Statement slabel.Header) (q ∷ []) (v.header (Some x) ts) (λ z. smake.statement_at z y) (λ z i. smake.placed z (is i ∷ [])) (λ z. a_header _ refl tree) (λ z. refl) refl
