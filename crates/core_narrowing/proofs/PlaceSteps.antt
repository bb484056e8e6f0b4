-- The places in each kind of expression that is narrowed, and in lists.
use Rattle.std.proofs.Common.{◌≡◌, sym, ap, ◌∙◌, ℕ, ◌+◌, ◌<◌, ◌≤◌, length, drop, get_or, append_assoc, append-nil, List, [], ◌∷◌, ◌++◌, Option, Some, None}
use Rattle.std.specs.List.{flat_map}
use Rattle.std.specs.Option.{option_map}
use Rattle.std.proofs.lemmas.List.{drop_all}
use Rattle.std.proofs.lemmas.Grind.{flat_map-append}
use Rattle.wgsl_path.specs.declared.ident.Ident.{Ident}
use Rattle.wgsl_path.specs.declared.path.ModulePath.{ModulePath}
use Rattle.wgsl_path.specs.declared.span.Span.{Span}
use Rattle.wgsl_path.specs.declared.span.Spanned.{Spanned}
use Rattle.wgsl_expressions.specs.declared.expression.Expression.{Expression as WholeExpression}
use Rattle.wgsl_expressions.specs.declared.expression.Expression.TheVariants as code
use Rattle.wgsl_expressions.specs.declared.expression.ParenthesizedExpressionOf.{ParenthesizedExpressionOf as WholeParenthesized}
use Rattle.wgsl_expressions.specs.declared.expression.UnaryExpressionOf.{UnaryExpressionOf as WholeUnary}
use Rattle.wgsl_expressions.specs.declared.expression.FunctionCallOf.{FunctionCallOf as WholeCall}
use Rattle.wgsl_expressions.specs.declared.expression.TypeExpressionOf.{TypeExpressionOf as WholeType}
use Rattle.wgsl_expressions.specs.declared.expression.TemplateArgOf.{TemplateArgOf as WholeArgument}
use Rattle.wgsl_words.specs.declared.operators.UnaryOperator.{UnaryOperator}
use Rattle.core_syntax.specs.declared.expression.Expression.{Expression}
use Rattle.core_syntax.specs.declared.expression.Expression.TheVariants as variant
use Rattle.core_syntax.specs.declared.expression.FunctionCallOf.{FunctionCallOf}
use Rattle.core_syntax.specs.declared.expression.TypeExpressionOf.{TypeExpressionOf}
use Rattle.core_syntax.specs.declared.expression.TemplateArgOf.{TemplateArgOf}
use Rattle.core_narrowing.specs.Places as part
use Rattle.core_narrowing.specs.ModulePlaces as places
use Rattle.core_narrowing.proofs.Placed as placed
use Rattle.core_narrowing.proofs.PlacedWhole as whole
use Rattle.core_narrowing.proofs.Steps.{front}

-- ---- expressions

pub parenthesized_at : (e : WholeExpression) (x : WholeParenthesized WholeExpression) (n : Spanned Expression) → e ≡ code.Parenthesized x → part.in_node n ≡ places.in_node x.expression
    → part.in_expression (variant.Parenthesized (record { expression = n })) ≡ places.in_expression e
parenthesized_at e x n is h = placed.in_parenthesized (record { expression = n }) ∙ h ∙ sym (ap places.in_expression is ∙ whole.in_parenthesized x)

pub unary_at : (e : WholeExpression) (x : WholeUnary WholeExpression) (o : UnaryOperator) (n : Spanned Expression) → e ≡ code.Unary x → part.in_node n ≡ places.in_node x.operand
    → part.in_expression (variant.Unary (record { operator = o; operand = n })) ≡ places.in_expression e
unary_at e x o n is h = placed.in_unary (record { operator = o; operand = n }) ∙ h ∙ sym (ap places.in_expression is ∙ whole.in_unary x)

pub call_at : (e : WholeExpression) (x y : WholeCall WholeExpression) (c d : FunctionCallOf Expression) → e ≡ code.FunctionCall x → y ≡ x
    → part.call_layer part.in_expression c ≡ places.call_layer places.in_expression y → d ≡ c → part.in_expression (variant.FunctionCall d) ≡ places.in_expression e
call_at e x y c d is same h made =
    placed.in_call d ∙ ap (part.call_layer part.in_expression) made ∙ h ∙ ap (places.call_layer places.in_expression) same ∙ sym (ap places.in_expression is ∙ whole.in_call x)

pub named_at : (e : WholeExpression) (x : WholeType WholeExpression) (t : TypeExpressionOf Expression) → e ≡ code.TypeOrIdentifier x → part.in_type t ≡ places.in_type x
    → part.in_expression (variant.TypeOrIdentifier t) ≡ places.in_expression e
named_at e x t is h = placed.in_named t ∙ h ∙ sym (ap places.in_expression is ∙ whole.in_named x)

-- ---- types

abbrev of_arguments : Option (List (WholeArgument WholeExpression)) → List Span
of_arguments o = part.in_optional (flat_map (places.in_argument places.in_expression)) o

pub plain_type_at : (t : WholeType WholeExpression) (p : Option ModulePath) (i : Ident) → t.template_args ≡ None
    → part.in_type (record { path = p; ident = i; template_args = None }) ≡ places.in_type t
plain_type_at t p i is = sym (ap of_arguments is)

pub type_at : (t : WholeType WholeExpression) (p : Option ModulePath) (i : Ident) (xs ys : List (WholeArgument WholeExpression)) (ms ns : List (TemplateArgOf Expression))
    → t.template_args ≡ Some xs → ys ≡ xs → flat_map (part.in_argument part.in_expression) ms ≡ flat_map (places.in_argument places.in_expression) ys → ns ≡ ms
    → part.in_type (record { path = p; ident = i; template_args = Some ns }) ≡ places.in_type t
type_at t p i xs ys ms ns is same h made =
    ap (flat_map (part.in_argument part.in_expression)) made ∙ h ∙ ap (flat_map (places.in_argument places.in_expression)) same ∙ sym (ap of_arguments is)

-- ---- lists

module _ {A M : Type 0} (f : A → List Span) (g : M → List Span) where
  -- with nothing more from one that is left out
  pub one_skipped : (ns : List A) (k : ℕ) (n : A) (ms : List M) (total : List Span) → k < length ns → n ≡ get_or ns k n → f n ≡ []
      → flat_map g ms ++ flat_map f (drop k ns) ≡ total → flat_map g ms ++ flat_map f (drop (k + 1) ns) ≡ total
  one_skipped ns k n ms total within is h before =
      ap (λ z. flat_map g ms ++ (z ++ flat_map f (drop (k + 1) ns))) (sym h) ∙ ap (λ z. flat_map g ms ++ flat_map f z) (sym (front ns k n within is)) ∙ before

  pub one_placed : (ns : List A) (k : ℕ) (n : A) (ms new : List M) (m : M) (total : List Span) → k < length ns → n ≡ get_or ns k n → new ≡ ms ++ m ∷ [] → g m ≡ f n
      → flat_map g ms ++ flat_map f (drop k ns) ≡ total → flat_map g new ++ flat_map f (drop (k + 1) ns) ≡ total
  one_placed ns k n ms new m total within is pushed h before =
      let rest : List Span = flat_map f (drop (k + 1) ns) in
      ap (λ z. flat_map g z ++ rest) pushed ∙ ap (λ z. z ++ rest) (flat_map-append g ms (m ∷ [])) ∙ ap (λ z. flat_map g ms ++ z ++ rest) (append-nil (g m))
      ∙ append_assoc (flat_map g ms) (g m) rest ∙ ap (λ z. flat_map g ms ++ (z ++ rest)) h ∙ ap (λ z. flat_map g ms ++ flat_map f z) (sym (front ns k n within is)) ∙ before

  pub all_placed : (ns : List A) (k : ℕ) (ms : List M) (total : List Span) → length ns ≤ k → flat_map g ms ++ flat_map f (drop k ns) ≡ total → flat_map g ms ≡ total
  all_placed ns k ms total e before = sym (append-nil (flat_map g ms)) ∙ sym (ap (λ z. flat_map g ms ++ flat_map f z) (drop_all k ns e)) ∙ before

-- a node that is left out, and one that is not
module _ {A M : Type 0} (f : A → Option (List Span)) (g : M → List Span) where
  pub none_at : (n : Spanned A) (w : A) (r : Option M) → w ≡ n.node → option_map g r ≡ f w → r ≡ None → places.at_some f n ≡ []
  none_at n w r w_is h r_is = ap (λ o. part.in_optional (λ inside. n.span ∷ inside) o) (ap f (sym w_is) ∙ sym h ∙ ap (option_map g) r_is)

  pub some_at : (n : Spanned A) (m : Spanned M) (w : A) (r : Option M) (s : M) → w ≡ n.node → option_map g r ≡ f w → r ≡ Some s → m ≡ record { node = s; span = n.span }
      → part.at g m ≡ places.at_some f n
  some_at n m w r s w_is h r_is made =
      ap (part.at g) made ∙ ap (λ o. part.in_optional (λ inside. n.span ∷ inside) o) (sym (ap (option_map g) r_is) ∙ h ∙ ap f w_is)
