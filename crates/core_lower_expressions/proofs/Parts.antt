-- Lowering, as code does it: first the value, then the parts.
use Rattle.std.proofs.Common.{◌≡◌, refl, sym, ap, ◌∙◌, List, [], ◌∷◌, ◌++◌, map, None, Bool, true, false, Ok, Err, pos}
use Rattle.std.specs.Prelude.{codes, if◌then◌else◌}
use Rattle.wgsl_path.specs.declared.span.Spanned.{Spanned}
use Rattle.wgsl_path.specs.declared.ident.Ident.{Ident}
use Rattle.wgsl_words.specs.declared.operators.UnaryOperator.TheVariants.{Negation}
use Rattle.wgsl_words.specs.declared.operators.BinaryOperator.TheVariants.{Subtraction, Equality}
use Rattle.core_syntax.specs.declared.expression.LiteralExpression.TheVariants.{AbstractInt}
use Rattle.core_syntax.specs.declared.expression.ParenthesizedExpressionOf.{ParenthesizedExpressionOf}
use Rattle.core_syntax.specs.declared.expression.UnaryExpressionOf.{UnaryExpressionOf}
use Rattle.core_syntax.specs.declared.expression.BinaryExpressionOf.{BinaryExpressionOf}
use Rattle.core_syntax.specs.declared.expression.Expression.{Expression}
use Rattle.core_syntax.specs.declared.expression.Expression.TheVariants.{Parenthesized, Unary, Binary, FunctionCall}
use Rattle.core_syntax.specs.Tree.{Exp, exps, literal, parenthesized, unary, binary, call, named, nil, cons, simple}
use Rattle.core_syntax.specs.View.{tree, node_tree, type_tree}
use Rattle.core_syntax.specs.declared.expression.FunctionCallOf.{FunctionCallOf}
use Rattle.core_syntax.specs.declared.expression.TypeExpressionOf.{TypeExpressionOf}
use Rattle.core_syntax.proofs.Trees.{tree_of_parenthesized, tree_of_unary, tree_of_binary, tree_of_call}
use Rattle.wgsl_shader_type.specs.declared.literal.LiteralInstance.{LiteralInstance}
use Rattle.core_meaning.specs.declared.fault.Fault.{Fault}
use Rattle.core_meaning.specs.declared.fault.Fault.TheVariants.{StepLimit, Operation, Deferred, NegativeAttr, Name as Named}
use Rattle.core_meaning.specs.Values.{Checked, and_then}
use Rattle.core_meaning.specs.Outcome.{Outcome, Done, Failed, Deep}
use Rattle.core_meaning.specs.Written.{least_signed, least_abstract, equals_zero}
use Rattle.core_meaning.specs.Meaning.{value}
use Rattle.core_meaning.specs.ConstStage.{Scope, stage}
use Rattle.core_lower_expressions.specs.Computed.{lacks_value, unless_fault, unless_const, lowered, parts, const_value, written_or}

unless_fault_is : (f : Fault) (p : Checked Exp) → unless_fault f p ≡ and_then (unless_fault f (Ok None)) (written_or p)
unless_fault_is StepLimit p = refl
unless_fault_is (Operation e) p = refl
unless_fault_is (Deferred t) p = refl
unless_fault_is (NegativeAttr z) p = refl
unless_fault_is (Named f x) p = by (lacks_value f)
  where
    by : (b : Bool) → (if b then p else Err (Named f x)) ≡ and_then (if b then Ok None else Err (Named f x)) (written_or p)
    by true = refl
    by false = refl

unless_const_is : (o : Outcome LiteralInstance) (p : Checked Exp) → unless_const o p ≡ and_then (const_value o) (written_or p)
unless_const_is (Done v n) p = refl
unless_const_is (Failed f) p = unless_fault_is f p
unless_const_is Deep p = refl

pub lowered_is : (s : Scope) (e : Exp) → lowered s e ≡ and_then (const_value (value (stage s) [] e)) (written_or (parts s e))
lowered_is s (literal l) = unless_const_is (value (stage s) [] (literal l)) (parts s (literal l))
lowered_is s (parenthesized e) = unless_const_is (value (stage s) [] (parenthesized e)) (parts s (parenthesized e))
lowered_is s (unary o e) = unless_const_is (value (stage s) [] (unary o e)) (parts s (unary o e))
lowered_is s (binary o a b) = unless_const_is (value (stage s) [] (binary o a b)) (parts s (binary o a b))
lowered_is s (call f es) = unless_const_is (value (stage s) [] (call f es)) (parts s (call f es))
lowered_is s (named x) = unless_const_is (value (stage s) [] (named x)) (parts s (named x))

-- ---- trees of code

pub parts_parenthesized : (s : Scope) (x : ParenthesizedExpressionOf Expression) (d : Spanned Expression) → lowered s (node_tree x.expression) ≡ Ok (node_tree d) →
    parts s (tree (Parenthesized x)) ≡ Ok (tree (Parenthesized (record { expression = d })))
parts_parenthesized s x d h =
    ap (parts s) (tree_of_parenthesized x) ∙ ap (λ o. and_then o (λ e. Ok (parenthesized e))) h ∙ ap Ok (sym (tree_of_parenthesized _))

pub parts_unary : (s : Scope) (x : UnaryExpressionOf Expression) (d : Spanned Expression) → lowered s (node_tree x.operand) ≡ Ok (node_tree d) →
    parts s (tree (Unary x)) ≡ Ok (tree (Unary (record { operator = x.operator; operand = d })))
parts_unary s x d h =
    ap (parts s) (tree_of_unary x) ∙ ap (λ o. and_then o (λ e. Ok (unary x.operator e))) h ∙ ap Ok (sym (tree_of_unary _))

pub parts_binary : (s : Scope) (x : BinaryExpressionOf Expression) (c d : Spanned Expression) → lowered s (node_tree x.left) ≡ Ok (node_tree c) → lowered s (node_tree x.right) ≡ Ok (node_tree d) →
    parts s (tree (Binary x)) ≡ Ok (tree (Binary (record { operator = x.operator; left = c; right = d })))
parts_binary s x c d h i =
    ap (parts s) (tree_of_binary x)
    ∙ ap (λ o. and_then o (λ e. and_then (lowered s (node_tree x.right)) (λ f. Ok (binary x.operator e f)))) h
    ∙ ap (λ o. and_then o (λ f. Ok (binary x.operator (node_tree c) f))) i
    ∙ ap Ok (sym (tree_of_binary _))

pub constructor_is : (n : Spanned Expression) (x : FunctionCallOf Expression) (t : TypeExpressionOf Expression) (none : List (Spanned Expression)) (copy node : Spanned Expression) →
    n.node ≡ FunctionCall x → x.ty ≡ t → none ≡ [] → x.arguments ≡ none ++ copy ∷ [] → copy ≡ node → node_tree n ≡ call (type_tree t) (cons (node_tree node) nil)
constructor_is n x t none copy node node_is type_is none_is list_is copy_is =
    ap tree node_is ∙ tree_of_call x
    ∙ ap (λ y. call (type_tree y) (exps (map node_tree x.arguments))) type_is
    ∙ ap (λ l. call (type_tree t) (exps (map node_tree l))) (list_is ∙ (λ i. none_is i ++ copy_is i ∷ []))
