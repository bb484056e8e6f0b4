-- What each kind of node is widened to, from its parts.
use Rattle.std.proofs.Common.{◌≡◌, sym, ap, ◌∙◌, subst, List, map, Option, Some, None, Result, Ok, IfOk}
use Rattle.wgsl_path.specs.declared.ident.Ident.{Ident}
use Rattle.wgsl_path.specs.declared.path.ModulePath.{ModulePath}
use Rattle.wgsl_path.specs.declared.span.Spanned.{Spanned}
use Rattle.wgsl_expressions.specs.declared.expression.Expression.{Expression as Whole}
use Rattle.wgsl_expressions.specs.declared.expression.Expression.TheVariants as code
use Rattle.wgsl_expressions.specs.declared.expression.TypeExpressionOf.{TypeExpressionOf as WholeType}
use Rattle.wgsl_expressions.specs.declared.expression.TemplateArgOf.{TemplateArgOf as WholeArgument}
use Rattle.wgsl_expressions.specs.Tree as exp
use Rattle.wgsl_expressions.specs.View as whole
use Rattle.wgsl_expressions.proofs.Trees as whole_trees
use Rattle.core_syntax.specs.declared.expression.Expression.{Expression}
use Rattle.core_syntax.specs.declared.expression.Expression.TheVariants as part
use Rattle.core_syntax.specs.declared.expression.ParenthesizedExpressionOf.{ParenthesizedExpressionOf}
use Rattle.core_syntax.specs.declared.expression.UnaryExpressionOf.{UnaryExpressionOf}
use Rattle.core_syntax.specs.declared.expression.FunctionCallOf.{FunctionCallOf}
use Rattle.core_syntax.specs.declared.expression.TypeExpressionOf.{TypeExpressionOf}
use Rattle.core_syntax.specs.declared.expression.TemplateArgOf.{TemplateArgOf}
use Rattle.core_syntax.specs.Tree.{Exp, exps}
use Rattle.core_syntax.specs.View.{tree, node_tree, type_tree, typed}
use Rattle.core_syntax.proofs.Trees as trees
use Rattle.core_narrowing.specs.Trees.{call_tree}
use Rattle.core_narrowing.specs.Widening.{widen_exp, widen_exps, widen_typ}
use Rattle.core_widening.proofs.Widened.{exps_of, mapped}

pub parenthesized_so : (e : Expression) (x : ParenthesizedExpressionOf Expression) (n : Spanned Whole) → e ≡ part.Parenthesized x → whole.node_tree n ≡ widen_exp (node_tree x.expression)
    → whole.tree (code.Parenthesized (record { expression = n })) ≡ widen_exp (tree e)
parenthesized_so e x n is same =
    whole_trees.tree_of_parenthesized (record { expression = n }) ∙ ap exp.parenthesized same ∙ sym (ap widen_exp (ap tree is ∙ trees.tree_of_parenthesized x))

pub unary_so : (e : Expression) (x : UnaryExpressionOf Expression) (n : Spanned Whole) → e ≡ part.Unary x → whole.node_tree n ≡ widen_exp (node_tree x.operand)
    → whole.tree (code.Unary (record { operator = x.operator; operand = n })) ≡ widen_exp (tree e)
unary_so e x n is same =
    whole_trees.tree_of_unary (record { operator = x.operator; operand = n }) ∙ ap (exp.unary x.operator) same ∙ sym (ap widen_exp (ap tree is ∙ trees.tree_of_unary x))

-- a list of expressions
listed : {A B : Type 0} (f : A → exp.Exp) (g : B → Exp) (ws : List A) (ns : List B) → map f ws ≡ map (λ n. widen_exp (g n)) ns → exp.exps (map f ws) ≡ widen_exps (exps (map g ns))
listed f g ws ns same = ap exp.exps (mapped widen_exp g f ns ws same) ∙ exps_of (map g ns)

pub call_so : {E : Type 0} (x : FunctionCallOf Expression) (ns : List (Spanned Expression)) (ty : WholeType Whole) (ws : List (Spanned Whole)) (r : Result (WholeType Whole) E) (q : Result (List (Spanned Whole)) E)
    → ns ≡ x.arguments → (r ≡ Ok ty) × (q ≡ Ok ws) → IfOk r (λ w. whole.type_tree w ≡ widen_typ (type_tree x.ty)) → IfOk q (λ w. map whole.node_tree w ≡ map (λ n. widen_exp (node_tree n)) ns)
    → whole.call_layer whole.tree (record { ty = ty; arguments = ws }) ≡ widen_exp (call_tree x)
call_so x ns ty ws r q is (r_is, q_is) typed_so arguments_so =
    let front = subst (λ z. IfOk z (λ w. whole.type_tree w ≡ widen_typ (type_tree x.ty))) r_is typed_so in
    let back = subst (λ z. IfOk z (λ w. map whole.node_tree w ≡ map (λ n. widen_exp (node_tree n)) ns)) q_is arguments_so in
    (λ i. exp.call (front i) (listed whole.node_tree node_tree ws ns back i)) ∙ ap (λ z. exp.call (widen_typ (type_tree x.ty)) (widen_exps (exps (map node_tree z)))) is

pub plain_type_so : (t : TypeExpressionOf Expression) (p : Option ModulePath) (i : Ident) → t.template_args ≡ None → p ≡ t.path → i ≡ t.ident
    → whole.type_tree (record { path = p; ident = i; template_args = None }) ≡ widen_typ (type_tree t)
plain_type_so t p i is same_path same_ident =
    (λ k. exp.simple (same_path k) (same_ident k).name) ∙ sym (ap (λ o. widen_typ (typed tree t.path t.ident.name o)) is)

pub type_so : (t : TypeExpressionOf Expression) (p : Option ModulePath) (i : Ident) (xs ys : List (TemplateArgOf Expression)) (ws vs : List (WholeArgument Whole)) → t.template_args ≡ Some xs → ys ≡ xs
    → map (λ a. whole.node_tree a.expression) ws ≡ map (λ a. widen_exp (node_tree a.expression)) ys → vs ≡ ws → p ≡ t.path → i ≡ t.ident
    → whole.type_tree (record { path = p; ident = i; template_args = Some vs }) ≡ widen_typ (type_tree t)
type_so t p i xs ys ws vs is given same made same_path same_ident =
    (λ k. exp.templated (same_path k) (same_ident k).name (exp.exps (map (λ a. whole.node_tree a.expression) (made k))))
    ∙ ap (exp.templated t.path t.ident.name) (listed (λ a. whole.node_tree a.expression) (λ a. node_tree a.expression) ws ys same)
    ∙ ap (λ z. exp.templated t.path t.ident.name (widen_exps (exps (map (λ a. node_tree a.expression) z)))) given
    ∙ sym (ap (λ o. widen_typ (typed tree t.path t.ident.name o)) is)
