-- The expression without places that a code tree stands for.
use Rattle.std.specs.Prelude.{ℕ, List, map, Option, Some, None}
use Rattle.wgsl_path.specs.declared.span.Spanned.{Spanned}
use Rattle.wgsl_path.specs.declared.path.ModulePath.{ModulePath}
use Rattle.wgsl_expressions.specs.declared.expression.Expression.{Expression, fold-Expression}
use Rattle.wgsl_expressions.specs.declared.expression.Expression.TheOpen.{Expression-F}
use Rattle.wgsl_expressions.specs.declared.expression.FunctionCallOf.{FunctionCallOf}
use Rattle.wgsl_expressions.specs.declared.expression.TypeExpressionOf.{TypeExpressionOf}
use Rattle.wgsl_expressions.specs.declared.expression.TemplateArgOf.{TemplateArgOf}
use Rattle.wgsl_expressions.specs.Tree.{Exp, literal, parenthesized, component, indexed, unary, binary, call, named, exps, Typ, simple, templated}

abbrev pub typed : {A : Type 0} → (A → Exp) → Option ModulePath → List ℕ → Option (List (TemplateArgOf A)) → Typ
typed f path name None = simple path name
typed f path name (Some arguments) = templated path name (exps (map (λ a. f a.expression.node) arguments))

abbrev pub type_layer : {A : Type 0} → (A → Exp) → TypeExpressionOf A → Typ
type_layer f t = typed f t.path t.ident.name t.template_args

abbrev pub call_layer : {A : Type 0} → (A → Exp) → FunctionCallOf A → Exp
call_layer f x = call (type_layer f x.ty) (exps (map (λ a. f a.node) x.arguments))

-- a node, from what its parts stand for
abbrev pub layer : {A : Type 0} → (A → Exp) → Expression-F A → Exp
layer f (Expression-F.Literal l) = literal l
layer f (Expression-F.Parenthesized x) = parenthesized (f x.expression.node)
layer f (Expression-F.NamedComponent x) = component (f x.base.node) x.component.name
layer f (Expression-F.Indexing x) = indexed (f x.base.node) (f x.index.node)
layer f (Expression-F.Unary x) = unary x.operator (f x.operand.node)
layer f (Expression-F.Binary x) = binary x.operator (f x.left.node) (f x.right.node)
layer f (Expression-F.FunctionCall x) = call_layer f x
layer f (Expression-F.TypeOrIdentifier t) = named (type_layer f t)

abbrev pub tree : Expression → Exp
tree = fold-Expression Exp (layer (λ x. x))

abbrev pub node_tree : Spanned Expression → Exp
node_tree n = tree n.node

abbrev pub type_tree : TypeExpressionOf Expression → Typ
type_tree = type_layer tree
