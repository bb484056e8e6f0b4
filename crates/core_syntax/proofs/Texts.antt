-- The text of each kind of expression, from its parts.
use Rattle.std.proofs.Common.{◌≡◌, refl, sym, ap, ℕ, ◌+◌, List, [], ◌∷◌, ◌++◌, map, codes, Option, Some, None}
use Rattle.std.specs.Option.{option_map}
use Rattle.std.proofs.lemmas.List.{append-nil}
use Rattle.std.proofs.lemmas.List.Folds.{flat_map-map}
use Rattle.std.specs.List.{flat_map}
use Rattle.core_syntax.specs.declared.expression.LiteralExpression.{LiteralExpression}
use Rattle.core_syntax.specs.declared.expression.ParenthesizedExpressionOf.{ParenthesizedExpressionOf}
use Rattle.core_syntax.specs.declared.expression.UnaryExpressionOf.{UnaryExpressionOf}
use Rattle.core_syntax.specs.declared.expression.BinaryExpressionOf.{BinaryExpressionOf}
use Rattle.core_syntax.specs.declared.expression.FunctionCallOf.{FunctionCallOf}
use Rattle.core_syntax.specs.declared.expression.TypeExpressionOf.{TypeExpressionOf}
use Rattle.core_syntax.specs.declared.expression.TemplateArgOf.{TemplateArgOf}
use Rattle.core_syntax.specs.declared.expression.Expression.{Expression}
use Rattle.core_syntax.specs.declared.expression.Expression.TheVariants.{Literal, Parenthesized, Unary, Binary, FunctionCall, TypeOrIdentifier}
use Rattle.wgsl_path.specs.declared.span.Spanned.{Spanned}
use Rattle.wgsl_path.specs.declared.path.ModulePath.{ModulePath}
use Rattle.core_syntax.specs.declared.declaration.Attribute.{Attribute}
use Rattle.core_syntax.specs.declared.declaration.FormalParameter.{FormalParameter}
use Rattle.core_syntax.specs.declared.statement.Statement.{Statement}
use Rattle.core_syntax.specs.declared.import.ImportStatement.{ImportStatement}
use Rattle.core_syntax.specs.declared.import.ImportContent.{ImportContent}
use Rattle.core_syntax.specs.declared.import.ImportContent.TheVariants.{Item}
use Rattle.core_syntax.specs.declared.unit.TranslationUnit.{TranslationUnit}
use Rattle.core_syntax.specs.Tree.{Exp, parenthesized, unary, binary, exps}
use Rattle.core_syntax.specs.View.{typed, call_layer, tree, node_tree, type_tree, attribute_tree, attributes_tree, statement_tree, parameter_tree, declaration_tree, import_tree, unit_tree}
use Rattle.core_syntax.specs.Print.{literal_text, commas, exp_text, exps_text, more_text, typ_text, brackets_text, qualifier_text, attr_text, attrs_text, indent, stm_text, braces_text, param_text, decl_text, content_text, imp_text, unit_text}
use Rattle.core_syntax.proofs.Trees.{tree_of_literal, tree_of_parenthesized, tree_of_unary, tree_of_binary, tree_of_call, tree_of_named}

pub text_of_literal : (l : LiteralExpression) → exp_text (tree (Literal l)) ≡ literal_text l
text_of_literal l = ap exp_text (tree_of_literal l)

pub text_of_parenthesized : (x : ParenthesizedExpressionOf Expression) → exp_text (tree (Parenthesized x)) ≡ exp_text (parenthesized (node_tree x.expression))
text_of_parenthesized x = ap exp_text (tree_of_parenthesized x)

pub text_of_unary : (x : UnaryExpressionOf Expression) → exp_text (tree (Unary x)) ≡ exp_text (unary x.operator (node_tree x.operand))
text_of_unary x = ap exp_text (tree_of_unary x)

pub text_of_binary : (x : BinaryExpressionOf Expression) → exp_text (tree (Binary x)) ≡ exp_text (binary x.operator (node_tree x.left) (node_tree x.right))
text_of_binary x = ap exp_text (tree_of_binary x)

pub text_of_call : (x : FunctionCallOf Expression) → exp_text (tree (FunctionCall x)) ≡ exp_text (call_layer tree x)
text_of_call x = ap exp_text (tree_of_call x)

pub text_of_named : (t : TypeExpressionOf Expression) → exp_text (tree (TypeOrIdentifier t)) ≡ typ_text (type_tree t)
text_of_named t = ap exp_text (tree_of_named t)

more_text_flat : {A : Type 0} (f : A → Exp) (xs : List A) → more_text (exps (map f xs)) ≡ flat_map (λ y. codes ", " ++ exp_text (f y)) xs
more_text_flat f [] = refl
more_text_flat f (x ∷ xs) = ap (λ t. (codes ", " ++ exp_text (f x)) ++ t) (more_text_flat f xs)

pub exps_text_commas : {A : Type 0} (f : A → Exp) (xs : List A) → exps_text (exps (map f xs)) ≡ commas (λ y. exp_text (f y)) xs
exps_text_commas f [] = refl
exps_text_commas f (x ∷ xs) = ap (λ t. exp_text (f x) ++ t) (more_text_flat f xs)

pub attrs_text_flat : (ns : List (Spanned Attribute)) → attrs_text (attributes_tree ns) ≡ flat_map (λ n. attr_text (attribute_tree n.node) ++ codes " ") ns
attrs_text_flat ns = flat_map-map (λ a. attr_text a ++ codes " ") (λ n. attribute_tree n.node) ns

pub params_text_commas : (ps : List FormalParameter) → commas param_text (map parameter_tree ps) ≡ commas (λ p. param_text (parameter_tree p)) ps
params_text_commas [] = refl
params_text_commas (p ∷ ps) = ap (λ t. param_text (parameter_tree p) ++ t) (flat_map-map (λ q. codes ", " ++ param_text q) parameter_tree ps)

pub imp_text_content : (attributes : List (Spanned Attribute)) (path : Option ModulePath) (content : ImportContent)
    → let i : ImportStatement = record { attributes = attributes; path = path; content = content } in
    imp_text (import_tree i) ≡ attrs_text (attributes_tree attributes) ++ codes "import " ++ qualifier_text path ++ content_text content ++ codes ";\n"
imp_text_content attributes path (Item x) = refl

pub unit_text_flat : (u : TranslationUnit)
    → unit_text (unit_tree u) ≡ flat_map (λ i. imp_text (import_tree i)) u.imports ++ flat_map (λ n. decl_text (declaration_tree n.node)) u.global_declarations
unit_text_flat u = λ k. flat_map-map imp_text import_tree u.imports k ++ flat_map-map decl_text (λ n. declaration_tree n.node) u.global_declarations k

pub braces_lines : (level : ℕ) (ns : List (Spanned Statement)) → (ns ≡ [] → ⊥)
    → braces_text level (map (λ n. statement_tree n.node) ns) ≡ codes "{\n" ++ flat_map (λ n. stm_text (level + 1) (statement_tree n.node)) ns ++ indent level ++ codes "}"
braces_lines level [] some = absurd (some refl)
braces_lines level (n ∷ ns) some = ap (λ t. codes "{\n" ++ t ++ indent level ++ codes "}") (flat_map-map (stm_text (level + 1)) (λ n. statement_tree n.node) (n ∷ ns))

pub typed_text : (t : TypeExpressionOf Expression)
    → typ_text (type_tree t) ≡ qualifier_text t.path ++ t.ident.name ++ brackets_text (option_map (λ args. exps (map (λ a. node_tree a.expression) args)) t.template_args)
typed_text t = by_arguments t.template_args
  where
    by_arguments : (o : Option (List (TemplateArgOf Expression)))
        → typ_text (typed tree t.path t.ident.name o) ≡ qualifier_text t.path ++ t.ident.name ++ brackets_text (option_map (λ args. exps (map (λ a. node_tree a.expression) args)) o)
    by_arguments None = sym (append-nil (qualifier_text t.path ++ t.ident.name))
    by_arguments (Some args) = refl
