-- Renamed copies of each kind of expression, from its parts.
use Rattle.std.proofs.Common.{◌≡◌, refl, sym, ap, ◌∙◌, ℕ, List, [], ◌∷◌, ◌++◌, map, Bool, true, false, Option, Some, None}
use Rattle.std.specs.Prelude.{if◌then◌else◌}
use Rattle.std.specs.Option.{option_map}
use Rattle.std.proofs.lemmas.Simd.{map-map}
use Rattle.wgsl_path.specs.declared.span.Spanned.{Spanned}
use Rattle.wgsl_path.specs.declared.path.ModulePath.{ModulePath}
use Rattle.core_syntax.specs.declared.expression.LiteralExpression.{LiteralExpression}
use Rattle.core_syntax.specs.declared.expression.ParenthesizedExpressionOf.{ParenthesizedExpressionOf}
use Rattle.core_syntax.specs.declared.expression.UnaryExpressionOf.{UnaryExpressionOf}
use Rattle.core_syntax.specs.declared.expression.BinaryExpressionOf.{BinaryExpressionOf}
use Rattle.core_syntax.specs.declared.expression.FunctionCallOf.{FunctionCallOf}
use Rattle.core_syntax.specs.declared.expression.TypeExpressionOf.{TypeExpressionOf}
use Rattle.core_syntax.specs.declared.expression.TemplateArgOf.{TemplateArgOf}
use Rattle.core_syntax.specs.declared.expression.Expression.{Expression}
use Rattle.core_syntax.specs.declared.expression.Expression.TheVariants.{Literal, Parenthesized, Unary, Binary, FunctionCall, TypeOrIdentifier}
use Rattle.core_syntax.specs.Tree.{Exp, literal, Exps, nil, exps, cons, Typ, simple, Attr, fragment, location, Stm, returning, Block, parenthesized, unary, binary, call, named, templated}
use Rattle.core_syntax.specs.declared.declaration.Attribute.{Attribute}
use Rattle.core_syntax.specs.declared.declaration.FormalParameter.{FormalParameter}
use Rattle.core_syntax.specs.declared.statement.Statement.{Statement}
use Rattle.core_syntax.specs.View.{typed, tree, node_tree, type_tree, attribute_tree, attributes_tree, statement_tree, parameter_tree}
use Rattle.core_syntax.proofs.Trees.{tree_of_literal, tree_of_parenthesized, tree_of_unary, tree_of_binary, tree_of_call, tree_of_named}
use Rattle.core_link_spec.specs.Occurrences.{Name, is_among}
use Rattle.core_link_spec.specs.Linked.{new_name, renamed, all_renamed, renamed_type, renamed_attribute, renamed_attributes, renamed_statement, renamed_block, renamed_parameter}
use Rattle.core_rename.specs.Renaming.{renamed_at}

map-same : {A B : Type 0} (f g : A → B) → ((x : A) → f x ≡ g x) → (xs : List A) → map f xs ≡ map g xs
map-same f g same [] = refl
map-same f g same (x ∷ xs) = λ k. same x k ∷ map-same f g same xs k

module _ (r : Name → Name) where
  pub attributes_renamed : (attributes : List (Spanned Attribute))
      → renamed_attributes r [] (attributes_tree attributes) ≡ map (λ n. renamed_attribute r [] (attribute_tree n.node)) attributes
  attributes_renamed attributes = map-map (renamed_attribute r []) (λ (n : Spanned Attribute). attribute_tree n.node) attributes

  pub statements_renamed : (statements : List (Spanned Statement))
      → map (renamed_statement r []) (map (λ n. statement_tree n.node) statements) ≡ map (λ n. renamed_statement r [] (statement_tree n.node)) statements
  statements_renamed statements = map-map (renamed_statement r []) (λ (n : Spanned Statement). statement_tree n.node) statements

  pub parameters_renamed : (parameters : List FormalParameter)
      → map (renamed_parameter r) (map parameter_tree parameters) ≡ map (λ p. renamed_parameter r (parameter_tree p)) parameters
  parameters_renamed parameters = map-map (renamed_parameter r) parameter_tree parameters

  pub all_renamed_exps : {A : Type 0} (f : A → Exp) (xs : List A) → all_renamed r [] (exps (map f xs)) ≡ exps (map (λ x. renamed r [] (f x)) xs)
  all_renamed_exps f [] = refl
  all_renamed_exps f (x ∷ xs) = ap (λ t. cons (renamed r [] (f x)) t) (all_renamed_exps f xs)

  pub renames_literal : (l : LiteralExpression) → tree (Literal l) ≡ renamed r [] (tree (Literal l))
  renames_literal l = tree_of_literal l ∙ sym (ap (renamed r []) (tree_of_literal l))

  pub renames_parenthesized : (x y : ParenthesizedExpressionOf Expression) → node_tree y.expression ≡ renamed r [] (node_tree x.expression)
      → tree (Parenthesized y) ≡ renamed r [] (tree (Parenthesized x))
  renames_parenthesized x y same = tree_of_parenthesized y ∙ ap parenthesized same ∙ sym (ap (renamed r []) (tree_of_parenthesized x))

  pub renames_unary : (x y : UnaryExpressionOf Expression) → y.operator ≡ x.operator → node_tree y.operand ≡ renamed r [] (node_tree x.operand)
      → tree (Unary y) ≡ renamed r [] (tree (Unary x))
  renames_unary x y o same = tree_of_unary y ∙ (λ k. unary (o k) (same k)) ∙ sym (ap (renamed r []) (tree_of_unary x))

  pub renames_binary : (x y : BinaryExpressionOf Expression) → y.operator ≡ x.operator → node_tree y.left ≡ renamed r [] (node_tree x.left)
      → node_tree y.right ≡ renamed r [] (node_tree x.right) → tree (Binary y) ≡ renamed r [] (tree (Binary x))
  renames_binary x y o left right = tree_of_binary y ∙ (λ k. binary (o k) (left k) (right k)) ∙ sym (ap (renamed r []) (tree_of_binary x))

  pub renames_call : (x y : FunctionCallOf Expression) → type_tree y.ty ≡ renamed_type r [] (type_tree x.ty)
      → map node_tree y.arguments ≡ map (λ n. renamed r [] (node_tree n)) x.arguments → tree (FunctionCall y) ≡ renamed r [] (tree (FunctionCall x))
  renames_call x y ty arguments = tree_of_call y ∙ (λ k. call (ty k) (exps (arguments k)))
      ∙ sym (ap (renamed r []) (tree_of_call x) ∙ ap (λ t. call (renamed_type r [] (type_tree x.ty)) t) (all_renamed_exps node_tree x.arguments))

  pub renames_named : (x y : TypeExpressionOf Expression) → type_tree y ≡ renamed_type r [] (type_tree x) → tree (TypeOrIdentifier y) ≡ renamed r [] (tree (TypeOrIdentifier x))
  renames_named x y same = tree_of_named y ∙ ap named same ∙ sym (ap (renamed r []) (tree_of_named x))

  renames_template : (path : Option ModulePath) (name : Name) (old new : List (TemplateArgOf Expression))
      → map (λ a. node_tree a.expression) new ≡ map (λ a. renamed r [] (node_tree a.expression)) old
      → typed tree path (renamed_at r path name) (Some new) ≡ renamed_type r [] (typed tree path name (Some old))
  renames_template None name old new same =
      ap (λ t. templated None (r name) (exps t)) same
      ∙ sym (ap (λ t. templated None (r name) t) (all_renamed_exps (λ (a : TemplateArgOf Expression). node_tree a.expression) old))
  renames_template (Some path) name old new same =
      ap (λ t. templated (Some path) name (exps t)) same
      ∙ sym (ap (λ t. templated (Some path) name t) (all_renamed_exps (λ (a : TemplateArgOf Expression). node_tree a.expression) old))

  renames_simple : (path : Option ModulePath) (name : Name) → simple path (renamed_at r path name) ≡ renamed_type r [] (simple path name)
  renames_simple None name = refl
  renames_simple (Some path) name = refl

  pub renames_typed : (path : Option ModulePath) (name : Name) (old new : Option (List (TemplateArgOf Expression)))
      → option_map (map (λ a. node_tree a.expression)) new ≡ option_map (map (λ a. renamed r [] (node_tree a.expression))) old
      → typed tree path (renamed_at r path name) new ≡ renamed_type r [] (typed tree path name old)
  renames_typed path name None None same = renames_simple path name
  renames_typed path name (Some old) (Some new) same = renames_template path name old new (cc)
  renames_typed path name None (Some new) same = cc
  renames_typed path name (Some old) None same = cc

-- ---- a body, whose locals stay

module _ (new : Name → Name) (locals : List Name) where
  abbrev inside : Name → Name
  inside x = new_name new locals x

  mutual
    expression_inside : (x : Exp) → renamed inside [] x ≡ renamed new locals x
    expression_inside (literal l) = refl
    expression_inside (parenthesized x) = ap parenthesized (expression_inside x)
    expression_inside (unary o x) = ap (unary o) (expression_inside x)
    expression_inside (binary o x y) = λ k. binary o (expression_inside x k) (expression_inside y k)
    expression_inside (call t xs) = λ k. call (type_inside t k) (expressions_inside xs k)
    expression_inside (named t) = ap named (type_inside t)

    expressions_inside : (xs : Exps) → all_renamed inside [] xs ≡ all_renamed new locals xs
    expressions_inside nil = refl
    expressions_inside (cons x xs) = λ k. cons (expression_inside x k) (expressions_inside xs k)

    type_inside : (t : Typ) → renamed_type inside [] t ≡ renamed_type new locals t
    type_inside (simple None x) = refl
    type_inside (simple (Some path) x) = refl
    type_inside (templated None x arguments) = ap (λ t. templated None (inside x) t) (expressions_inside arguments)
    type_inside (templated (Some path) x arguments) = ap (λ t. templated (Some path) x t) (expressions_inside arguments)

  maybe_inside : (o : Option Exp) → option_map (renamed inside []) o ≡ option_map (renamed new locals) o
  maybe_inside None = refl
  maybe_inside (Some x) = ap Some (expression_inside x)

  attribute_inside : (a : Attr) → renamed_attribute inside [] a ≡ renamed_attribute new locals a
  attribute_inside fragment = refl
  attribute_inside (location x) = ap location (expression_inside x)

  attributes_inside : (attributes : List Attr) → renamed_attributes inside [] attributes ≡ renamed_attributes new locals attributes
  attributes_inside attributes = map-same (renamed_attribute inside []) (renamed_attribute new locals) attribute_inside attributes

  statement_inside : (s : Stm) → renamed_statement inside [] s ≡ renamed_statement new locals s
  statement_inside (returning attributes x) = λ k. returning (attributes_inside attributes k) (maybe_inside x k)

  pub block_inside : (b : Block) → renamed_block inside [] b ≡ renamed_block new locals b
  block_inside b = λ k. record {
    attributes = attributes_inside b.attributes k;
    statements = map-same (renamed_statement inside []) (renamed_statement new locals) statement_inside b.statements k;
  }
