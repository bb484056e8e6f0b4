-- The tree without places that a code tree stands for.
use Rattle.std.specs.Prelude.{ℕ, List, map, Option, Some, None}
use Rattle.std.specs.Option.{option_map}
use Rattle.wgsl_path.specs.declared.span.Spanned.{Spanned}
use Rattle.wgsl_path.specs.declared.path.ModulePath.{ModulePath}
use Rattle.core_syntax.specs.declared.expression.Expression.{Expression, fold-Expression}
use Rattle.core_syntax.specs.declared.expression.Expression.TheOpen.{Expression-F}
use Rattle.core_syntax.specs.declared.expression.FunctionCallOf.{FunctionCallOf}
use Rattle.core_syntax.specs.declared.expression.TypeExpressionOf.{TypeExpressionOf}
use Rattle.core_syntax.specs.declared.expression.TemplateArgOf.{TemplateArgOf}
use Rattle.core_syntax.specs.declared.declaration.Attribute.{Attribute}
use Rattle.core_syntax.specs.declared.declaration.Attribute.TheVariants.{Fragment, Location}
use Rattle.core_syntax.specs.declared.declaration.FormalParameter.{FormalParameter}
use Rattle.core_syntax.specs.declared.declaration.GlobalDeclaration.{GlobalDeclaration}
use Rattle.core_syntax.specs.declared.declaration.GlobalDeclaration.TheVariants.{Declaration, Function}
use Rattle.core_syntax.specs.declared.statement.Statement.{Statement}
use Rattle.core_syntax.specs.declared.statement.Statement.TheVariants.{Return}
use Rattle.core_syntax.specs.declared.statement.CompoundStatementOf.{CompoundStatementOf}
use Rattle.core_syntax.specs.declared.import.ImportStatement.{ImportStatement}
use Rattle.core_syntax.specs.declared.import.ImportContent.{ImportContent}
use Rattle.core_syntax.specs.declared.import.ImportContent.TheVariants.{Item}
use Rattle.core_syntax.specs.declared.unit.TranslationUnit.{TranslationUnit}
use Rattle.core_syntax.specs.Tree.{Exp, literal, parenthesized, unary, binary, call, named, exps, Typ, simple, templated, Attr, fragment, location, Stm, returning, Block, Param, Decl, variable, function, Imp, UnitTree}

abbrev pub typed : {A : Type 0} → (A → Exp) → Option ModulePath → List ℕ → Option (List (TemplateArgOf A)) → Typ
typed f path name None = simple path name
typed f path name (Some arguments) = templated path name (exps (map (λ a. f a.expression.node) arguments))

abbrev pub type_layer : {A : Type 0} → (A → Exp) → TypeExpressionOf A → Typ
type_layer f t = typed f t.path t.ident.name t.template_args

abbrev pub call_layer : {A : Type 0} → (A → Exp) → FunctionCallOf A → Exp
call_layer f x = call (type_layer f x.ty) (exps (map (λ a. f a.node) x.arguments))

-- a node, from what its parts stand for
abbrev pub layer : {A : Type 0} → (A → Exp) → Expression-F A → Exp
layer f (Expression-F.Literal l) = literal l
layer f (Expression-F.Parenthesized x) = parenthesized (f x.expression.node)
layer f (Expression-F.Unary x) = unary x.operator (f x.operand.node)
layer f (Expression-F.Binary x) = binary x.operator (f x.left.node) (f x.right.node)
layer f (Expression-F.FunctionCall x) = call_layer f x
layer f (Expression-F.TypeOrIdentifier t) = named (type_layer f t)

abbrev pub tree : Expression → Exp
tree = fold-Expression Exp (layer (λ x. x))

abbrev pub node_tree : Spanned Expression → Exp
node_tree n = tree n.node

abbrev pub type_tree : TypeExpressionOf Expression → Typ
type_tree = type_layer tree

abbrev pub attribute_tree : Attribute → Attr
attribute_tree Fragment = fragment
attribute_tree (Location n) = location (node_tree n)

abbrev pub attributes_tree : List (Spanned Attribute) → List Attr
attributes_tree attributes = map (λ n. attribute_tree n.node) attributes

abbrev pub statement_tree : Statement → Stm
statement_tree (Return r) = returning (attributes_tree r.attributes) (option_map node_tree r.expression)

abbrev pub block_tree : CompoundStatementOf Statement → Block
block_tree b = record { attributes = attributes_tree b.attributes; statements = map (λ n. statement_tree n.node) b.statements }

abbrev pub parameter_tree : FormalParameter → Param
parameter_tree p = record { attributes = attributes_tree p.attributes; name = p.ident.name; type = type_tree p.ty }

abbrev pub declaration_tree : GlobalDeclaration → Decl
declaration_tree (Declaration d) =
    variable (attributes_tree d.attributes) d.kind d.ident.name (option_map type_tree d.ty) (option_map node_tree d.initializer)
declaration_tree (Function f) =
    function (attributes_tree f.attributes) f.ident.name (map parameter_tree f.parameters) (attributes_tree f.return_attributes)
    (option_map type_tree f.return_type) (block_tree f.body)

abbrev pub import_tree : ImportStatement → Imp
import_tree i = item_of i.content
  where
    item_of : ImportContent → Imp
    item_of (Item x) = record { attributes = attributes_tree i.attributes; path = i.path; item = x.ident.name; rename = option_map (λ r. r.name) x.rename }

abbrev pub unit_tree : TranslationUnit → UnitTree
unit_tree u = record { imports = map import_tree u.imports; declarations = map (λ n. declaration_tree n.node) u.global_declarations }
