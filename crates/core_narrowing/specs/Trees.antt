-- What the parts of trees stand for.
use Rattle.std.specs.Prelude.{ℕ, List, map, Option}
use Rattle.std.specs.Option.{option_map}
use Rattle.wgsl_path.specs.declared.span.Spanned.{Spanned}
use Rattle.core_syntax.specs.declared.expression.Expression.{Expression}
use Rattle.core_syntax.specs.declared.expression.BinaryExpressionOf.{BinaryExpressionOf}
use Rattle.core_syntax.specs.declared.expression.FunctionCallOf.{FunctionCallOf}
use Rattle.core_syntax.specs.declared.expression.TemplateArgOf.{TemplateArgOf}
use Rattle.core_syntax.specs.declared.statement.ReturnStatement.{ReturnStatement}
use Rattle.core_syntax.specs.declared.statement.Statement.{Statement}
use Rattle.core_syntax.specs.declared.statement.Statement.TheVariants.{Return}
use Rattle.core_syntax.specs.declared.declaration.FormalParameter.{FormalParameter}
use Rattle.core_syntax.specs.declared.declaration.Declaration.{Declaration}
use Rattle.core_syntax.specs.declared.declaration.Function.{Function}
use Rattle.core_syntax.specs.declared.declaration.GlobalDeclaration.{GlobalDeclaration}
use Rattle.core_syntax.specs.declared.declaration.GlobalDeclaration.TheVariants as declared
use Rattle.core_syntax.specs.declared.import.ImportStatement.{ImportStatement}
use Rattle.core_syntax.specs.declared.import.ImportItem.{ImportItem}
use Rattle.core_syntax.specs.Tree.{Exp, binary, Exps, exps, Stm, Param, Decl, Imp}
use Rattle.core_syntax.specs.View.{tree, node_tree, call_layer, statement_tree, parameter_tree, declaration_tree, import_tree}

abbrev pub binary_tree : BinaryExpressionOf Expression → Exp
binary_tree x = binary x.operator (node_tree x.left) (node_tree x.right)

abbrev pub call_tree : FunctionCallOf Expression → Exp
call_tree x = call_layer tree x

abbrev pub nodes_tree : List (Spanned Expression) → Exps
nodes_tree nodes = exps (map node_tree nodes)

abbrev pub arguments_tree : List (TemplateArgOf Expression) → Exps
arguments_tree arguments = exps (map (λ a. node_tree a.expression) arguments)

abbrev pub return_tree : ReturnStatement → Stm
return_tree x = statement_tree (Return x)

abbrev pub statements_tree : List (Spanned Statement) → List Stm
statements_tree nodes = map (λ n. statement_tree n.node) nodes

abbrev pub parameters_tree : List FormalParameter → List Param
parameters_tree parameters = map parameter_tree parameters

abbrev pub variable_tree : Declaration → Decl
variable_tree x = declaration_tree (declared.Declaration x)

abbrev pub function_tree : Function → Decl
function_tree x = declaration_tree (declared.Function x)

abbrev pub declarations_tree : List (Spanned GlobalDeclaration) → List Decl
declarations_tree nodes = map (λ n. declaration_tree n.node) nodes

abbrev pub item_tree : ImportItem → List ℕ × Option (List ℕ)
item_tree x = (x.ident.name, option_map (λ r. r.name) x.rename)

abbrev pub imports_tree : List ImportStatement → List Imp
imports_tree imports = map import_tree imports
