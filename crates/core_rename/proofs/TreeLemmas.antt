-- The names in calls and in names, from those of their parts.
use Rattle.std.proofs.Common.{◌++◌, ◌≡◌, ap, List, map}
use Rattle.core_syntax.specs.declared.expression.FunctionCallOf.{FunctionCallOf}
use Rattle.core_syntax.specs.declared.expression.TypeExpressionOf.{TypeExpressionOf}
use Rattle.core_syntax.specs.declared.expression.Expression.{Expression}
use Rattle.core_syntax.specs.declared.expression.Expression.TheVariants.{FunctionCall, TypeOrIdentifier}
use Rattle.core_syntax.specs.Tree.{exps}
use Rattle.core_syntax.specs.View.{tree, node_tree, type_tree}
use Rattle.core_syntax.proofs.Trees.{tree_of_call, tree_of_named}
use Rattle.core_link_spec.specs.Occurrences.{Name, in_expression, in_expressions, in_type}

pub in_call : (locals : List Name) (x : FunctionCallOf Expression)
    → in_expression locals (tree (FunctionCall x)) ≡ in_type locals (type_tree x.ty) ++ in_expressions locals (exps (map node_tree x.arguments))
in_call locals x = ap (in_expression locals) (tree_of_call x)

pub in_named : (locals : List Name) (t : TypeExpressionOf Expression) → in_expression locals (tree (TypeOrIdentifier t)) ≡ in_type locals (type_tree t)
in_named locals t = ap (in_expression locals) (tree_of_named t)
