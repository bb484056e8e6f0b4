-- The names that occur in parts of the tree.
use Rattle.std.specs.Prelude.{◌≡◌, ℕ, List, [], ◌++◌, map}
use Rattle.std.specs.Option.{option_map}
use Rattle.std.specs.List.{flat_map}
use denote.Ref.{Bor}
use Rattle.core_syntax.specs.declared.declaration.Declaration.{Declaration}
use Rattle.core_syntax.specs.declared.declaration.Function.{Function}
use Rattle.core_syntax.specs.declared.expression.Expression.{Expression}
use Rattle.core_syntax.specs.declared.expression.FunctionCallOf.{FunctionCallOf}
use Rattle.core_syntax.specs.Tree.{exps}
use Rattle.core_syntax.specs.View.{node_tree, type_tree, attributes_tree, parameter_tree}
use Rattle.core_link_spec.specs.Occurrences.{Name, in_some, in_type, in_expression, in_expressions, in_attributes, in_parameter}
use Rattle.core_rename.specs.Scopes.{texts}

-- the names that were found are those before, and these
abbrev pub Adds : List (Bor (List ℕ)) → List (Bor (List ℕ)) → List Name → Type 0
Adds before after names = texts after ≡ texts before ++ names

abbrev pub in_value : List Name → Declaration → List Name
in_value locals d = in_some (in_type locals) (option_map type_tree d.ty) ++ in_some (in_expression locals) (option_map node_tree d.initializer)

abbrev pub in_signature : Function → List Name
in_signature f =
    flat_map in_parameter (map parameter_tree f.parameters) ++ in_attributes [] (attributes_tree f.return_attributes) ++ in_some (in_type []) (option_map type_tree f.return_type)

abbrev pub in_call : List Name → FunctionCallOf Expression → List Name
in_call locals call = in_type locals (type_tree call.ty) ++ in_expressions locals (exps (map node_tree call.arguments))
