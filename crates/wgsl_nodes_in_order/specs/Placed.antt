-- A node in a declaration that holds it alone.
use Rattle.std.specs.Prelude.{ℕ, List, [], ◌∷◌, Option, Some, None, codes}
use Rattle.wgsl_path.specs.Paths.{ident_of}
use Rattle.wgsl_nodes_in_order.specs.Function.{Function}
use Rattle.wgsl_nodes_in_order.specs.StatementsTree as statement
use Rattle.wgsl_nodes_in_order.specs.StatementsTree.{block}
use Rattle.wgsl_nodes_in_order.specs.DeclarationsTree.{Decl, alias, structure, function, assertion}
use Rattle.wgsl_nodes_in_order.specs.Nodes.{Node, attribute_node, expression_node, type_node, statement_node, member_node, parameter_node}

-- a function `f` with nothing in it
abbrev pub empty_function : Function
empty_function =
    record { attributes = []; ident = ident_of (codes "f"); parameters = []; return_attributes = []; return_type = None; body = record { attributes = []; statements = [] } }

-- an attribute stands before a function, an expression in an assertion, a type behind another name for it, a statement in a function, a
-- member in a structure and a parameter in a function
abbrev pub holding : Node → Decl
holding (attribute_node a) = function (a ∷ []) (codes "f") [] [] None (block [] statement.nil)
holding (expression_node x) = assertion [] x
holding (type_node t) = alias [] (codes "t") t
holding (statement_node s) = function [] (codes "f") [] [] None (block [] s)
holding (member_node m) = structure [] (codes "s") (m ∷ [])
holding (parameter_node p) = function [] (codes "f") (p ∷ []) [] None (block [] statement.nil)
