-- The names of nodes.
use Rattle.std.specs.Prelude.{ℕ, List, Option, Some, None}
use Rattle.wgsl_expressions.specs.Tree.{Typ, simple, templated}
use Rattle.wgsl_simple_statements.specs.Tree.{declaring}
use Rattle.wgsl_statements.specs.Tree as statement
use Rattle.wgsl_statements.specs.Tree.{Stms}
use Rattle.wgsl_declarations.specs.Tree.{Decl, variable, alias, structure, function, assertion}
use Rattle.wgsl_read_back.specs.Nodes.{Node, attribute_node, expression_node, type_node, statement_node, member_node, parameter_node}

abbrev pub typ_name : Typ → List ℕ
typ_name (simple path name) = name
typ_name (templated path name arguments) = name

-- the name that a local declaration declares
abbrev pub local_name : Stms → Option (List ℕ)
local_name (statement.cons (statement.simple (declaring attributes kind name type value)) more) = Some name
local_name _ = None

-- Types, local declarations, members and parameters have names.
abbrev pub node_name : Node → Option (List ℕ)
node_name (attribute_node a) = None
node_name (expression_node x) = None
node_name (type_node t) = Some (typ_name t)
node_name (statement_node s) = local_name s
node_name (member_node m) = Some m.name
node_name (parameter_node p) = Some p.name

abbrev pub decl_name : Decl → Option (List ℕ)
decl_name (variable attributes kind name type value) = Some name
decl_name (alias attributes name type) = Some name
decl_name (structure attributes name members) = Some name
decl_name (function attributes name params result_attributes result body) = Some name
decl_name (assertion attributes x) = None
