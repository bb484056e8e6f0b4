-- The skeletons of expressions, attributes, statements and declarations (WGSL, "Declaration and Scope"; where a local is in scope is
-- said by the order of nodes in a list).
use Rattle.std.specs.Prelude.{List, [], ◌∷◌, map, Option, Some, None, if◌then◌else◌, codes}
use Rattle.std.specs.Str.{bytes_eq}
use Rattle.wgsl_path.specs.declared.path.ModulePath.{ModulePath}
use Rattle.wgsl_expressions.specs.Tree as e
use Rattle.wgsl_expressions.specs.Tree.{Exp, Exps, Typ}
use Rattle.wgsl_expressions.specs.AttributesTree as a
use Rattle.wgsl_expressions.specs.AttributesTree.{Attr}
use Rattle.wgsl_declarations.specs.SimpleStatementsTree as s
use Rattle.wgsl_declarations.specs.SimpleStatementsTree.{Simple, BreakIf, Selector}
use Rattle.wgsl_declarations.specs.StatementsTree as t
use Rattle.wgsl_declarations.specs.StatementsTree.{Stm, Stms, Block, Elses, Clauses, Continuing, Part}
use Rattle.wgsl_declarations.specs.ImportsTree.{Directive, diagnostic, enabling, requiring}
use Rattle.wgsl_declarations.specs.Tree as d
use Rattle.wgsl_declarations.specs.Tree.{Member, Param, Decl}
use Rattle.wgsl_skeleton.specs.Skeleton as l
use Rattle.wgsl_skeleton.specs.Skeleton.{Name, Node, occurrence, local, scope, node, Nodes, nil, cons}

-- ---- lists

abbrev pub nodes : List Node → Nodes
nodes [] = nil
nodes (n ∷ ns) = cons n (nodes ns)

-- one list behind another
abbrev pub then_nodes : Nodes → Nodes → Nodes
then_nodes nil more = more
then_nodes (cons n ns) more = cons n (then_nodes ns more)

abbrev pub leaf : l.Label → Node
leaf label = node label nil

abbrev pub list : List Node → Node
list ns = node l.parts (nodes ns)

-- ---- expressions

-- the name `_`, which is assigned to, denotes nothing
abbrev pub named_node : Option ModulePath → Name → Nodes → Node
named_node None x arguments = if bytes_eq x (codes "_") then leaf l.underscore else occurrence None x arguments
named_node (Some path) x arguments = occurrence (Some path) x arguments

abbrev mutual
  pub exp_node : Exp → Node
  exp_node (e.literal x) = leaf (l.literal x)
  exp_node (e.parenthesized x) = node l.parenthesized (cons (exp_node x) nil)
  exp_node (e.component x name) = node (l.component name) (cons (exp_node x) nil)
  exp_node (e.indexed x index) = node l.indexed (cons (exp_node x) (cons (exp_node index) nil))
  exp_node (e.unary o x) = node (l.unary o) (cons (exp_node x) nil)
  exp_node (e.binary o x y) = node (l.binary o) (cons (exp_node x) (cons (exp_node y) nil))
  exp_node (e.call type xs) = node l.call (cons (type_node type) (exp_nodes xs))
  exp_node (e.named type) = type_node type

  pub exp_nodes : Exps → Nodes
  exp_nodes e.nil = nil
  exp_nodes (e.cons x xs) = cons (exp_node x) (exp_nodes xs)

  -- (a template list is one part, so that an empty one is told from none)
  pub type_node : Typ → Node
  type_node (e.simple path x) = named_node path x nil
  type_node (e.templated path x arguments) = occurrence path x (cons (node l.parts (exp_nodes arguments)) nil)

abbrev pub if_exp : Option Exp → Node
if_exp (Some x) = list (exp_node x ∷ [])
if_exp None = list []

abbrev pub if_type : Option Typ → Node
if_type (Some t) = list (type_node t ∷ [])
if_type None = list []

-- ---- attributes

abbrev pub attribute_node : Attr → Node
attribute_node (a.align x) = node l.align (nodes (exp_node x ∷ []))
attribute_node (a.binding x) = node l.binding (nodes (exp_node x ∷ []))
attribute_node (a.blend_src x) = node l.blend_src (nodes (exp_node x ∷ []))
attribute_node (a.builtin value) = leaf (l.builtin value)
attribute_node a.constant = leaf l.constant
attribute_node (a.diagnostic severity rule) = leaf (l.diagnostic severity rule)
attribute_node (a.group x) = node l.group (nodes (exp_node x ∷ []))
attribute_node (a.id_number x) = node l.id_number (nodes (exp_node x ∷ []))
attribute_node (a.interpolate type sampling) = leaf (l.interpolate type sampling)
attribute_node a.invariant = leaf l.invariant
attribute_node (a.location x) = node l.location (nodes (exp_node x ∷ []))
attribute_node a.must_use = leaf l.must_use
attribute_node (a.byte_size x) = node l.byte_size (nodes (exp_node x ∷ []))
attribute_node (a.workgroup_size x y z) = node l.workgroup_size (nodes (exp_node x ∷ if_exp y ∷ if_exp z ∷ []))
attribute_node a.vertex = leaf l.vertex
attribute_node a.fragment = leaf l.fragment
attribute_node a.compute = leaf l.compute
attribute_node a.publish = leaf l.publish
attribute_node (a.if_true x) = leaf (l.if_true x)
attribute_node (a.else_if x) = leaf (l.else_if x)
attribute_node a.otherwise = leaf l.otherwise
attribute_node (a.custom x None) = leaf (l.custom x)
attribute_node (a.custom x (Some arguments)) = node (l.custom x) (nodes (list (map exp_node arguments) ∷ []))

abbrev pub attributes_node : List Attr → Node
attributes_node attributes = list (map attribute_node attributes)

-- ---- statements

-- A local is in scope behind its statement. (Of a module's declarations see below: they declare no locals.)
abbrev pub simple_nodes : Simple → List Node
simple_nodes (s.assignment attributes o x y) = node (l.assignment o) (nodes (attributes_node attributes ∷ exp_node x ∷ exp_node y ∷ [])) ∷ []
simple_nodes (s.increment attributes x) = node l.increment (nodes (attributes_node attributes ∷ exp_node x ∷ [])) ∷ []
simple_nodes (s.decrement attributes x) = node l.decrement (nodes (attributes_node attributes ∷ exp_node x ∷ [])) ∷ []
simple_nodes (s.breaking attributes) = node l.breaking (nodes (attributes_node attributes ∷ [])) ∷ []
simple_nodes (s.continuing attributes) = node l.continuing (nodes (attributes_node attributes ∷ [])) ∷ []
simple_nodes (s.returning attributes value) = node l.returning (nodes (attributes_node attributes ∷ if_exp value ∷ [])) ∷ []
simple_nodes (s.discarding attributes) = node l.discarding (nodes (attributes_node attributes ∷ [])) ∷ []
simple_nodes (s.calling attributes type xs) = node l.calling (cons (attributes_node attributes) (cons (type_node type) (exp_nodes xs))) ∷ []
simple_nodes (s.asserting attributes x) = node l.asserting (nodes (attributes_node attributes ∷ exp_node x ∷ [])) ∷ []
simple_nodes (s.declaring attributes kind x type value) = node (l.declaring kind) (nodes (attributes_node attributes ∷ if_type type ∷ if_exp value ∷ [])) ∷ local x ∷ []

abbrev pub selector_node : Selector → Node
selector_node s.default_selector = leaf l.default_selector
selector_node (s.selected x) = exp_node x

abbrev pub if_break : Option BreakIf → Nodes
if_break None = nil
if_break (Some b) = nodes (node l.break_if (nodes (attributes_node b.attributes ∷ exp_node b.condition ∷ [])) ∷ [])

abbrev mutual
  -- a statement as nodes of the list of its block
  pub statement_nodes : Stm → Nodes
  statement_nodes (t.simple x) = nodes (simple_nodes x)
  statement_nodes (t.compound_statement b) = cons (block_node b) nil
  statement_nodes (t.if_statement attributes x b elses) =
      cons (node l.if_statement (cons (attributes_node attributes) (cons (exp_node x) (cons (block_node b) (cons (elses_node elses) nil))))) nil
  statement_nodes (t.switch_statement attributes x body_attributes clauses) =
      cons (node l.switch_statement (cons (attributes_node attributes) (cons (exp_node x) (cons (attributes_node body_attributes) (clause_nodes clauses))))) nil
  statement_nodes (t.loop_statement attributes b continuing) = cons (node l.loop_statement (cons (attributes_node attributes) (loop_nodes b (continuing_node continuing)))) nil
  statement_nodes (t.for_statement attributes initializer condition update b) =
      cons (node l.for_statement (cons (attributes_node attributes) (cons (scope (then_nodes (part_nodes initializer) (cons (if_exp condition) (then_nodes (part_nodes update) (inside_nodes b))))) nil))) nil
  statement_nodes (t.while_statement attributes x b) = cons (node l.while_statement (cons (attributes_node attributes) (cons (exp_node x) (cons (block_node b) nil)))) nil

  pub statements_nodes : Stms → Nodes
  statements_nodes t.nil = nil
  statements_nodes (t.cons x rest) = then_nodes (statement_nodes x) (statements_nodes rest)

  -- a block: its attributes, and what it declares in scope inside alone
  pub block_node : Block → Node
  block_node (t.block attributes statements) = node l.compound (cons (attributes_node attributes) (cons (scope (statements_nodes statements)) nil))

  -- the same where what is around it shares its scope
  pub inside_nodes : Block → Nodes
  inside_nodes (t.block attributes statements) = cons (attributes_node attributes) (statements_nodes statements)

  pub elses_node : Elses → Node
  elses_node t.no_else = leaf l.no_else
  elses_node (t.else_clause b) = node l.else_clause (cons (block_node b) nil)
  elses_node (t.else_if_clause x b more) = node l.else_if_clause (cons (exp_node x) (cons (block_node b) (cons (elses_node more) nil)))

  pub clause_nodes : Clauses → Nodes
  clause_nodes t.no_clauses = nil
  clause_nodes (t.switch_clause selectors b more) = cons (node l.switch_clause (cons (list (map selector_node selectors)) (cons (block_node b) nil))) (clause_nodes more)

  -- `continuing` is inside the body of the loop, and `break if` inside `continuing`
  pub loop_nodes : Block → Node → Nodes
  loop_nodes (t.block attributes statements) continuing = cons (attributes_node attributes) (cons (scope (then_nodes (statements_nodes statements) (cons continuing nil))) nil)

  pub continuing_node : Continuing → Node
  continuing_node t.no_continuing = leaf l.no_continuing
  continuing_node (t.continuing_statement attributes (t.block block_attributes statements) break_if) =
      node l.continuing_statement (cons (attributes_node attributes) (cons (attributes_node block_attributes) (cons (scope (then_nodes (statements_nodes statements) (if_break break_if))) nil)))

  pub part_nodes : Part → Nodes
  part_nodes t.absent = nil
  part_nodes (t.present x) = statement_nodes x

-- ---- directives and declarations

abbrev pub directive_attributes : Directive → List Attr
directive_attributes (diagnostic attributes severity rule) = attributes
directive_attributes (enabling attributes names) = attributes
directive_attributes (requiring attributes names) = attributes

abbrev pub directive_node : Directive → Node
directive_node d = attributes_node (directive_attributes d)

abbrev pub member_node : Member → Node
member_node m = node (l.member m.name) (nodes (attributes_node m.attributes ∷ type_node m.type ∷ []))

abbrev pub parameter_node : Param → Node
parameter_node p = node l.parameter (nodes (attributes_node p.attributes ∷ type_node p.type ∷ []))

-- The attributes and the types of parameters and result are read in the scope of the module, and so are the attributes of the body, which
-- stand before its brace; the parameters are in scope in the body, whose scope they share.
abbrev pub declaration_node : Decl → Node
declaration_node (d.variable attributes kind x type value) = node (l.variable kind x) (nodes (attributes_node attributes ∷ if_type type ∷ if_exp value ∷ []))
declaration_node (d.alias attributes x type) = node (l.alias x) (nodes (attributes_node attributes ∷ type_node type ∷ []))
declaration_node (d.structure attributes x members) = node (l.structure x) (nodes (attributes_node attributes ∷ map member_node members))
declaration_node (d.function attributes x parameters result_attributes result (t.block body_attributes statements)) =
    node (l.function x) (nodes (attributes_node attributes ∷ list (map parameter_node parameters) ∷ attributes_node result_attributes ∷ if_type result
    ∷ attributes_node body_attributes ∷ scope (then_nodes (nodes (map (λ p. local p.name) parameters)) (statements_nodes statements)) ∷ []))
declaration_node (d.assertion attributes x) = node l.assertion (nodes (attributes_node attributes ∷ exp_node x ∷ []))
