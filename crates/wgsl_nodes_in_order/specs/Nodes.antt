-- The nodes of a declaration: its attributes, expressions, types, statements, members and parameters, in the order in which they end in its
-- text. So a node stands behind those inside it.
use Rattle.std.specs.Prelude.{Bool, false, if◌then◌else◌, List, [], ◌∷◌, ◌++◌, Option, Some, None, codes}
use Rattle.std.specs.List.{flat_map}
use Rattle.std.specs.Str.{bytes_eq}
use Rattle.wgsl_words.specs.declared.enumerations.words.AssignmentOperator.{AssignmentOperator}
use Rattle.wgsl_words.specs.declared.enumerations.words.AssignmentOperator.TheVariants.{Equal}
use Rattle.wgsl_expressions.specs.Tree.{Exp, literal, parenthesized, component, indexed, unary, binary, call, named, Exps, nil, cons, Typ, simple, templated}
use Rattle.wgsl_expressions.specs.AttributesTree as attr
use Rattle.wgsl_expressions.specs.AttributesTree.{Attr}
use Rattle.wgsl_simple_statements.specs.Tree.{Simple, assignment, increment, decrement, breaking, continuing, returning, discarding, calling, asserting, declaring, BreakIf, Selector, default_selector, selected}
use Rattle.wgsl_statements.specs.Tree as stm
use Rattle.wgsl_statements.specs.Tree.{Stm, Stms, Block, block, Elses, no_else, else_clause, else_if_clause, Clauses, no_clauses, switch_clause, Continuing, no_continuing, continuing_statement, Part, absent, present}
use Rattle.wgsl_declarations.specs.ImportsTree.{Directive, diagnostic, enabling, requiring}
use Rattle.wgsl_declarations.specs.Tree.{Member, Param, Decl, variable, alias, structure, function, assertion}

-- a node; a statement stands as the list of it alone, which is empty where it is a `;`
pub data Node : Type 0 where
  attribute_node : Attr → Node
  expression_node : Exp → Node
  type_node : Typ → Node
  statement_node : Stms → Node
  member_node : Member → Node
  parameter_node : Param → Node

-- ---- expressions and types

abbrev mutual
  pub inside_exp : Exp → List Node
  inside_exp (literal l) = []
  inside_exp (parenthesized x) = inside_exp x ++ (expression_node x ∷ [])
  inside_exp (component x name) = inside_exp x ++ (expression_node x ∷ [])
  inside_exp (indexed x y) = inside_exp x ++ (expression_node x ∷ []) ++ (inside_exp y ++ (expression_node y ∷ []))
  inside_exp (unary o x) = inside_exp x ++ (expression_node x ∷ [])
  inside_exp (binary o x y) = inside_exp x ++ (expression_node x ∷ []) ++ (inside_exp y ++ (expression_node y ∷ []))
  inside_exp (call t xs) = inside_typ t ++ (type_node t ∷ []) ++ in_exps xs
  inside_exp (named t) = inside_typ t ++ (type_node t ∷ [])

  pub in_exps : Exps → List Node
  in_exps nil = []
  in_exps (cons x xs) = inside_exp x ++ (expression_node x ∷ []) ++ in_exps xs

  pub inside_typ : Typ → List Node
  inside_typ (simple path name) = []
  inside_typ (templated path name xs) = in_exps xs

abbrev pub in_exp : Exp → List Node
in_exp x = inside_exp x ++ (expression_node x ∷ [])

abbrev pub in_typ : Typ → List Node
in_typ t = inside_typ t ++ (type_node t ∷ [])

abbrev pub in_option : {A : Type 0} → (A → List Node) → Option A → List Node
in_option f None = []
in_option f (Some x) = f x

-- ---- attributes

abbrev pub inside_attr : Attr → List Node
inside_attr (attr.align x) = in_exp x
inside_attr (attr.binding x) = in_exp x
inside_attr (attr.blend_src x) = in_exp x
inside_attr (attr.builtin value) = []
inside_attr attr.constant = []
inside_attr (attr.diagnostic severity rule) = []
inside_attr (attr.group x) = in_exp x
inside_attr (attr.id_number x) = in_exp x
inside_attr (attr.interpolate type sampling) = []
inside_attr attr.invariant = []
inside_attr (attr.location x) = in_exp x
inside_attr attr.must_use = []
inside_attr (attr.byte_size x) = in_exp x
inside_attr (attr.workgroup_size x y z) = in_exp x ++ in_option in_exp y ++ in_option in_exp z
inside_attr attr.vertex = []
inside_attr attr.fragment = []
inside_attr attr.compute = []
inside_attr attr.publish = []
inside_attr (attr.if_true x) = in_exp x
inside_attr (attr.else_if x) = in_exp x
inside_attr attr.otherwise = []
inside_attr (attr.custom name None) = []
inside_attr (attr.custom name (Some xs)) = flat_map in_exp xs

abbrev pub in_attr : Attr → List Node
in_attr a = inside_attr a ++ (attribute_node a ∷ [])

abbrev pub in_attrs : List Attr → List Node
in_attrs attributes = flat_map in_attr attributes

-- ---- statements

-- Is the place `_` before `=`? It is no expression.
abbrev pub is_phony : AssignmentOperator → Exp → Bool
is_phony Equal (named (simple None name)) = bytes_eq name (codes "_")
is_phony _ _ = false

abbrev pub in_place : AssignmentOperator → Exp → List Node
in_place o x = if is_phony o x then [] else in_exp x

abbrev pub inside_simple : Simple → List Node
inside_simple (assignment attributes o place x) = in_attrs attributes ++ in_place o place ++ in_exp x
inside_simple (increment attributes x) = in_attrs attributes ++ in_exp x
inside_simple (decrement attributes x) = in_attrs attributes ++ in_exp x
inside_simple (breaking attributes) = in_attrs attributes
inside_simple (continuing attributes) = in_attrs attributes
inside_simple (returning attributes x) = in_attrs attributes ++ in_option in_exp x
inside_simple (discarding attributes) = in_attrs attributes
inside_simple (calling attributes t xs) = in_attrs attributes ++ in_typ t ++ in_exps xs
inside_simple (asserting attributes x) = in_attrs attributes ++ in_exp x
inside_simple (declaring attributes kind name type value) = in_attrs attributes ++ in_option in_typ type ++ in_option in_exp value

abbrev pub in_break_if : BreakIf → List Node
in_break_if b = in_attrs b.attributes ++ in_exp b.condition

abbrev pub in_selector : Selector → List Node
in_selector default_selector = []
in_selector (selected x) = in_exp x

abbrev mutual
  pub inside_stm : Stm → List Node
  inside_stm (stm.simple s) = inside_simple s
  inside_stm (stm.compound_statement b) = in_block b
  inside_stm (stm.if_statement attributes x b es) = in_attrs attributes ++ in_exp x ++ in_block b ++ in_elses es
  inside_stm (stm.switch_statement attributes x bs cs) = in_attrs attributes ++ in_exp x ++ in_attrs bs ++ in_clauses cs
  inside_stm (stm.loop_statement attributes b c) = in_attrs attributes ++ in_block b ++ in_continuing c
  inside_stm (stm.for_statement attributes first x next b) = in_attrs attributes ++ in_part first ++ in_option in_exp x ++ in_part next ++ in_block b
  inside_stm (stm.while_statement attributes x b) = in_attrs attributes ++ in_exp x ++ in_block b

  pub in_stms : Stms → List Node
  in_stms stm.nil = []
  in_stms (stm.cons s ss) = inside_stm s ++ (statement_node (stm.cons s stm.nil) ∷ []) ++ in_stms ss

  pub in_block : Block → List Node
  in_block (block attributes ss) = in_attrs attributes ++ in_stms ss

  pub in_elses : Elses → List Node
  in_elses no_else = []
  in_elses (else_clause b) = in_block b
  in_elses (else_if_clause x b es) = in_exp x ++ in_block b ++ in_elses es

  pub in_clauses : Clauses → List Node
  in_clauses no_clauses = []
  in_clauses (switch_clause selectors b cs) = flat_map in_selector selectors ++ in_block b ++ in_clauses cs

  pub in_continuing : Continuing → List Node
  in_continuing no_continuing = []
  in_continuing (continuing_statement attributes b last) = in_attrs attributes ++ in_block b ++ in_option in_break_if last

  -- a part of the header of `for`
  pub in_part : Part → List Node
  in_part absent = []
  in_part (present s) = inside_stm s ++ (statement_node (stm.cons s stm.nil) ∷ [])

abbrev pub in_clause : List Selector → Block → List Node
in_clause selectors b = flat_map in_selector selectors ++ in_block b

abbrev pub in_continued : List Attr → Block → Option BreakIf → List Node
in_continued attributes b last = in_attrs attributes ++ in_block b ++ in_option in_break_if last

-- inside a statement, where there is one
abbrev pub inside_optional : Option Stm → List Node
inside_optional o = in_option inside_stm o

-- a statement, where there is one
abbrev pub in_optional_stm : Option Stm → List Node
in_optional_stm None = []
in_optional_stm (Some s) = inside_stm s ++ (statement_node (stm.cons s stm.nil) ∷ [])

-- ---- declarations

abbrev pub inside_member : Member → List Node
inside_member m = in_attrs m.attributes ++ in_typ m.type

abbrev pub in_member : Member → List Node
in_member m = inside_member m ++ (member_node m ∷ [])

abbrev pub inside_param : Param → List Node
inside_param p = in_attrs p.attributes ++ in_typ p.type

abbrev pub in_param : Param → List Node
in_param p = inside_param p ++ (parameter_node p ∷ [])

-- in a declaration, but for itself
abbrev pub in_decl : Decl → List Node
in_decl (variable attributes kind name type value) = in_attrs attributes ++ in_option in_typ type ++ in_option in_exp value
in_decl (alias attributes name type) = in_attrs attributes ++ in_typ type
in_decl (structure attributes name members) = in_attrs attributes ++ flat_map in_member members
in_decl (function attributes name params result_attributes result body) =
    in_attrs attributes ++ flat_map in_param params ++ in_attrs result_attributes ++ in_option in_typ result ++ in_block body
in_decl (assertion attributes x) = in_attrs attributes ++ in_exp x

-- where there is a declaration
abbrev pub in_optional_decl : Option Decl → List Node
in_optional_decl o = in_option in_decl o

-- ---- directives: their attributes

abbrev pub in_directive : Directive → List Node
in_directive (diagnostic attributes severity rule) = in_attrs attributes
in_directive (enabling attributes names) = in_attrs attributes
in_directive (requiring attributes names) = in_attrs attributes

abbrev pub in_directives : List Directive → List Node
in_directives ds = flat_map in_directive ds
