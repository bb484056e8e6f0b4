-- What each kind of tree says of scopes, locals and uses, in the order of its text. (Laws: the same as its skeleton laid flat.)
use Rattle.std.specs.Prelude.{ℕ, if◌then◌else◌, List, [], ◌∷◌, ◌++◌, map, Option, Some, None, codes}
use Rattle.std.specs.List.{flat_map}
use Rattle.std.specs.Str.{bytes_eq}
use Rattle.wgsl_path.specs.declared.path.ModulePath.{ModulePath}
use Rattle.wgsl_expressions.specs.Tree.{Exp, literal, parenthesized, component, indexed, unary, binary, call, named, Exps, nil, cons, Typ, simple, templated}
use Rattle.wgsl_expressions.specs.AttributesTree as attr
use Rattle.wgsl_expressions.specs.AttributesTree.{Attr}
use Rattle.wgsl_declarations.specs.SimpleStatementsTree.{Simple, assignment, increment, decrement, breaking, continuing, returning, discarding, calling, asserting, declaring, BreakIf, Selector, default_selector, selected}
use Rattle.wgsl_declarations.specs.StatementsTree as stm
use Rattle.wgsl_declarations.specs.StatementsTree.{Stm, Stms, Block, block, Elses, no_else, else_clause, else_if_clause, Clauses, no_clauses, switch_clause, Continuing, no_continuing, continuing_statement, Part, absent, present}
use Rattle.wgsl_declarations.specs.Tree.{Member, Param, Decl, variable, alias, structure, function, assertion}
use Rattle.wesl_mark.specs.Flats.{Flat, enters, leaves, declares, occurs}

abbrev pub Name : Type 0
Name = List ℕ

-- ---- expressions and types

-- the name `_`, which is assigned to, denotes nothing
abbrev pub in_name : Option ModulePath → List ℕ → List Flat
in_name None name = if bytes_eq name (codes "_") then [] else (occurs None name ∷ [])
in_name (Some path) name = occurs (Some path) name ∷ []

abbrev mutual
  pub in_exp : Exp → List Flat
  in_exp (literal l) = []
  in_exp (parenthesized x) = in_exp x
  in_exp (component x name) = in_exp x
  in_exp (indexed x y) = in_exp x ++ in_exp y
  in_exp (unary o x) = in_exp x
  in_exp (binary o x y) = in_exp x ++ in_exp y
  in_exp (call t xs) = in_typ t ++ in_exps xs
  in_exp (named t) = in_typ t

  pub in_exps : Exps → List Flat
  in_exps nil = []
  in_exps (cons x xs) = in_exp x ++ in_exps xs

  pub in_typ : Typ → List Flat
  in_typ (simple path name) = in_name path name
  in_typ (templated path name xs) = occurs path name ∷ in_exps xs

abbrev pub in_option : {A : Type 0} → (A → List Flat) → Option A → List Flat
in_option f None = []
in_option f (Some x) = f x

abbrev pub if_exp : Option Exp → List Flat
if_exp o = in_option in_exp o

abbrev pub if_typ : Option Typ → List Flat
if_typ o = in_option (in_typ) o

-- ---- attributes

abbrev pub in_attr : Attr → List Flat
in_attr (attr.align x) = in_exp x
in_attr (attr.binding x) = in_exp x
in_attr (attr.blend_src x) = in_exp x
in_attr (attr.builtin value) = []
in_attr attr.constant = []
in_attr (attr.diagnostic severity rule) = []
in_attr (attr.group x) = in_exp x
in_attr (attr.id_number x) = in_exp x
in_attr (attr.interpolate type sampling) = []
in_attr attr.invariant = []
in_attr (attr.location x) = in_exp x
in_attr attr.must_use = []
in_attr (attr.byte_size x) = in_exp x
in_attr (attr.workgroup_size x y z) = in_exp x ++ if_exp y ++ if_exp z
in_attr attr.vertex = []
in_attr attr.fragment = []
in_attr attr.compute = []
in_attr attr.publish = []
in_attr (attr.if_true x) = []
in_attr (attr.else_if x) = []
in_attr attr.otherwise = []
in_attr (attr.custom name None) = []
in_attr (attr.custom name (Some xs)) = flat_map in_exp xs

abbrev pub in_attrs : List Attr → List Flat
in_attrs attributes = flat_map in_attr attributes

-- ---- statements

abbrev pub in_simple : Simple → List Flat
in_simple (assignment attributes o place x) = in_attrs attributes ++ in_exp place ++ in_exp x
in_simple (increment attributes x) = in_attrs attributes ++ in_exp x
in_simple (decrement attributes x) = in_attrs attributes ++ in_exp x
in_simple (breaking attributes) = in_attrs attributes
in_simple (continuing attributes) = in_attrs attributes
in_simple (returning attributes x) = in_attrs attributes ++ if_exp x
in_simple (discarding attributes) = in_attrs attributes
in_simple (calling attributes t xs) = in_attrs attributes ++ (in_typ t ++ in_exps xs)
in_simple (asserting attributes x) = in_attrs attributes ++ in_exp x
in_simple (declaring attributes kind name type value) = in_attrs attributes ++ if_typ type ++ if_exp value ++ declares name ∷ []

abbrev pub in_break_if : BreakIf → List Flat
in_break_if b = in_attrs b.attributes ++ in_exp b.condition

abbrev pub in_selector : Selector → List Flat
in_selector default_selector = []
in_selector (selected x) = in_exp x

-- the parts of the header of `for`; closed, so that no goal has more than six lists in a row
unfoldable pub in_header : List Flat → List Flat → List Flat → List Flat
in_header first x next = first ++ x ++ next

abbrev mutual
  pub in_stm : Stm → List Flat
  in_stm (stm.simple s) = in_simple s
  in_stm (stm.compound_statement b) = in_block b
  in_stm (stm.if_statement attributes x b es) = in_attrs attributes ++ in_exp x ++ in_block b ++ in_elses es
  in_stm (stm.switch_statement attributes x bs cs) = in_attrs attributes ++ in_exp x ++ in_attrs bs ++ in_clauses cs
  -- `continuing` is inside the body of the loop
  in_stm (stm.loop_statement attributes (block bs ss) c) = in_attrs attributes ++ in_attrs bs ++ (enters ∷ []) ++ in_stms ss ++ in_continuing c ++ (leaves ∷ [])
  -- the header of `for` and its body share a scope; the body's attributes stand inside of it
  in_stm (stm.for_statement attributes first x next (block bs ss)) = in_attrs attributes ++ (enters ∷ []) ++ in_header (in_part first) (if_exp x) (in_part next) ++ in_attrs bs ++ in_stms ss ++ (leaves ∷ [])
  in_stm (stm.while_statement attributes x b) = in_attrs attributes ++ in_exp x ++ in_block b

  pub in_stms : Stms → List Flat
  in_stms stm.nil = []
  in_stms (stm.cons s ss) = in_stm s ++ in_stms ss

  pub in_block : Block → List Flat
  in_block (block attributes ss) = in_attrs attributes ++ (enters ∷ []) ++ in_stms ss ++ (leaves ∷ [])

  pub in_elses : Elses → List Flat
  in_elses no_else = []
  in_elses (else_clause b) = in_block b
  in_elses (else_if_clause x b es) = in_exp x ++ in_block b ++ in_elses es

  pub in_clauses : Clauses → List Flat
  in_clauses no_clauses = []
  in_clauses (switch_clause selectors b cs) = flat_map in_selector selectors ++ in_block b ++ in_clauses cs

  pub in_continuing : Continuing → List Flat
  in_continuing no_continuing = []
  in_continuing (continuing_statement attributes (block bs ss) last) = in_attrs attributes ++ in_attrs bs ++ (enters ∷ []) ++ in_stms ss ++ in_option in_break_if last ++ (leaves ∷ [])

  -- a part of the header of `for`
  pub in_part : Part → List Flat
  in_part absent = []
  in_part (present s) = in_stm s

-- what stands in a statement, where there is one
abbrev pub in_optional_stm : Option Stm → List Flat
in_optional_stm o = in_option in_stm o

-- ---- declarations

abbrev pub in_member : Member → List Flat
in_member m = in_attrs m.attributes ++ in_typ m.type

abbrev pub in_param : Param → List Flat
in_param p = in_attrs p.attributes ++ in_typ p.type

abbrev pub in_inside : Block → List Flat
in_inside (block attributes ss) = in_stms ss

abbrev pub body_attributes : Block → List Attr
body_attributes (block attributes ss) = attributes

-- what stands in front of the body of a function
unfoldable pub in_signature : List Attr → List Param → List Attr → Option Typ → List Flat
in_signature attributes params result_attributes result =
    in_attrs attributes ++ flat_map in_param params ++ in_attrs result_attributes ++ if_typ result

-- The attributes and the types of parameters and result, and the attributes of the body, are read in the scope of the module.
abbrev pub in_decl : Decl → List Flat
in_decl (variable attributes kind name type value) = in_attrs attributes ++ if_typ type ++ if_exp value
in_decl (alias attributes name type) = in_attrs attributes ++ in_typ type
in_decl (structure attributes name members) = in_attrs attributes ++ flat_map in_member members
in_decl (function attributes name params result_attributes result b) =
    in_signature attributes params result_attributes result ++ in_attrs (body_attributes b)
    ++ (enters ∷ []) ++ map (λ p. declares p.name) params ++ in_inside b ++ (leaves ∷ [])
in_decl (assertion attributes x) = in_attrs attributes ++ in_exp x

abbrev pub in_optional_decl : Option Decl → List Flat
in_optional_decl o = in_option in_decl o
