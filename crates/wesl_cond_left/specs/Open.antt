-- Whether there is a condition in a module, at every depth.
use Rattle.std.specs.Prelude.{List, [], ◌∷◌, Bool, false, ◌||◌, Option, Some, None}
use Rattle.wgsl_expressions.specs.AttributesTree.{Attr}
use Rattle.wgsl_simple_statements.specs.Tree.{Simple, assignment, increment, decrement, breaking, continuing, returning, discarding, calling, asserting, declaring, BreakIf}
use Rattle.wgsl_statements.specs.Tree.{Stm, simple, compound_statement, if_statement, switch_statement, loop_statement, for_statement, while_statement, Stms, nil, cons, Block, block, Elses, no_else, else_clause, else_if_clause, Clauses, no_clauses, switch_clause, Continuing, no_continuing, continuing_statement, Part, absent, present}
use Rattle.wgsl_declarations.specs.ImportsTree.{Importing, Directive, diagnostic, enabling, requiring}
use Rattle.wgsl_declarations.specs.Tree.{Member, Param, Decl, variable, alias, structure, function, assertion, UnitTree}
use Rattle.wesl_conditions.specs.Chains.{is_condition}

-- one of the attributes is a condition
abbrev pub is_open : List Attr → Bool
is_open [] = false
is_open (a ∷ attributes) = is_condition a || is_open attributes

-- ---- statements

abbrev pub simple_open : Simple → Bool
simple_open (assignment attributes operator x y) = is_open attributes
simple_open (increment attributes x) = is_open attributes
simple_open (decrement attributes x) = is_open attributes
simple_open (breaking attributes) = is_open attributes
simple_open (continuing attributes) = is_open attributes
simple_open (returning attributes x) = is_open attributes
simple_open (discarding attributes) = is_open attributes
simple_open (calling attributes callee arguments) = is_open attributes
simple_open (asserting attributes x) = is_open attributes
simple_open (declaring attributes kind name type x) = is_open attributes

abbrev pub break_open : Option BreakIf → Bool
break_open None = false
break_open (Some x) = is_open x.attributes

abbrev mutual
  pub statement_open : Stm → Bool
  statement_open (simple s) = simple_open s
  statement_open (compound_statement b) = block_open b
  statement_open (if_statement attributes x b more) = is_open attributes || block_open b || elses_open more
  statement_open (switch_statement attributes x inner cs) = is_open attributes || is_open inner || clauses_open cs
  statement_open (loop_statement attributes b last) = is_open attributes || block_open b || continuing_open last
  statement_open (for_statement attributes first condition update b) = is_open attributes || part_open first || part_open update || block_open b
  statement_open (while_statement attributes x b) = is_open attributes || block_open b

  pub statements_open : Stms → Bool
  statements_open nil = false
  statements_open (cons s ss) = statement_open s || statements_open ss

  pub block_open : Block → Bool
  block_open (block attributes ss) = is_open attributes || statements_open ss

  pub elses_open : Elses → Bool
  elses_open no_else = false
  elses_open (else_clause b) = block_open b
  elses_open (else_if_clause x b more) = block_open b || elses_open more

  pub clauses_open : Clauses → Bool
  clauses_open no_clauses = false
  clauses_open (switch_clause selectors b more) = block_open b || clauses_open more

  pub continuing_open : Continuing → Bool
  continuing_open no_continuing = false
  continuing_open (continuing_statement attributes b last) = is_open attributes || block_open b || break_open last

  pub part_open : Part → Bool
  part_open absent = false
  part_open (present s) = statement_open s

-- in a statement, where there is one
abbrev pub maybe_open : Option Stm → Bool
maybe_open None = false
maybe_open (Some s) = statement_open s

-- one of these is true
abbrev pub one_of : List Bool → Bool
one_of [] = false
one_of (b ∷ bs) = b || one_of bs

-- ---- modules

abbrev pub members_open : List Member → Bool
members_open [] = false
members_open (m ∷ ms) = is_open m.attributes || members_open ms

abbrev pub parameters_open : List Param → Bool
parameters_open [] = false
parameters_open (p ∷ ps) = is_open p.attributes || parameters_open ps

abbrev pub declaration_open : Decl → Bool
declaration_open (variable attributes kind name type value) = is_open attributes
declaration_open (alias attributes name type) = is_open attributes
declaration_open (structure attributes name members) = is_open attributes || members_open members
declaration_open (function attributes name params result_attributes result body) =
    is_open attributes || parameters_open params || is_open result_attributes || block_open body
declaration_open (assertion attributes x) = is_open attributes

abbrev pub maybe_open_declaration : Option Decl → Bool
maybe_open_declaration None = false
maybe_open_declaration (Some d) = declaration_open d

abbrev pub declarations_open : List Decl → Bool
declarations_open [] = false
declarations_open (d ∷ ds) = declaration_open d || declarations_open ds

abbrev pub imports_open : List Importing → Bool
imports_open [] = false
imports_open (i ∷ is) = is_open i.attributes || imports_open is

abbrev pub directive_open : Directive → Bool
directive_open (diagnostic attributes severity rule) = is_open attributes
directive_open (enabling attributes names) = is_open attributes
directive_open (requiring attributes names) = is_open attributes

abbrev pub directives_open : List Directive → Bool
directives_open [] = false
directives_open (d ∷ ds) = directive_open d || directives_open ds

-- a condition stands somewhere in the module
abbrev pub unit_open : UnitTree → Bool
unit_open u = imports_open u.imports || directives_open u.directives || declarations_open u.declarations
