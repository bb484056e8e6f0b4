-- Every list of a module that may hold conditions, rewritten: imports, directives, declarations, members, parameters and statements. The
-- attributes of a function's body, of the other bodies and of a result are no such item's.
use Rattle.std.specs.Prelude.{List, [], ◌∷◌, map}
use Rattle.wgsl_expressions.specs.AttributesTree.{Attr}
use Rattle.wgsl_declarations.specs.SimpleStatementsTree.{Simple, assignment, increment, decrement, breaking, continuing, returning, discarding, calling, asserting, declaring}
use Rattle.wgsl_declarations.specs.StatementsTree.{Stm, simple, compound_statement, if_statement, switch_statement, loop_statement, for_statement, while_statement, Stms, nil, cons, Block, block, Elses, no_else, else_clause, else_if_clause, Clauses, no_clauses, switch_clause, Continuing, no_continuing, continuing_statement, Part, absent, present}
use Rattle.wgsl_declarations.specs.ImportsTree.{Importing, Directive, diagnostic, enabling, requiring}
use Rattle.wgsl_declarations.specs.Tree.{Member, Param, Decl, variable, alias, structure, function, assertion, UnitTree}
use Rattle.wesl_conditions.specs.declared.features.feature.Features.{Features}
use Rattle.wesl_conditions.specs.Conditions.{Choice}
use Rattle.wesl_conditions.specs.Chains.{HasAttributes, chosen, left}

-- ---- the attributes of each kind of item

abbrev pub simple_attributes : Simple → List Attr
simple_attributes (assignment attributes operator place value) = attributes
simple_attributes (increment attributes place) = attributes
simple_attributes (decrement attributes place) = attributes
simple_attributes (breaking attributes) = attributes
simple_attributes (continuing attributes) = attributes
simple_attributes (returning attributes value) = attributes
simple_attributes (discarding attributes) = attributes
simple_attributes (calling attributes type arguments) = attributes
simple_attributes (asserting attributes x) = attributes
simple_attributes (declaring attributes kind name type value) = attributes

abbrev pub simple_with : List Attr → Simple → Simple
simple_with new (assignment attributes operator place value) = assignment new operator place value
simple_with new (increment attributes place) = increment new place
simple_with new (decrement attributes place) = decrement new place
simple_with new (breaking attributes) = breaking new
simple_with new (continuing attributes) = continuing new
simple_with new (returning attributes value) = returning new value
simple_with new (discarding attributes) = discarding new
simple_with new (calling attributes type arguments) = calling new type arguments
simple_with new (asserting attributes x) = asserting new x
simple_with new (declaring attributes kind name type value) = declaring new kind name type value

abbrev pub block_attributes : Block → List Attr
block_attributes (block attributes ss) = attributes

abbrev pub block_with : List Attr → Block → Block
block_with new (block attributes ss) = block new ss

-- those of a block that is a statement are the statement's
abbrev pub statement_attributes : Stm → List Attr
statement_attributes (simple s) = simple_attributes s
statement_attributes (compound_statement b) = block_attributes b
statement_attributes (if_statement attributes x b more) = attributes
statement_attributes (switch_statement attributes x inner cs) = attributes
statement_attributes (loop_statement attributes b last) = attributes
statement_attributes (for_statement attributes first condition update b) = attributes
statement_attributes (while_statement attributes x b) = attributes

abbrev pub statement_with : List Attr → Stm → Stm
statement_with new (simple s) = simple (simple_with new s)
statement_with new (compound_statement b) = compound_statement (block_with new b)
statement_with new (if_statement attributes x b more) = if_statement new x b more
statement_with new (switch_statement attributes x inner cs) = switch_statement new x inner cs
statement_with new (loop_statement attributes b last) = loop_statement new b last
statement_with new (for_statement attributes first condition update b) = for_statement new first condition update b
statement_with new (while_statement attributes x b) = while_statement new x b

abbrev pub of_statements : HasAttributes Stm
of_statements = record { attributes = statement_attributes; with_attributes = statement_with }

abbrev pub declaration_attributes : Decl → List Attr
declaration_attributes (variable attributes kind name type value) = attributes
declaration_attributes (alias attributes name type) = attributes
declaration_attributes (structure attributes name members) = attributes
declaration_attributes (function attributes name params result_attributes result body) = attributes
declaration_attributes (assertion attributes x) = attributes

abbrev pub declaration_with : List Attr → Decl → Decl
declaration_with new (variable attributes kind name type value) = variable new kind name type value
declaration_with new (alias attributes name type) = alias new name type
declaration_with new (structure attributes name members) = structure new name members
declaration_with new (function attributes name params result_attributes result body) = function new name params result_attributes result body
declaration_with new (assertion attributes x) = assertion new x

abbrev pub of_declarations : HasAttributes Decl
of_declarations = record { attributes = declaration_attributes; with_attributes = declaration_with }

abbrev pub of_members : HasAttributes Member
of_members = record { attributes = λ m. m.attributes; with_attributes = λ new m. record { attributes = new; name = m.name; type = m.type } }

abbrev pub of_parameters : HasAttributes Param
of_parameters = record { attributes = λ p. p.attributes; with_attributes = λ new p. record { attributes = new; name = p.name; type = p.type } }

abbrev pub of_imports : HasAttributes Importing
of_imports = record { attributes = λ i. i.attributes; with_attributes = λ new i. record { attributes = new; path = i.path; content = i.content } }

abbrev pub directive_attributes : Directive → List Attr
directive_attributes (diagnostic attributes severity rule) = attributes
directive_attributes (enabling attributes names) = attributes
directive_attributes (requiring attributes names) = attributes

abbrev pub directive_with : List Attr → Directive → Directive
directive_with new (diagnostic attributes severity rule) = diagnostic new severity rule
directive_with new (enabling attributes names) = enabling new names
directive_with new (requiring attributes names) = requiring new names

abbrev pub of_directives : HasAttributes Directive
of_directives = record { attributes = directive_attributes; with_attributes = directive_with }

-- ---- lists rewritten at every depth

-- what becomes of a list of any items that have attributes
abbrev pub Rewriting : Type 1
Rewriting = (T : Type 0) → HasAttributes T → List T → List T

abbrev pub from_list : List Stm → Stms
from_list [] = nil
from_list (s ∷ ss) = cons s (from_list ss)

module _ (rewriting : Rewriting) where
  abbrev mutual
    pub in_statement : Stm → Stm
    in_statement (simple s) = simple s
    in_statement (compound_statement b) = compound_statement (in_block b)
    in_statement (if_statement attributes x b more) = if_statement attributes x (in_block b) (in_elses more)
    in_statement (switch_statement attributes x inner cs) = switch_statement attributes x inner (in_clauses cs)
    in_statement (loop_statement attributes b last) = loop_statement attributes (in_block b) (in_continuing last)
    in_statement (for_statement attributes first condition update b) = for_statement attributes (in_part first) condition (in_part update) (in_block b)
    in_statement (while_statement attributes x b) = while_statement attributes x (in_block b)

    pub in_each : Stms → List Stm
    in_each nil = []
    in_each (cons s ss) = in_statement s ∷ in_each ss

    -- what is inside the statements first, then the list
    pub in_block : Block → Block
    in_block (block attributes ss) = block attributes (from_list (rewriting Stm of_statements (in_each ss)))

    pub in_elses : Elses → Elses
    in_elses no_else = no_else
    in_elses (else_clause b) = else_clause (in_block b)
    in_elses (else_if_clause x b more) = else_if_clause x (in_block b) (in_elses more)

    pub in_clauses : Clauses → Clauses
    in_clauses no_clauses = no_clauses
    in_clauses (switch_clause selectors b more) = switch_clause selectors (in_block b) (in_clauses more)

    pub in_continuing : Continuing → Continuing
    in_continuing no_continuing = no_continuing
    in_continuing (continuing_statement attributes b condition) = continuing_statement attributes (in_block b) condition

    pub in_part : Part → Part
    in_part absent = absent
    in_part (present s) = present (in_statement s)

  abbrev pub in_declaration : Decl → Decl
  in_declaration (variable attributes kind name type value) = variable attributes kind name type value
  in_declaration (alias attributes name type) = alias attributes name type
  in_declaration (structure attributes name members) = structure attributes name (rewriting Member of_members members)
  in_declaration (function attributes name params result_attributes result body) =
      function attributes name (rewriting Param of_parameters params) result_attributes result (in_block body)
  in_declaration (assertion attributes x) = assertion attributes x

  abbrev pub in_unit : UnitTree → UnitTree
  in_unit u = record {
    imports = rewriting Importing of_imports u.imports;
    directives = rewriting Directive of_directives u.directives;
    declarations = rewriting Decl of_declarations (map in_declaration u.declarations);
  }

-- ---- modules

-- what a module means under a choice: in each list each chain is its first true item, or nothing
abbrev pub unit_under : Choice → UnitTree → UnitTree
unit_under choice = in_unit (λ T has items. chosen choice has items)

-- what features leave of a module
abbrev pub unit_left : Features → UnitTree → UnitTree
unit_left features = in_unit (λ T has items. left features has items)
