-- Statements, declarations and modules whose lists are rewritten at every depth.
use Rattle.std.proofs.Common.{◌≡◌, refl, ap, ◌∙◌, List, [], ◌∷◌, map}
use Rattle.wgsl_expressions.specs.AttributesTree.{Attr}
use Rattle.wgsl_simple_statements.specs.Tree.{Simple, assignment, increment, decrement, breaking, continuing, returning, discarding, calling, asserting, declaring}
use Rattle.wgsl_statements.specs.Tree.{Stm, simple, compound_statement, if_statement, switch_statement, loop_statement, for_statement, while_statement, Stms, nil, cons, Block, block, Elses, no_else, else_clause, else_if_clause, Clauses, no_clauses, switch_clause, Continuing, no_continuing, continuing_statement, Part, absent, present}
use Rattle.wgsl_declarations.specs.ImportsTree.{Importing, Directive, diagnostic, enabling, requiring}
use Rattle.wgsl_declarations.specs.Tree.{Member, Param, Decl, variable, alias, structure, function, assertion, UnitTree}
use Rattle.wesl_conditions.specs.Chains.{HasAttributes}
use Rattle.wesl_conditions.specs.Trees.{of_statements, of_declarations, of_members, of_parameters, of_imports, of_directives, simple_attributes, simple_with, statement_attributes, statement_with, directive_attributes, directive_with, declaration_attributes, declaration_with, Rewriting, from_list, in_statement, in_each, in_block, in_elses, in_clauses, in_continuing, in_part, in_declaration, in_unit}
use Rattle.wesl_cond_laws.proofs.Standings.{IsLawful}

-- ---- each kind of item

simple_reads : (new : List Attr) (s : Simple) → simple_attributes (simple_with new s) ≡ new
simple_reads new (assignment attributes operator place value) = refl
simple_reads new (increment attributes place) = refl
simple_reads new (decrement attributes place) = refl
simple_reads new (breaking attributes) = refl
simple_reads new (continuing attributes) = refl
simple_reads new (returning attributes value) = refl
simple_reads new (discarding attributes) = refl
simple_reads new (calling attributes type arguments) = refl
simple_reads new (asserting attributes x) = refl
simple_reads new (declaring attributes kind name type value) = refl

simple_puts : (new old : List Attr) (s : Simple) → simple_with new (simple_with old s) ≡ simple_with new s
simple_puts new old (assignment attributes operator place value) = refl
simple_puts new old (increment attributes place) = refl
simple_puts new old (decrement attributes place) = refl
simple_puts new old (breaking attributes) = refl
simple_puts new old (continuing attributes) = refl
simple_puts new old (returning attributes value) = refl
simple_puts new old (discarding attributes) = refl
simple_puts new old (calling attributes type arguments) = refl
simple_puts new old (asserting attributes x) = refl
simple_puts new old (declaring attributes kind name type value) = refl

statement_reads : (new : List Attr) (s : Stm) → statement_attributes (statement_with new s) ≡ new
statement_reads new (simple s) = simple_reads new s
statement_reads new (compound_statement (block attributes ss)) = refl
statement_reads new (if_statement attributes x b more) = refl
statement_reads new (switch_statement attributes x inner cs) = refl
statement_reads new (loop_statement attributes b last) = refl
statement_reads new (for_statement attributes first condition update b) = refl
statement_reads new (while_statement attributes x b) = refl

statement_puts : (new old : List Attr) (s : Stm) → statement_with new (statement_with old s) ≡ statement_with new s
statement_puts new old (simple s) = ap simple (simple_puts new old s)
statement_puts new old (compound_statement (block attributes ss)) = refl
statement_puts new old (if_statement attributes x b more) = refl
statement_puts new old (switch_statement attributes x inner cs) = refl
statement_puts new old (loop_statement attributes b last) = refl
statement_puts new old (for_statement attributes first condition update b) = refl
statement_puts new old (while_statement attributes x b) = refl

declaration_reads : (new : List Attr) (d : Decl) → declaration_attributes (declaration_with new d) ≡ new
declaration_reads new (variable attributes kind name type value) = refl
declaration_reads new (alias attributes name type) = refl
declaration_reads new (structure attributes name members) = refl
declaration_reads new (function attributes name params result_attributes result body) = refl
declaration_reads new (assertion attributes x) = refl

declaration_puts : (new old : List Attr) (d : Decl) → declaration_with new (declaration_with old d) ≡ declaration_with new d
declaration_puts new old (variable attributes kind name type value) = refl
declaration_puts new old (alias attributes name type) = refl
declaration_puts new old (structure attributes name members) = refl
declaration_puts new old (function attributes name params result_attributes result body) = refl
declaration_puts new old (assertion attributes x) = refl

directive_reads : (new : List Attr) (d : Directive) → directive_attributes (directive_with new d) ≡ new
directive_reads new (diagnostic attributes severity rule) = refl
directive_reads new (enabling attributes names) = refl
directive_reads new (requiring attributes names) = refl

directive_puts : (new old : List Attr) (d : Directive) → directive_with new (directive_with old d) ≡ directive_with new d
directive_puts new old (diagnostic attributes severity rule) = refl
directive_puts new old (enabling attributes names) = refl
directive_puts new old (requiring attributes names) = refl

pub lawful_statements : IsLawful of_statements
lawful_statements = record { reads = statement_reads; puts = statement_puts }

pub lawful_declarations : IsLawful of_declarations
lawful_declarations = record { reads = declaration_reads; puts = declaration_puts }

pub lawful_directives : IsLawful of_directives
lawful_directives = record { reads = directive_reads; puts = directive_puts }

pub lawful_members : IsLawful of_members
lawful_members = record { reads = λ new x. refl; puts = λ new old x. refl }

pub lawful_parameters : IsLawful of_parameters
lawful_parameters = record { reads = λ new x. refl; puts = λ new old x. refl }

pub lawful_imports : IsLawful of_imports
lawful_imports = record { reads = λ new x. refl; puts = λ new old x. refl }

-- ---- what is inside keeps its attributes

module _ (rewriting : Rewriting) where
  pub statement_keeps : (s : Stm) → statement_attributes (in_statement rewriting s) ≡ statement_attributes s
  statement_keeps (simple s) = refl
  statement_keeps (compound_statement (block attributes ss)) = refl
  statement_keeps (if_statement attributes x b more) = refl
  statement_keeps (switch_statement attributes x inner cs) = refl
  statement_keeps (loop_statement attributes b last) = refl
  statement_keeps (for_statement attributes first condition update b) = refl
  statement_keeps (while_statement attributes x b) = refl

  pub statement_moves : (new : List Attr) (s : Stm) → in_statement rewriting (statement_with new s) ≡ statement_with new (in_statement rewriting s)
  statement_moves new (simple s) = refl
  statement_moves new (compound_statement (block attributes ss)) = refl
  statement_moves new (if_statement attributes x b more) = refl
  statement_moves new (switch_statement attributes x inner cs) = refl
  statement_moves new (loop_statement attributes b last) = refl
  statement_moves new (for_statement attributes first condition update b) = refl
  statement_moves new (while_statement attributes x b) = refl

  pub declaration_keeps : (d : Decl) → declaration_attributes (in_declaration rewriting d) ≡ declaration_attributes d
  declaration_keeps (variable attributes kind name type value) = refl
  declaration_keeps (alias attributes name type) = refl
  declaration_keeps (structure attributes name members) = refl
  declaration_keeps (function attributes name params result_attributes result body) = refl
  declaration_keeps (assertion attributes x) = refl

  pub declaration_moves : (new : List Attr) (d : Decl) → in_declaration rewriting (declaration_with new d) ≡ declaration_with new (in_declaration rewriting d)
  declaration_moves new (variable attributes kind name type value) = refl
  declaration_moves new (alias attributes name type) = refl
  declaration_moves new (structure attributes name members) = refl
  declaration_moves new (function attributes name params result_attributes result body) = refl
  declaration_moves new (assertion attributes x) = refl

  pub each_is_map : (ss : List Stm) → in_each rewriting (from_list ss) ≡ map (in_statement rewriting) ss
  each_is_map [] = refl
  each_is_map (s ∷ ss) = ap (λ t. in_statement rewriting s ∷ t) (each_is_map ss)

-- ---- one rewriting behind another: where it comes to the second alone for each list, it does so for modules

module _ (first second : Rewriting)
    (absorbs : (T : Type 0) (has : HasAttributes T) → IsLawful has → (xs : List T) → second T has (first T has xs) ≡ second T has xs)
    (moves : (T : Type 0) (has : HasAttributes T) → IsLawful has → (h : T → T) → ((x : T) → has.attributes (h x) ≡ has.attributes x)
    → ((new : List Attr) (x : T) → h (has.with_attributes new x) ≡ has.with_attributes new (h x)) → (xs : List T) → map h (first T has xs) ≡ first T has (map h xs)) where
  -- a list of statements, whose insides come to the second alone
  in_list : (ss : Stms) → map (in_statement second) (in_each first ss) ≡ in_each second ss
      → second Stm of_statements (in_each second (from_list (first Stm of_statements (in_each first ss)))) ≡ second Stm of_statements (in_each second ss)
  in_list ss inside =
      ap (second Stm of_statements) (each_is_map second (first Stm of_statements (in_each first ss))
      ∙ moves Stm of_statements lawful_statements (in_statement second) (statement_keeps second) (statement_moves second) (in_each first ss)
      ∙ ap (first Stm of_statements) inside)
      ∙ absorbs Stm of_statements lawful_statements (in_each second ss)

  mutual
    statement_absorbs : (s : Stm) → in_statement second (in_statement first s) ≡ in_statement second s
    statement_absorbs (simple s) = refl
    statement_absorbs (compound_statement b) = ap compound_statement (block_absorbs b)
    statement_absorbs (if_statement attributes x b more) = λ i. if_statement attributes x (block_absorbs b i) (elses_absorb more i)
    statement_absorbs (switch_statement attributes x inner cs) = ap (switch_statement attributes x inner) (clauses_absorb cs)
    statement_absorbs (loop_statement attributes b last) = λ i. loop_statement attributes (block_absorbs b i) (continuing_absorbs last i)
    statement_absorbs (for_statement attributes start condition update b) = λ i. for_statement attributes (part_absorbs start i) condition (part_absorbs update i) (block_absorbs b i)
    statement_absorbs (while_statement attributes x b) = ap (while_statement attributes x) (block_absorbs b)

    each_absorbs : (ss : Stms) → map (in_statement second) (in_each first ss) ≡ in_each second ss
    each_absorbs nil = refl
    each_absorbs (cons s ss) = λ i. statement_absorbs s i ∷ each_absorbs ss i

    block_absorbs : (b : Block) → in_block second (in_block first b) ≡ in_block second b
    block_absorbs (block attributes ss) = ap (λ t. block attributes (from_list t)) (in_list ss (each_absorbs ss))

    elses_absorb : (e : Elses) → in_elses second (in_elses first e) ≡ in_elses second e
    elses_absorb no_else = refl
    elses_absorb (else_clause b) = ap else_clause (block_absorbs b)
    elses_absorb (else_if_clause x b more) = λ i. else_if_clause x (block_absorbs b i) (elses_absorb more i)

    clauses_absorb : (c : Clauses) → in_clauses second (in_clauses first c) ≡ in_clauses second c
    clauses_absorb no_clauses = refl
    clauses_absorb (switch_clause selectors b more) = λ i. switch_clause selectors (block_absorbs b i) (clauses_absorb more i)

    continuing_absorbs : (c : Continuing) → in_continuing second (in_continuing first c) ≡ in_continuing second c
    continuing_absorbs no_continuing = refl
    continuing_absorbs (continuing_statement attributes b condition) = ap (λ t. continuing_statement attributes t condition) (block_absorbs b)

    part_absorbs : (p : Part) → in_part second (in_part first p) ≡ in_part second p
    part_absorbs absent = refl
    part_absorbs (present s) = ap present (statement_absorbs s)

  declaration_absorbs : (d : Decl) → in_declaration second (in_declaration first d) ≡ in_declaration second d
  declaration_absorbs (variable attributes kind name type value) = refl
  declaration_absorbs (alias attributes name type) = refl
  declaration_absorbs (structure attributes name members) = ap (structure attributes name) (absorbs Member of_members lawful_members members)
  declaration_absorbs (function attributes name params result_attributes result body) = λ i.
      function attributes name (absorbs Param of_parameters lawful_parameters params i) result_attributes result (block_absorbs body i)
  declaration_absorbs (assertion attributes x) = refl

  declarations_absorb : (ds : List Decl) → map (in_declaration second) (map (in_declaration first) ds) ≡ map (in_declaration second) ds
  declarations_absorb [] = refl
  declarations_absorb (d ∷ ds) = λ i. declaration_absorbs d i ∷ declarations_absorb ds i

  declaration_list : (ds : List Decl)
      → second Decl of_declarations (map (in_declaration second) (first Decl of_declarations (map (in_declaration first) ds)))
      ≡ second Decl of_declarations (map (in_declaration second) ds)
  declaration_list ds =
      ap (second Decl of_declarations)
      (moves Decl of_declarations lawful_declarations (in_declaration second) (declaration_keeps second) (declaration_moves second) (map (in_declaration first) ds)
      ∙ ap (first Decl of_declarations) (declarations_absorb ds))
      ∙ absorbs Decl of_declarations lawful_declarations (map (in_declaration second) ds)

  pub unit_absorbs : (u : UnitTree) → in_unit second (in_unit first u) ≡ in_unit second u
  unit_absorbs u = λ i. record {
    imports = absorbs Importing of_imports lawful_imports u.imports i;
    directives = absorbs Directive of_directives lawful_directives u.directives i;
    declarations = declaration_list u.declarations i;
  }
