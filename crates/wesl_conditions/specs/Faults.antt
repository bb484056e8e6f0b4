-- The first error of the conditions of a module.
use Rattle.std.specs.Prelude.{List, [], ◌∷◌, map, Option, None}
use Rattle.std.specs.Option.{option_or}
use Rattle.wesl_conditions.specs.declared.features.feature.Features.{Features}
use Rattle.wesl_conditions.specs.declared.features.error.CondCompError.{CondCompError}
use Rattle.wgsl_declarations.specs.StatementsTree.{Stm, simple, compound_statement, if_statement, switch_statement, loop_statement, for_statement, while_statement, Stms, nil, cons, Block, block, Elses, no_else, else_clause, else_if_clause, Clauses, no_clauses, switch_clause, Continuing, no_continuing, continuing_statement, Part, absent, present}
use Rattle.wgsl_declarations.specs.Tree.{Decl, variable, alias, structure, function, assertion, UnitTree}
use Rattle.wesl_conditions.specs.Chains.{marks_of, HasAttributes}
use Rattle.wesl_conditions.specs.Seen.{Seen, list_fault}
use Rattle.wesl_conditions.specs.Trees.{of_statements, of_declarations, of_members, of_parameters, of_imports, of_directives}

-- items with nothing inside
abbrev pub flat_fault : {T : Type 0} → HasAttributes T → Features → List T → Option CondCompError
flat_fault has features xs = list_fault features (map (λ x. record { conditions = marks_of has x; inside = None }) xs)

abbrev mutual
  -- the first error inside a statement
  pub statement_fault : Features → Stm → Option CondCompError
  statement_fault features (simple s) = None
  statement_fault features (compound_statement b) = block_fault features b
  statement_fault features (if_statement attributes x b more) = option_or (block_fault features b) (elses_fault features more)
  statement_fault features (switch_statement attributes x inner cs) = clauses_fault features cs
  statement_fault features (loop_statement attributes b last) = option_or (block_fault features b) (continuing_fault features last)
  statement_fault features (for_statement attributes first condition update b) =
      option_or (part_fault features first) (option_or (part_fault features update) (block_fault features b))
  statement_fault features (while_statement attributes x b) = block_fault features b

  pub seen_statements : Features → Stms → List Seen
  seen_statements features nil = []
  seen_statements features (cons s ss) = record { conditions = marks_of of_statements s; inside = statement_fault features s } ∷ seen_statements features ss

  pub block_fault : Features → Block → Option CondCompError
  block_fault features (block attributes ss) = list_fault features (seen_statements features ss)

  pub elses_fault : Features → Elses → Option CondCompError
  elses_fault features no_else = None
  elses_fault features (else_clause b) = block_fault features b
  elses_fault features (else_if_clause x b more) = option_or (block_fault features b) (elses_fault features more)

  pub clauses_fault : Features → Clauses → Option CondCompError
  clauses_fault features no_clauses = None
  clauses_fault features (switch_clause selectors b more) = option_or (block_fault features b) (clauses_fault features more)

  pub continuing_fault : Features → Continuing → Option CondCompError
  continuing_fault features no_continuing = None
  continuing_fault features (continuing_statement attributes b condition) = block_fault features b

  pub part_fault : Features → Part → Option CondCompError
  part_fault features absent = None
  part_fault features (present s) = statement_fault features s

-- the first error inside a declaration
abbrev pub declaration_fault : Features → Decl → Option CondCompError
declaration_fault features (variable attributes kind name type value) = None
declaration_fault features (alias attributes name type) = None
declaration_fault features (structure attributes name members) = flat_fault of_members features members
declaration_fault features (function attributes name params result_attributes result body) =
    option_or (flat_fault of_parameters features params) (block_fault features body)
declaration_fault features (assertion attributes x) = None

abbrev pub declarations_fault : Features → List Decl → Option CondCompError
declarations_fault features ds = list_fault features (map (λ d. record { conditions = marks_of of_declarations d; inside = declaration_fault features d }) ds)

-- the first error of a module: imports, directives, declarations
abbrev pub unit_fault : Features → UnitTree → Option CondCompError
unit_fault features u =
    option_or (flat_fault of_imports features u.imports)
    (option_or (flat_fault of_directives features u.directives) (declarations_fault features u.declarations))
