-- Modules whose conditions features have settled.
use Rattle.std.proofs.Common.{◌≡◌, refl, sym, ap, ◌∙◌, List, [], ◌∷◌, map, Option, None}
use Rattle.std.specs.Option.{option_or}
use Rattle.wgsl_expressions.specs.AttributesTree.{Attr}
use Rattle.wgsl_statements.specs.Tree.{Stm, simple, compound_statement, if_statement, switch_statement, loop_statement, for_statement, while_statement, Stms, nil, cons, Block, block, Elses, no_else, else_clause, else_if_clause, Clauses, no_clauses, switch_clause, Continuing, no_continuing, continuing_statement, Part, absent, present}
use Rattle.wgsl_declarations.specs.Tree.{Decl, variable, alias, structure, function, assertion, UnitTree}
use Rattle.wesl_conditions.specs.declared.features.feature.Features.{Features}
use Rattle.wesl_conditions.specs.declared.features.error.CondCompError.{CondCompError}
use Rattle.wesl_conditions.specs.Conditions.{Choice, Admits}
use Rattle.wesl_conditions.specs.Chains.{HasAttributes, marks_of, chosen, left}
use Rattle.wesl_conditions.specs.Seen.{Seen, list_fault}
use Rattle.wesl_conditions.specs.Trees.{of_statements, of_declarations, of_members, of_parameters, of_imports, of_directives, statement_with, declaration_with, Rewriting, from_list, in_statement, in_each, in_block, in_elses, in_clauses, in_continuing, in_part, in_declaration, unit_under, unit_left}
use Rattle.wesl_conditions.specs.Faults.{flat_fault, statement_fault, seen_statements, block_fault, elses_fault, clauses_fault, continuing_fault, part_fault, declaration_fault, declarations_fault, unit_fault}
use Rattle.wesl_cond_laws.proofs.Simplifying.{first_none, second_none}
use Rattle.wesl_cond_laws.proofs.Standings.{IsLawful}
use Rattle.wesl_cond_laws.proofs.Keeping.{left_means_the_same}
use Rattle.wesl_cond_laws.proofs.Again.{left_twice, left_map}
use Rattle.wesl_cond_laws.proofs.Faultless.{Improves, left_faultless}
use Rattle.wesl_cond_laws.proofs.Trees.{lawful_statements, lawful_declarations, lawful_members, lawful_parameters, lawful_imports, lawful_directives, statement_keeps, declaration_keeps, unit_absorbs}

abbrev leaving : Features → Rewriting
leaving features = λ T has items. left features has items

abbrev choosing : Choice → Rewriting
choosing choice = λ T has items. chosen choice has items

pub meaning_stays : (features : Features) (choice : Choice) (u : UnitTree) → Admits features choice → unit_under choice (unit_left features u) ≡ unit_under choice u
meaning_stays features choice u admits =
    unit_absorbs (leaving features) (choosing choice) (λ T has law xs. left_means_the_same features choice admits has law xs)
    (λ T has law h reads puts xs. left_map features has law h reads puts xs) u

pub twice_is_once : (features : Features) (u : UnitTree) → unit_left features (unit_left features u) ≡ unit_left features u
twice_is_once features u =
    unit_absorbs (leaving features) (leaving features) (λ T has law xs. left_twice features has law xs)
    (λ T has law h reads puts xs. left_map features has law h reads puts xs) u

-- ---- no error

block_within : (features : Features) (new : List Attr) (s : Stm) → statement_fault features (statement_with new s) ≡ statement_fault features s
block_within features new (simple s) = refl
block_within features new (compound_statement (block attributes ss)) = refl
block_within features new (if_statement attributes x b more) = refl
block_within features new (switch_statement attributes x inner cs) = refl
block_within features new (loop_statement attributes b last) = refl
block_within features new (for_statement attributes first condition update b) = refl
block_within features new (while_statement attributes x b) = refl

declaration_within : (features : Features) (new : List Attr) (d : Decl) → declaration_fault features (declaration_with new d) ≡ declaration_fault features d
declaration_within features new (variable attributes kind name type value) = refl
declaration_within features new (alias attributes name type) = refl
declaration_within features new (structure attributes name members) = refl
declaration_within features new (function attributes name params result_attributes result body) = refl
declaration_within features new (assertion attributes x) = refl

module _ (features : Features) where
  abbrev L : Rewriting
  L = leaving features

  abbrev Clean : Option CondCompError → Type 0
  Clean fault = fault ≡ None

  both : (p q r s : Option CondCompError) → (Clean p → Clean r) → (Clean q → Clean s) → Clean (option_or p q) → Clean (option_or r s)
  both p q r s f g h = λ i. option_or (f (first_none features p q h) i) (g (second_none features p q h) i)

  abbrev see_statement : Stm → Seen
  see_statement s = record { conditions = marks_of of_statements s; inside = statement_fault features s }

  abbrev see_declaration : Decl → Seen
  see_declaration d = record { conditions = marks_of of_declarations d; inside = declaration_fault features d }

  abbrev to_list : Stms → List Stm
  to_list nil = []
  to_list (cons s ss) = s ∷ to_list ss

  seen_each : (ss : Stms) → seen_statements features ss ≡ map see_statement (to_list ss)
  seen_each nil = refl
  seen_each (cons s ss) = ap (λ t. see_statement s ∷ t) (seen_each ss)

  seen_list : (ss : List Stm) → seen_statements features (from_list ss) ≡ map see_statement ss
  seen_list [] = refl
  seen_list (s ∷ ss) = ap (λ t. see_statement s ∷ t) (seen_list ss)

  -- items with nothing inside
  same_items : {T : Type 0} (has : HasAttributes T) (law : IsLawful has) (xs : List T)
      → Improves features has law (λ x. None) (λ new x. refl) xs xs
  same_items has law [] = tt
  same_items has law (x ∷ xs) = (refl, λ h. h, same_items has law xs)

  pub flat_clean : {T : Type 0} (has : HasAttributes T) (law : IsLawful has) (xs : List T)
      → Clean (flat_fault has features xs) → Clean (flat_fault has features (left features has xs))
  flat_clean has law xs h = left_faultless features has law (λ x. None) (λ new x. refl) xs xs (same_items has law xs) h

  in_list : (ss : Stms) → Improves features of_statements lawful_statements (statement_fault features) (block_within features) (to_list ss) (in_each L ss)
      → Clean (list_fault features (seen_statements features ss)) → Clean (list_fault features (seen_statements features (from_list (left features of_statements (in_each L ss)))))
  in_list ss improves h =
      ap (list_fault features) (seen_list (left features of_statements (in_each L ss)))
      ∙ left_faultless features of_statements lawful_statements (statement_fault features) (block_within features) (to_list ss) (in_each L ss) improves
      (ap (list_fault features) (sym (seen_each ss)) ∙ h)

  mutual
    statement_clean : (s : Stm) → Clean (statement_fault features s) → Clean (statement_fault features (in_statement L s))
    statement_clean (simple s) h = refl
    statement_clean (compound_statement b) h = block_clean b h
    statement_clean (if_statement attributes x b more) h =
        both (block_fault features b) (elses_fault features more) (block_fault features (in_block L b)) (elses_fault features (in_elses L more)) (block_clean b) (elses_clean more) h
    statement_clean (switch_statement attributes x inner cs) h = clauses_clean cs h
    statement_clean (loop_statement attributes b last) h =
        both (block_fault features b) (continuing_fault features last) (block_fault features (in_block L b)) (continuing_fault features (in_continuing L last)) (block_clean b) (continuing_clean last) h
    statement_clean (for_statement attributes first condition update b) h =
        both (part_fault features first) (option_or (part_fault features update) (block_fault features b)) (part_fault features (in_part L first))
        (option_or (part_fault features (in_part L update)) (block_fault features (in_block L b))) (part_clean first)
        (both (part_fault features update) (block_fault features b) (part_fault features (in_part L update)) (block_fault features (in_block L b)) (part_clean update) (block_clean b)) h
    statement_clean (while_statement attributes x b) h = block_clean b h

    each_improves : (ss : Stms) → Improves features of_statements lawful_statements (statement_fault features) (block_within features) (to_list ss) (in_each L ss)
    each_improves nil = tt
    each_improves (cons s ss) = (statement_keeps L s, statement_clean s, each_improves ss)

    block_clean : (b : Block) → Clean (block_fault features b) → Clean (block_fault features (in_block L b))
    block_clean (block attributes ss) h = in_list ss (each_improves ss) h

    elses_clean : (e : Elses) → Clean (elses_fault features e) → Clean (elses_fault features (in_elses L e))
    elses_clean no_else h = refl
    elses_clean (else_clause b) h = block_clean b h
    elses_clean (else_if_clause x b more) h =
        both (block_fault features b) (elses_fault features more) (block_fault features (in_block L b)) (elses_fault features (in_elses L more)) (block_clean b) (elses_clean more) h

    clauses_clean : (c : Clauses) → Clean (clauses_fault features c) → Clean (clauses_fault features (in_clauses L c))
    clauses_clean no_clauses h = refl
    clauses_clean (switch_clause selectors b more) h =
        both (block_fault features b) (clauses_fault features more) (block_fault features (in_block L b)) (clauses_fault features (in_clauses L more)) (block_clean b) (clauses_clean more) h

    continuing_clean : (c : Continuing) → Clean (continuing_fault features c) → Clean (continuing_fault features (in_continuing L c))
    continuing_clean no_continuing h = refl
    continuing_clean (continuing_statement attributes b condition) h = block_clean b h

    part_clean : (p : Part) → Clean (part_fault features p) → Clean (part_fault features (in_part L p))
    part_clean absent h = refl
    part_clean (present s) h = statement_clean s h

  declaration_clean : (d : Decl) → Clean (declaration_fault features d) → Clean (declaration_fault features (in_declaration L d))
  declaration_clean (variable attributes kind name type value) h = refl
  declaration_clean (alias attributes name type) h = refl
  declaration_clean (structure attributes name members) h = flat_clean of_members lawful_members members h
  declaration_clean (function attributes name params result_attributes result body) h =
      both (flat_fault of_parameters features params) (block_fault features body) (flat_fault of_parameters features (left features of_parameters params)) (block_fault features (in_block L body))
      (flat_clean of_parameters lawful_parameters params) (block_clean body) h
  declaration_clean (assertion attributes x) h = refl

  declarations_improve : (ds : List Decl)
      → Improves features of_declarations lawful_declarations (declaration_fault features) (declaration_within features) ds (map (in_declaration L) ds)
  declarations_improve [] = tt
  declarations_improve (d ∷ ds) = (declaration_keeps L d, declaration_clean d, declarations_improve ds)

  declarations_clean : (ds : List Decl) → Clean (declarations_fault features ds) → Clean (declarations_fault features (left features of_declarations (map (in_declaration L) ds)))
  declarations_clean ds h =
      left_faultless features of_declarations lawful_declarations (declaration_fault features) (declaration_within features) ds (map (in_declaration L) ds) (declarations_improve ds) h

  pub no_fault_is_made : (u : UnitTree) → unit_fault features u ≡ None → unit_fault features (unit_left features u) ≡ None
  no_fault_is_made u h =
      both (flat_fault of_imports features u.imports) (option_or (flat_fault of_directives features u.directives) (declarations_fault features u.declarations))
      (flat_fault of_imports features (left features of_imports u.imports))
      (option_or (flat_fault of_directives features (left features of_directives u.directives)) (declarations_fault features (left features of_declarations (map (in_declaration L) u.declarations))))
      (flat_clean of_imports lawful_imports u.imports)
      (both (flat_fault of_directives features u.directives) (declarations_fault features u.declarations) (flat_fault of_directives features (left features of_directives u.directives))
      (declarations_fault features (left features of_declarations (map (in_declaration L) u.declarations))) (flat_clean of_directives lawful_directives u.directives) (declarations_clean u.declarations)) h
