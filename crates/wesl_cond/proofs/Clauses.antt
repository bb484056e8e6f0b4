-- Clauses of `if` and `switch`, and parts of `for`.
use Rattle.std.proofs.Common.{◌≡◌, refl, sym, ap, ◌∙◌, List, [], ◌∷◌, map, Option, Some, None}
use Rattle.std.specs.Option.{option_map, option_or}
use Rattle.wgsl_expressions.specs.Tree.{Exp}
use Rattle.wgsl_expressions.specs.View.{node_tree}
use Rattle.wgsl_expressions.specs.AttributesTree.{Attr}
use Rattle.wgsl_simple_statements.specs.Tree.{Selector}
use Rattle.wgsl_statements.specs.declared.statement.Statement.{Statement}
use Rattle.wgsl_statements.specs.declared.statement.ElseIfClauseOf.{ElseIfClauseOf}
use Rattle.wgsl_statements.specs.declared.statement.ElseClauseOf.{ElseClauseOf}
use Rattle.wgsl_statements.specs.declared.statement.SwitchClauseOf.{SwitchClauseOf}
use Rattle.wgsl_statements.specs.Tree.{Stm, if_statement, Block, Elses, else_if_clause, Clauses, no_clauses, switch_clause}
use Rattle.wgsl_statements.specs.View.{statement_tree, block_tree, else_layer, elses_layer, clauses_layer, part}
use Rattle.wesl_conditions.specs.declared.features.feature.Features.{Features}
use Rattle.wesl_conditions.specs.declared.features.error.CondCompError.{CondCompError}
use Rattle.wesl_conditions.specs.Faults.{block_fault, elses_fault, part_fault}
use Rattle.wesl_cond.specs.Leaving.{statement_left, block_left, elses_left, clauses_left, part_left, else_if_pair, switch_pair, pair_left}
use Rattle.wesl_cond.specs.Passing.{inside_statement, first_of}

or_assoc : (a b c : Option CondCompError) → option_or (option_or a b) c ≡ option_or a (option_or b c)
or_assoc None b c = refl
or_assoc (Some x) b c = refl

pub fault_of_elses : (features : Features) (cs : List (ElseIfClauseOf Statement)) (last : Option (ElseClauseOf Statement))
    → elses_fault features (elses_layer statement_tree cs last)
    ≡ option_or (first_of (map (λ c. block_fault features (block_tree c.body)) cs)) (elses_fault features (else_layer statement_tree last))
fault_of_elses features [] last = refl
fault_of_elses features (c ∷ cs) last =
    ap (option_or (block_fault features (block_tree c.body))) (fault_of_elses features cs last)
    ∙ sym (or_assoc (block_fault features (block_tree c.body)) (first_of (map (λ c. block_fault features (block_tree c.body)) cs)) (elses_fault features (else_layer statement_tree last)))

pub fault_of_part : (features : Features) (o : Option Stm) → part_fault features (part o) ≡ inside_statement features o
fault_of_part features None = refl
fault_of_part features (Some s) = refl

pub part_is_left : (features : Features) (o : Option Stm) → part (option_map (statement_left features) o) ≡ part_left features (part o)
part_is_left features None = refl
part_is_left features (Some s) = refl

-- clauses of `if`, by pairs
abbrev elses_of : List (Exp × Block) → Elses → Elses
elses_of [] last = last
elses_of (p ∷ ps) last = else_if_clause p.0 p.1 (elses_of ps last)

elses_by_pairs : (cs : List (ElseIfClauseOf Statement)) (last : Option (ElseClauseOf Statement))
    → elses_layer statement_tree cs last ≡ elses_of (map else_if_pair cs) (else_layer statement_tree last)
elses_by_pairs [] last = refl
elses_by_pairs (c ∷ cs) last = ap (else_if_clause (node_tree c.expression) (block_tree c.body)) (elses_by_pairs cs last)

pairs_left : (features : Features) (ps : List (Exp × Block)) (last : Elses) → elses_of (map (pair_left features) ps) (elses_left features last) ≡ elses_left features (elses_of ps last)
pairs_left features [] last = refl
pairs_left features (p ∷ ps) last = ap (else_if_clause p.0 (block_left features p.1)) (pairs_left features ps last)

elses_are_left : (features : Features) (old new : List (ElseIfClauseOf Statement)) (last last' : Option (ElseClauseOf Statement))
    → map else_if_pair new ≡ map (pair_left features) (map else_if_pair old)
    → else_layer statement_tree last' ≡ elses_left features (else_layer statement_tree last)
    → elses_layer statement_tree new last' ≡ elses_left features (elses_layer statement_tree old last)
elses_are_left features old new last last' pairs ends =
    elses_by_pairs new last' ∙ (λ i. elses_of (pairs i) (ends i)) ∙ pairs_left features (map else_if_pair old) (else_layer statement_tree last)
    ∙ sym (ap (elses_left features) (elses_by_pairs old last))

pub if_left : (features : Features) (attributes : List Attr) (condition : Exp) (body body' : Block) (old new : List (ElseIfClauseOf Statement)) (last last' : Option (ElseClauseOf Statement))
    → body' ≡ block_left features body → map else_if_pair new ≡ map (pair_left features) (map else_if_pair old)
    → else_layer statement_tree last' ≡ elses_left features (else_layer statement_tree last)
    → if_statement attributes condition body' (elses_layer statement_tree new last')
    ≡ statement_left features (if_statement attributes condition body (elses_layer statement_tree old last))
if_left features attributes condition body body' old new last last' block pairs ends = λ i.
    if_statement attributes condition (block i) (elses_are_left features old new last last' pairs ends i)

-- clauses of `switch`, by pairs
abbrev clauses_of : List (List Selector × Block) → Clauses
clauses_of [] = no_clauses
clauses_of (p ∷ ps) = switch_clause p.0 p.1 (clauses_of ps)

clauses_by_pairs : (cs : List (SwitchClauseOf Statement)) → clauses_layer statement_tree cs ≡ clauses_of (map switch_pair cs)
clauses_by_pairs [] = refl
clauses_by_pairs (c ∷ cs) = ap (switch_clause (switch_pair c).0 (block_tree c.body)) (clauses_by_pairs cs)

switch_pairs_left : (features : Features) (ps : List (List Selector × Block)) → clauses_of (map (pair_left features) ps) ≡ clauses_left features (clauses_of ps)
switch_pairs_left features [] = refl
switch_pairs_left features (p ∷ ps) = ap (switch_clause p.0 (block_left features p.1)) (switch_pairs_left features ps)

pub clauses_are_left : (features : Features) (old new : List (SwitchClauseOf Statement)) → map switch_pair new ≡ map (pair_left features) (map switch_pair old)
    → clauses_layer statement_tree new ≡ clauses_left features (clauses_layer statement_tree old)
clauses_are_left features old new pairs =
    clauses_by_pairs new ∙ ap clauses_of pairs ∙ switch_pairs_left features (map switch_pair old) ∙ sym (ap (clauses_left features) (clauses_by_pairs old))
