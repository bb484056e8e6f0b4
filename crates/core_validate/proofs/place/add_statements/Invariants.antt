use Rattle.std.proofs.Common.{◌≡◌, ◌++◌, drop, map}
use Rattle.std.specs.List.{flat_map}
use Rattle.core_syntax.specs.View.{statement_tree}
use Rattle.core_validate.specs.Scopes.{statement_places}
use Rattle.core_validate.specs.Lookups.{lookup, local_names}
use Rattle.core_validate.proofs.place.add_statements.Given as goal

abbrev pub invariant-loop-statement : goal.invariant-loop-statement
invariant-loop-statement l =
    l.places ++ flat_map (statement_places (lookup l.index) (local_names l.locals)) (map (λ n. statement_tree n.node) (drop l.statement-index l.statements))
    ≡ l.initial.places ++ flat_map (statement_places (lookup l.index) (local_names l.locals)) (map (λ n. statement_tree n.node) l.statements)
