use Rattle.std.proofs.Common.{◌≡◌, ◌++◌, drop, map}
use Rattle.std.specs.List.{flat_map}
use Rattle.core_syntax.specs.View.{statement_tree}
use Rattle.core_link_spec.specs.Occurrences.{in_statement}
use Rattle.core_rename.specs.Scopes.{texts}
use Rattle.core_rename.proofs.occurrence.add_block.Given as goal

abbrev pub invariant-loop-statement : goal.invariant-loop-statement
invariant-loop-statement l =
    texts l.found.items ++ flat_map (in_statement l.scope) (map (λ n. statement_tree n.node) (drop l.statement-index l.statement-items))
    ≡ texts l.initial.found.items ++ flat_map (in_statement l.scope) (map (λ n. statement_tree n.node) l.statement-items)
