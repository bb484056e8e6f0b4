use Rattle.std.proofs.Common.{◌≡◌, map, take, []}
use Rattle.core_syntax.specs.View.{statement_tree}
use Rattle.core_link_spec.specs.Linked.{renamed_statement}
use Rattle.core_rename.proofs.rename.renamed_statements.Given as goal

abbrev pub invariant-loop-statement : goal.invariant-loop-statement
invariant-loop-statement g l = map (λ n. statement_tree n.node) l.renamed ≡ map (λ n. renamed_statement (g.N.Naming.gives l.naming) [] (statement_tree n.node)) (take l.statement-index l.statements)
