use Rattle.std.proofs.Common.{◌≡◌, ◌++◌, drop}
use Rattle.std.specs.List.{flat_map}
use Rattle.wesl_visit_children.specs.Turns.{pointed}
use Rattle.wesl_visit.specs.Statements.{in_clause}
use Rattle.wesl_visit.proofs.find.find_clauses.Given as goal

abbrev pub invariant-loop-clause : goal.invariant-loop-clause
invariant-loop-clause l = pointed l.found.items ++ flat_map in_clause (drop l.clause-index l.clauses) ≡ pointed l.initial.found.items ++ flat_map in_clause l.clauses
