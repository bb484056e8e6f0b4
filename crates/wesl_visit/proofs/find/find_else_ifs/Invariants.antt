use Rattle.std.proofs.Common.{◌≡◌, ◌++◌, drop}
use Rattle.std.specs.List.{flat_map}
use Rattle.wesl_visit_children.specs.Turns.{pointed}
use Rattle.wesl_visit.specs.Statements.{in_else_if}
use Rattle.wesl_visit.proofs.find.find_else_ifs.Given as goal

abbrev pub invariant-loop-clause : goal.invariant-loop-clause
invariant-loop-clause l = pointed l.found.items ++ flat_map in_else_if (drop l.clause-index l.clauses) ≡ pointed l.initial.found.items ++ flat_map in_else_if l.clauses
