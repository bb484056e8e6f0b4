use Rattle.std.proofs.Common.{◌≡◌, ◌++◌, drop}
use Rattle.std.specs.List.{flat_map}
use Rattle.wesl_visit_children.specs.Turns.{pointed}
use Rattle.wesl_visit.specs.Statements.{in_declaration_node}
use Rattle.wesl_visit.proofs.find.find_declarations.Given as goal

abbrev pub invariant-loop-declaration : goal.invariant-loop-declaration
invariant-loop-declaration l = pointed l.found.items ++ flat_map in_declaration_node (drop l.declaration-index l.declarations) ≡ pointed l.initial.found.items ++ flat_map in_declaration_node l.declarations
