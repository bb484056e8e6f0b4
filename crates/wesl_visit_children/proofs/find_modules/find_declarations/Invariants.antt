use Rattle.std.proofs.Common.{◌≡◌, ◌++◌, drop}
use Rattle.wesl_visit_children.specs.Listed.{parts}
use Rattle.std.specs.List.{flat_map}
use Rattle.wesl_visit_children.specs.Parts.{in_declaration_node}
use Rattle.wesl_visit_children.proofs.find_modules.find_declarations.Given as goal

abbrev pub invariant-loop-declaration : goal.invariant-loop-declaration
invariant-loop-declaration l = parts l.found.items ++ flat_map in_declaration_node (drop l.declaration-index l.declarations) ≡ parts l.initial.found.items ++ flat_map in_declaration_node l.declarations
