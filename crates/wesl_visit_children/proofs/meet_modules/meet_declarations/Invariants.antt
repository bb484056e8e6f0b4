use Rattle.std.proofs.Common.{take, Ok}
use Rattle.wesl_visit_children.specs.Turns.{CalledInTurn}
use Rattle.std.specs.List.{flat_map}
use Rattle.wesl_visit_children.specs.Parts.{in_declaration_node}
use Rattle.wesl_visit_children.proofs.meet_modules.meet_declarations.Given as goal

abbrev pub invariant-loop-declaration : goal.invariant-loop-declaration
invariant-loop-declaration g l =
    g.W.ReadParts.ready l.w × CalledInTurn g.W.ReadParts.at l.initial.w (flat_map in_declaration_node (take l.declaration-index l.declarations)) (Ok tt) l.w
