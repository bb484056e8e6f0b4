use Rattle.std.proofs.Common.{take, Ok}
use Rattle.std.specs.List.{flat_map}
use Rattle.wesl_visit_children.specs.Turns.{CalledInTurn}
use Rattle.wesl_visit_children.specs.Parts.{in_expression}
use Rattle.wesl_visit_children.proofs.meet.meet_arguments.Given as goal

abbrev pub invariant-loop-argument : goal.invariant-loop-argument
invariant-loop-argument g l =
    g.W.ReadParts.ready l.w × CalledInTurn g.W.ReadParts.at l.initial.w (flat_map in_expression (take l.argument-index l.arguments)) (Ok tt) l.w
