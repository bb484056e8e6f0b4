use Rattle.std.proofs.Common.{take, Ok}
use Rattle.wesl_visit_children.specs.Turns.{CalledInTurn}
use Rattle.std.specs.List.{flat_map}
use Rattle.wesl_visit_children.specs.Parts.{in_directive}
use Rattle.wesl_visit_children.proofs.meet_modules.meet_directives.Given as goal

abbrev pub invariant-loop-directive : goal.invariant-loop-directive
invariant-loop-directive g l =
    g.W.ReadParts.ready l.w × CalledInTurn g.W.ReadParts.at l.initial.w (flat_map in_directive (take l.directive-index l.directives)) (Ok tt) l.w
