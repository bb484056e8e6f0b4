use Rattle.std.proofs.Common.{take, Ok}
use Rattle.wesl_visit_children.specs.Turns.{CalledInTurn}
use Rattle.std.specs.List.{flat_map}
use Rattle.wesl_visit_children.specs.Parts.{in_member_node}
use Rattle.wesl_visit_children.proofs.meet_modules.meet_members.Given as goal

abbrev pub invariant-loop-member : goal.invariant-loop-member
invariant-loop-member g l =
    g.W.ReadParts.ready l.w × CalledInTurn g.W.ReadParts.at l.initial.w (flat_map in_member_node (take l.member-index l.members)) (Ok tt) l.w
