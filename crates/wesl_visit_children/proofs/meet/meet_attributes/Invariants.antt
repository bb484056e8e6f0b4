use Rattle.std.proofs.Common.{take, Ok}
use Rattle.std.specs.List.{flat_map}
use Rattle.wesl_visit_children.specs.Turns.{CalledInTurn}
use Rattle.wesl_visit_children.specs.Parts.{in_attribute}
use Rattle.wesl_visit_children.proofs.meet.meet_attributes.Given as goal

abbrev pub invariant-loop-attribute : goal.invariant-loop-attribute
invariant-loop-attribute g l =
    g.W.ReadParts.ready l.w × CalledInTurn g.W.ReadParts.at l.initial.w (flat_map in_attribute (take l.attribute-index l.attributes)) (Ok tt) l.w
