use Rattle.std.proofs.Common.{◌≡◌, ◌++◌, drop}
use Rattle.std.specs.List.{flat_map}
use Rattle.wesl_visit_children.specs.Turns.{pointed}
use Rattle.wesl_visit_children.specs.Listed.{part_of}
use Rattle.wesl_visit_children_mut.specs.Attributes.{in_part}
use Rattle.wesl_visit_children_mut.proofs.attributes.parts.find_attributes.Given as goal

abbrev pub invariant-loop-part : goal.invariant-loop-part
invariant-loop-part l =
    pointed l.attributes.items ++ flat_map (λ r. in_part (part_of r)) (drop l.part-index l.found)
    ≡ pointed l.initial.attributes.items ++ flat_map (λ r. in_part (part_of r)) l.found
