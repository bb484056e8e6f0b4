use Rattle.std.proofs.Common.{◌≡◌, ◌++◌, drop}
use Rattle.std.specs.List.{flat_map}
use Rattle.wesl_visit_children.specs.Turns.{pointed}
use Rattle.wesl_visit_children.specs.Listed.{part_of}
use Rattle.wesl_visit_in_modules.specs.TypesModules.{in_part}
use Rattle.wesl_visit_in_modules.proofs.types.parts.find_types.Given as goal

abbrev pub invariant-loop-part : goal.invariant-loop-part
invariant-loop-part l =
    pointed l.found.items ++ flat_map (λ r. in_part (part_of r)) (drop l.part-index l.listed)
    ≡ pointed l.initial.found.items ++ flat_map (λ r. in_part (part_of r)) l.listed
