use Rattle.std.proofs.Common.{◌≡◌, ◌++◌, drop}
use Rattle.std.specs.List.{flat_map}
use Rattle.wesl_visit_children.specs.Parts.{in_attribute}
use Rattle.wesl_visit_children.specs.Listed.{parts}
use Rattle.wesl_visit_children.proofs.find.find_attributes.Given as goal

abbrev pub invariant-loop-attribute : goal.invariant-loop-attribute
invariant-loop-attribute l = parts l.found.items ++ flat_map in_attribute (drop l.attribute-index l.attributes) ≡ parts l.initial.found.items ++ flat_map in_attribute l.attributes
