use Rattle.std.proofs.Common.{◌≡◌, drop}
use Rattle.std.specs.List.{list_all}
use Rattle.core_syntax.specs.View.{attributes_tree}
use Rattle.core_narrowing.specs.InCore as spec
use Rattle.core_narrowing.proofs.in_core.are_attributes.Given as goal

abbrev pub invariant-loop-attribute : goal.invariant-loop-attribute
invariant-loop-attribute l = list_all spec.is_attribute (attributes_tree (drop l.attribute-index l.attributes)) ≡ list_all spec.is_attribute (attributes_tree l.attributes)
