use Rattle.std.proofs.Common.{◌≡◌, drop}
use Rattle.std.specs.List.{list_any}
use Rattle.wgsl_expressions.specs.AttributesView.{attributes_tree}
use Rattle.wesl_marks.specs.Units.{is_stage}
use Rattle.wesl_marks.proofs.places.has_stage.Given as goal

abbrev pub invariant-loop-attribute : goal.invariant-loop-attribute
invariant-loop-attribute l = list_any is_stage (attributes_tree (drop l.attribute-index l.attributes)) ≡ list_any is_stage (attributes_tree l.attributes)
