use Rattle.std.proofs.Common.{◌≡◌, ◌++◌, drop}
use Rattle.wesl_mark.specs.Lists.{flats, OnlyGrows}
use Rattle.wgsl_expressions.specs.AttributesView.{attributes_tree}
use Rattle.wesl_marks.specs.Laid.{in_attrs}
use Rattle.wesl_marks.proofs.expressions.mark_attributes.Given as goal

abbrev pub invariant-loop-attribute : goal.invariant-loop-attribute
invariant-loop-attribute l = (flats l.list ++ in_attrs (attributes_tree (drop l.attribute-index l.attributes)) ≡ flats l.initial.list ++ in_attrs (attributes_tree l.attributes)) × OnlyGrows l.initial.list l.list
