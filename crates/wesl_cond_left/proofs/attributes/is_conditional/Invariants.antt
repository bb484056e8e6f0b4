use Rattle.std.proofs.Common.{◌≡◌, drop}
use Rattle.wgsl_expressions.specs.AttributesView.{attributes_tree}
use Rattle.wesl_cond_left.specs.Open.{is_open}
use Rattle.wesl_cond_left.proofs.attributes.is_conditional.Given as goal

abbrev pub invariant-loop-attribute : goal.invariant-loop-attribute
invariant-loop-attribute l = is_open (attributes_tree (drop l.attribute-index l.attribute-items)) ≡ is_open (attributes_tree l.attribute-items)
