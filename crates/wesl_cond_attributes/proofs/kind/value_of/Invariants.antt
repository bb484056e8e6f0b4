use Rattle.std.proofs.Common.{◌≡◌, drop}
use Rattle.wgsl_expressions.specs.AttributesView.{attributes_tree}
use Rattle.wesl_conditions.specs.Chains.{marks}
use Rattle.wesl_cond_attributes.specs.Kinds.{first_value}
use Rattle.wesl_cond_attributes.proofs.kind.value_of.Given as goal

abbrev pub invariant-loop-attribute : goal.invariant-loop-attribute
invariant-loop-attribute l =
    first_value l.features (marks (attributes_tree (drop l.attribute-index l.attribute-items))) ≡ first_value l.features (marks (attributes_tree l.attribute-items))
