use Rattle.std.proofs.Common.{◌≡◌, drop}
use Rattle.wgsl_expressions.specs.AttributesView.{attributes_tree}
use Rattle.wesl_conditions.specs.Chains.{marks}
use Rattle.wesl_cond_attributes.specs.Kinds.{kind, with_more}
use Rattle.wesl_cond_attributes.proofs.kind.kind_of.Given as goal

abbrev pub invariant-loop-attribute : goal.invariant-loop-attribute
invariant-loop-attribute l =
    with_more l.kind (marks (attributes_tree (drop l.attribute-index l.attribute-items))) ≡ kind (marks (attributes_tree l.attribute-items))
