use Rattle.std.proofs.Common.{◌≡◌, drop}
use Rattle.wgsl_expressions.specs.AttributesView.{attributes_tree}
use Rattle.wesl_conditions.specs.Chains.{marks}
use Rattle.wesl_cond_attributes.specs.Kinds.{first_condition_fault}
use Rattle.wesl_cond_attributes.proofs.check.check_expression.Given as goal

abbrev pub invariant-loop-attribute : goal.invariant-loop-attribute
invariant-loop-attribute l =
    first_condition_fault l.features (marks (attributes_tree (drop l.attribute-index l.attribute-items)))
    ≡ first_condition_fault l.features (marks (attributes_tree l.attribute-items))
