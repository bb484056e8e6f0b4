use Rattle.std.proofs.Common.{◌≡◌, take, map}
use Rattle.wgsl_expressions.specs.AttributesView as whole
use Rattle.core_syntax.specs.View.{attribute_tree}
use Rattle.core_narrowing.specs.Widening.{widen_attr}
use Rattle.core_widening.proofs.expressions.widen_attributes.Given as goal

abbrev pub invariant-loop-attribute : goal.invariant-loop-attribute
invariant-loop-attribute l = whole.attributes_tree l.widened ≡ map (λ n. widen_attr (attribute_tree n.node)) (take l.attribute-index l.attributes)
