use Rattle.wgsl_expressions.specs.AttributesView as whole
use Rattle.core_syntax.specs.View.{attribute_tree}
use Rattle.core_narrowing.specs.Widening.{widen_attr}
use Rattle.core_widening.proofs.Widened.{all_of}
use Rattle.core_widening.proofs.expressions.widen_attributes.Goals as goal

pub returns : goal.returns
returns c =
    all_of widen_attr (λ n. attribute_tree n.node) (λ n. whole.attribute_tree n.node) c.args.attributes.now c.loop-attribute.attribute-index c.loop-attribute.widened c.loop-attribute-test.false c.loop-attribute.invariant
