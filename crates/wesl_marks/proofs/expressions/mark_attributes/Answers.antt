use Rattle.std.proofs.Common.{rules, arith}
use Rattle.std.proofs.lemmas.Grind.{common_steps}
use Rattle.wesl_marks.proofs.expressions.mark_attributes.Goals as goal

pub loop-attribute-preserved : goal.loop-attribute-preserved
loop-attribute-preserved c = (first_of (search rules, grind (arith, common_steps)), λ first h. c.in_ok-mark_attribute.ensures.grows first (c.loop-attribute.invariant.1 first h))
