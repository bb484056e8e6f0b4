use Rattle.std.proofs.Common.{rules, arith}
use Rattle.std.proofs.lemmas.Grind.{common_steps}
use Rattle.wesl_marks.proofs.expressions.mark_each.Goals as goal

pub loop-node-preserved : goal.loop-node-preserved
loop-node-preserved c = (first_of (search rules, grind (arith, common_steps)), λ first h. c.in_ok-mark_expression.ensures.grows first (c.loop-node.invariant.1 first h))
