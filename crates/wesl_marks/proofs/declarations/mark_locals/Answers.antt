use Rattle.std.proofs.Common.{rules, arith}
use Rattle.std.proofs.lemmas.Grind.{common_steps}
use Rattle.wesl_marks.proofs.declarations.mark_locals.Goals as goal

pub loop-x-preserved : goal.loop-x-preserved
loop-x-preserved c = (first_of (search rules, grind (arith, common_steps)), λ first h. c.in_ok-local.ensures.grows first (c.loop-x.invariant.1 first h))
