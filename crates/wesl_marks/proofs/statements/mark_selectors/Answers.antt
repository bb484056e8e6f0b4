use Rattle.std.proofs.Common.{rules, arith}
use Rattle.std.proofs.lemmas.Grind.{common_steps}
use Rattle.wesl_marks.proofs.statements.mark_selectors.Goals as goal

pub loop-selector-preserved : goal.loop-selector-preserved
loop-selector-preserved c = (first_of (search rules, grind (arith, common_steps)), λ first h. c.in_ok-mark_selector.ensures.grows first (c.loop-selector.invariant.1 first h))
