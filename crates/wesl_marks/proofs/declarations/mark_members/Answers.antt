use Rattle.std.proofs.Common.{rules, arith}
use Rattle.std.proofs.lemmas.Grind.{common_steps}
use Rattle.wesl_marks.proofs.declarations.mark_members.Goals as goal

pub loop-member-preserved : goal.loop-member-preserved
loop-member-preserved c = (first_of (search rules, grind (arith, common_steps)), λ first h. c.in_ok-member.ensures.grows first (c.in_ok-mark_type.ensures.grows first (c.in_ok-mark_attributes.ensures.grows first (c.loop-member.invariant.1 first h))))
