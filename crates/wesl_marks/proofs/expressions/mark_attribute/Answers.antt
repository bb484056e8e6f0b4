use Rattle.wesl_marks.proofs.Steps.{grown}
use Rattle.wesl_marks.proofs.expressions.mark_attribute.Goals as goal

pub returns-in_ok-mark_optional-in-WorkgroupSize-clause-grows : goal.returns-in_ok-mark_optional-in-WorkgroupSize-clause-grows
returns-in_ok-mark_optional-in-WorkgroupSize-clause-grows c = grown c.mark_optional-in-WorkgroupSize.result _ _ _ (λ first h. c.in_ok-mark_optional-in-WorkgroupSize.ensures.grows first (c.in_ok-mark_expression-in-WorkgroupSize.ensures.grows first h)) c.mark_optional-in-WorkgroupSize.ensures.grows
