use Rattle.wesl_marks.proofs.Steps.{grown, always}
use Rattle.wesl_marks.proofs.declarations.mark_function.Goals as goal

pub returns-clause-grows : goal.returns-clause-grows
returns-clause-grows c = grown c.leave.result _ _ _ (λ first h. c.in_ok-mark_statements.ensures.grows first (c.in_ok-mark_locals.ensures.grows first (c.in_ok-enter.ensures.grows first (c.in_ok-mark_attributes.ensures.grows first (c.in_ok-mark_signature.ensures.grows first h))))) (always c.leave.result c.leave.ensures.grows)
