use Rattle.wesl_marks.proofs.Steps.{grown}
use Rattle.wesl_marks.proofs.statements.mark_marked.Goals as goal

pub returns-clause-grows : goal.returns-clause-grows
returns-clause-grows c = grown c.mark_expression.result _ _ _ (λ first h. c.in_ok-mark_attributes.ensures.grows first h) c.mark_expression.ensures.grows
