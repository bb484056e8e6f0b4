use Rattle.wesl_marks.proofs.Steps.{grown}
use Rattle.wesl_marks.proofs.declarations.mark_alias.Goals as goal

pub returns-clause-grows : goal.returns-clause-grows
returns-clause-grows c = grown c.mark_type.result _ _ _ (λ first h. c.in_ok-declared.ensures.grows first (c.in_ok-mark_attributes.ensures.grows first h)) c.mark_type.ensures.grows
