use Rattle.wesl_marks.proofs.Steps.{grown, always}
use Rattle.wesl_marks.proofs.statements.mark_value.Goals as goal

pub returns-clause-grows : goal.returns-clause-grows
returns-clause-grows c = grown c.local.result _ _ _ (λ first h. c.in_ok-mark_optional.ensures.grows first (c.in_ok-mark_optional_type.ensures.grows first (c.in_ok-mark_attributes.ensures.grows first h))) (always c.local.result c.local.ensures.grows)
