use Rattle.wesl_marks.proofs.Steps.{grown}
use Rattle.wesl_marks.proofs.declarations.mark_signature.Goals as goal

pub returns-clause-grows : goal.returns-clause-grows
returns-clause-grows c = grown c.mark_optional_type.result _ _ _ (λ first h. c.in_ok-mark_attributes-2.ensures.grows first (c.in_ok-mark_parameters.ensures.grows first (c.in_ok-declared.ensures.grows first (c.in_ok-mark_attributes.ensures.grows first h)))) c.mark_optional_type.ensures.grows
