use Rattle.wesl_visit_children.proofs.meet_modules.meet_directive.Goals as goal

pub returns-in-Diagnostic-clause-met : goal.returns-in-Diagnostic-clause-met
returns-in-Diagnostic-clause-met g c = rw c.in-Diagnostic.is (rw c.as_slice.ensures at c.meet_attributes.ensures.met)

pub returns-in-Enable-clause-met : goal.returns-in-Enable-clause-met
returns-in-Enable-clause-met g c = rw c.in-Enable.is (rw c.as_slice-in-Enable.ensures at c.meet_attributes-in-Enable.ensures.met)

pub returns-in-Requires-clause-met : goal.returns-in-Requires-clause-met
returns-in-Requires-clause-met g c = rw c.in-Requires.is (rw c.as_slice-in-Requires.ensures at c.meet_attributes-in-Requires.ensures.met)
