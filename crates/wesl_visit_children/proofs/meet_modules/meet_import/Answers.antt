use Rattle.wesl_visit_children.proofs.meet_modules.meet_import.Goals as goal

pub returns-clause-met : goal.returns-clause-met
returns-clause-met g c = rw c.as_slice.ensures at c.meet_attributes.ensures.met
