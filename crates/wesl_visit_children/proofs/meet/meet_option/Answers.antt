use Rattle.wesl_visit_children.specs.Turns.{called_none}
use Rattle.wesl_visit_children.proofs.meet.meet_option.Goals as goal

pub returns-in-None-clause-met : goal.returns-in-None-clause-met
returns-in-None-clause-met g c = rw c.in-None.is called_none
