use Rattle.wesl_visit_children.specs.Turns.{deep_none}
use Rattle.wesl_visit_expressions.proofs.types.meet.meet_option.Goals as goal

pub returns-in-None-clause-met : goal.returns-in-None-clause-met
returns-in-None-clause-met g c = rw c.in-None.is deep_none
