use Rattle.wesl_visit_children.specs.Turns.{deep_none}
use Rattle.wesl_visit_expressions.proofs.expressions.meet.meet_custom.Goals as goal

pub returns-in-None-clause-met : goal.returns-in-None-clause-met
returns-in-None-clause-met g c = rw c.in-None.is deep_none
