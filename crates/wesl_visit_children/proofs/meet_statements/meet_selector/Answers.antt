use Rattle.wesl_visit_children.specs.Turns.{called_none}
use Rattle.wesl_visit_children.proofs.meet_statements.meet_selector.Goals as goal

pub returns-in-Default-clause-met : goal.returns-in-Default-clause-met
returns-in-Default-clause-met g c = rw c.in-Default.is called_none

pub returns-in-Expression-clause-met : goal.returns-in-Expression-clause-met
returns-in-Expression-clause-met g c = rw c.in-Expression.is c.meet_expression.ensures.met
