use Rattle.wesl_visit_children.specs.Turns.{changed_none}
use Rattle.wesl_visit_children_mut.proofs.statements.change_selector.Goals as goal

pub returns-in-Default-clause-changed : goal.returns-in-Default-clause-changed
returns-in-Default-clause-changed g c = rw c.in-Default.is changed_none

pub returns-in-Expression-clause-changed : goal.returns-in-Expression-clause-changed
returns-in-Expression-clause-changed g c = rw c.in-Expression.is c.change_expression.ensures.changed
