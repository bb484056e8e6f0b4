use Rattle.wesl_visit_children.specs.Turns.{called_none}
use Rattle.wesl_visit_children.proofs.meet_modules.meet_declaration.Goals as goal

pub returns-in-Void-clause-met : goal.returns-in-Void-clause-met
returns-in-Void-clause-met g c = rw c.in-Void.is called_none

pub returns-in-Declaration-clause-met : goal.returns-in-Declaration-clause-met
returns-in-Declaration-clause-met g c = rw c.in-Declaration.is c.meet_declared.ensures.met

pub returns-in-ConstAssert-clause-met : goal.returns-in-ConstAssert-clause-met
returns-in-ConstAssert-clause-met g c = rw c.in-ConstAssert.is c.meet_const_assert.ensures.met
