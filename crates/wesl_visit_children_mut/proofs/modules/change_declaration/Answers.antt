use Rattle.wesl_visit_children.specs.Turns.{changed_none}
use Rattle.wesl_visit_children_mut.proofs.modules.change_declaration.Goals as goal

pub returns-in-Void-clause-changed : goal.returns-in-Void-clause-changed
returns-in-Void-clause-changed g c = rw c.in-Void.is changed_none

pub returns-in-Declaration-clause-changed : goal.returns-in-Declaration-clause-changed
returns-in-Declaration-clause-changed g c = rw c.in-Declaration.is c.change_declared.ensures.changed

pub returns-in-ConstAssert-clause-changed : goal.returns-in-ConstAssert-clause-changed
returns-in-ConstAssert-clause-changed g c = rw c.in-ConstAssert.is c.change_const_assert.ensures.changed
