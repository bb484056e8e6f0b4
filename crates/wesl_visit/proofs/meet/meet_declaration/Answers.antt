use Rattle.wesl_visit_children.specs.Turns.{deep_none}
use Rattle.wesl_visit.proofs.meet.meet_declaration.Goals as goal

pub returns-in-Void-clause-met : goal.returns-in-Void-clause-met
returns-in-Void-clause-met g c = rw c.in-Void.is deep_none

pub returns-in-Declaration-clause-met : goal.returns-in-Declaration-clause-met
returns-in-Declaration-clause-met g c = rw c.in-Declaration.is deep_none

pub returns-in-TypeAlias-clause-met : goal.returns-in-TypeAlias-clause-met
returns-in-TypeAlias-clause-met g c = rw c.in-TypeAlias.is deep_none

pub returns-in-Struct-clause-met : goal.returns-in-Struct-clause-met
returns-in-Struct-clause-met g c = rw c.in-Struct.is deep_none

pub returns-in-ConstAssert-clause-met : goal.returns-in-ConstAssert-clause-met
returns-in-ConstAssert-clause-met g c = rw c.in-ConstAssert.is deep_none
