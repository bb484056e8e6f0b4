use Rattle.wesl_visit_children.specs.Turns.{remade_none}
use Rattle.wesl_visit.proofs.change.change_declaration.Goals as goal

pub returns-in-Void-clause-changed : goal.returns-in-Void-clause-changed
returns-in-Void-clause-changed g c = rw c.in-Void.is remade_none

pub returns-in-Declaration-clause-changed : goal.returns-in-Declaration-clause-changed
returns-in-Declaration-clause-changed g c = rw c.in-Declaration.is remade_none

pub returns-in-TypeAlias-clause-changed : goal.returns-in-TypeAlias-clause-changed
returns-in-TypeAlias-clause-changed g c = rw c.in-TypeAlias.is remade_none

pub returns-in-Struct-clause-changed : goal.returns-in-Struct-clause-changed
returns-in-Struct-clause-changed g c = rw c.in-Struct.is remade_none

pub returns-in-ConstAssert-clause-changed : goal.returns-in-ConstAssert-clause-changed
returns-in-ConstAssert-clause-changed g c = rw c.in-ConstAssert.is remade_none
