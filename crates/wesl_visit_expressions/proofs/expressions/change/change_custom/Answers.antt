use Rattle.wesl_visit_children.specs.Turns.{remade_none}
use Rattle.wesl_visit_expressions.proofs.expressions.change.change_custom.Goals as goal

pub returns-in-None-clause-changed : goal.returns-in-None-clause-changed
returns-in-None-clause-changed g c = rw c.in-None.is remade_none
