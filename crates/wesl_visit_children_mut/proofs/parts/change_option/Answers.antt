use Rattle.wesl_visit_children.specs.Turns.{changed_none}
use Rattle.wesl_visit_children_mut.proofs.parts.change_option.Goals as goal

pub returns-in-None-clause-changed : goal.returns-in-None-clause-changed
returns-in-None-clause-changed g c = rw c.in-None.is changed_none
