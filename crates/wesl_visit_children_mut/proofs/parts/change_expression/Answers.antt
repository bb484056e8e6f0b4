use Rattle.wesl_visit_children.proofs.TurnsLemmas.{changed_single}
use Rattle.wesl_visit_children.specs.Parts.{an_expression}
use Rattle.wesl_visit_children_mut.proofs.parts.change_expression.Goals as goal

pub returns-clause-changed : goal.returns-clause-changed
returns-clause-changed g c = changed_single g.W.WriteParts.at c.args.w.now c.expression.new.self (an_expression c.args.expression.now) (an_expression c.expression.new.expression) c.expression.result c.expression.ensures.done
