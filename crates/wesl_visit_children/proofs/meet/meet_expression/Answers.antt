use Rattle.wesl_visit_children.proofs.TurnsLemmas.{met_single}
use Rattle.wesl_visit_children.specs.Parts.{an_expression}
use Rattle.wesl_visit_children.proofs.meet.meet_expression.Goals as goal

pub returns-clause-met : goal.returns-clause-met
returns-clause-met g c = met_single g.W.ReadParts.at c.args.w.now c.expression.new.self (an_expression c.args.expression.now) c.expression.result c.expression.ensures.done
