use Rattle.wesl_visit_children.proofs.TurnsLemmas.{met_single}
use Rattle.wesl_visit_children.specs.Parts.{an_attribute}
use Rattle.wesl_visit_children.proofs.meet.meet_attribute.Goals as goal

pub returns-clause-met : goal.returns-clause-met
returns-clause-met g c = met_single g.W.ReadParts.at c.args.w.now c.attribute.new.self (an_attribute c.args.attribute.now) c.attribute.result c.attribute.ensures.done
