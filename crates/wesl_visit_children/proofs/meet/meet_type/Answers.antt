use Rattle.wesl_visit_children.proofs.TurnsLemmas.{met_single}
use Rattle.wesl_visit_children.specs.Parts.{a_type}
use Rattle.wesl_visit_children.proofs.meet.meet_type.Goals as goal

pub returns-clause-met : goal.returns-clause-met
returns-clause-met g c = met_single g.W.ReadParts.at c.args.w.now c.ty.new.self (a_type c.args.ty.now) c.ty.result c.ty.ensures.done
