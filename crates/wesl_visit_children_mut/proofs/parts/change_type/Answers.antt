use Rattle.wesl_visit_children.proofs.TurnsLemmas.{changed_single}
use Rattle.wesl_visit_children.specs.Parts.{a_type}
use Rattle.wesl_visit_children_mut.proofs.parts.change_type.Goals as goal

pub returns-clause-changed : goal.returns-clause-changed
returns-clause-changed g c = changed_single g.W.WriteParts.at c.args.w.now c.ty.new.self (a_type c.args.ty.now) (a_type c.ty.new.ty) c.ty.result c.ty.ensures.done
