use Rattle.wesl_visit_children.proofs.TurnsLemmas.{changed_single}
use Rattle.wesl_visit_children.specs.Parts.{an_attribute}
use Rattle.wesl_visit_children_mut.proofs.parts.change_attribute.Goals as goal

pub returns-clause-changed : goal.returns-clause-changed
returns-clause-changed g c = changed_single g.W.WriteParts.at c.args.w.now c.attribute.new.self (an_attribute c.args.attribute.now) (an_attribute c.attribute.new.attribute) c.attribute.result c.attribute.ensures.done
