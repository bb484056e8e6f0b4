use Rattle.std.proofs.Common.{arith}
use Rattle.std.proofs.lemmas.Grind.{common_steps}
use Rattle.wesl_visit_children.proofs.Listed.{in_listed}
use Rattle.wesl_visit_children_mut.specs.Attributes.{in_part}
use Rattle.wesl_visit_children_mut.proofs.attributes.parts.find_attributes.Goals as goal

pub returns : goal.returns
returns c = rw (in_listed in_part c.args.found.now) (grind (arith, common_steps))
