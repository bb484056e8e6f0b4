use Rattle.std.proofs.Common.{arith}
use Rattle.std.proofs.lemmas.Grind.{common_steps}
use Rattle.wesl_visit_children.proofs.Listed.{in_listed}
use Rattle.wesl_visit_in_modules.specs.Modules.{in_part}
use Rattle.wesl_visit_in_modules.proofs.expressions.parts.find_expressions.Goals as goal

pub returns : goal.returns
returns c = rw (in_listed in_part c.args.listed.now) (grind (arith, common_steps))
