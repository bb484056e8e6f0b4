use Rattle.std.proofs.Common.{rules}
use Rattle.wesl_visit_in_modules.proofs.expressions.parts.ReadingReadParts.expression.Goals as goal

pub returns-clause-done : goal.returns-clause-done
returns-clause-done g c = let one : _ = c.meet_node.ensures.met in record { called = search rules; same = search rules }
