use Rattle.std.proofs.Common.{rules}
use Rattle.wesl_visit_in_modules.proofs.types.parts.ReadingReadParts.expression.Goals as goal

pub returns-clause-done : goal.returns-clause-done
returns-clause-done g c = let one : _ = rw c.node.ensures at c.meet_expression.ensures.met in record { called = search rules; same = search rules }
