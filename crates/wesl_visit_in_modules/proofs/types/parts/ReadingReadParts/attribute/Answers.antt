use Rattle.std.proofs.Common.{rules}
use Rattle.wesl_visit_in_modules.proofs.types.parts.ReadingReadParts.attribute.Goals as goal

pub returns-clause-done : goal.returns-clause-done
returns-clause-done g c = let one : _ = rw c.node.ensures at c.meet_attribute.ensures.met in record { called = search rules; same = search rules }
