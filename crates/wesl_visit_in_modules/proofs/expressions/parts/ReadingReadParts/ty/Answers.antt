use Rattle.std.proofs.Common.{rules}
use Rattle.wesl_visit_in_modules.proofs.expressions.parts.ReadingReadParts.ty.Goals as goal

pub returns-clause-done : goal.returns-clause-done
returns-clause-done g c = let one : _ = c.meet_type.ensures.met in record { called = search rules; same = search rules }
