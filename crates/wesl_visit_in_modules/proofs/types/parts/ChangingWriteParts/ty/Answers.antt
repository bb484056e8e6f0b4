use Rattle.std.proofs.Common.{rules}
use Rattle.wesl_visit_in_modules.proofs.types.parts.ChangingWriteParts.ty.Goals as goal

pub returns-clause-done : goal.returns-clause-done
returns-clause-done g c = let one : _ = c.change_type.ensures.changed in record { called = search rules; same = search rules; as_deep = search rules }
