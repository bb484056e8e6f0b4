use Rattle.std.proofs.Common.{rules}
use Rattle.wesl_visit_in_modules.proofs.expressions.parts.ChangingWriteParts.expression.Goals as goal

pub returns-clause-done : goal.returns-clause-done
returns-clause-done g c = let one : _ = c.change_node.ensures.changed in record { called = search rules; same = search rules; as_deep = search rules }
