use Rattle.std.proofs.Common.{rules}
use Rattle.wesl_visit_children.specs.Turns.{changed_none}
use Rattle.wesl_visit_children_mut.proofs.attributes.parts.ChangingWriteParts.expression.Goals as goal

pub returns-clause-done : goal.returns-clause-done
returns-clause-done g c = record { called = search (rules, changed_none); same = search rules }
