use Rattle.std.proofs.Common.{rules, of_calls}
use Rattle.std.specs.Fn.{CalledAtMut}
use Rattle.wesl_visit_children.proofs.TurnsLemmas.{changed_single}
use Rattle.wesl_visit_children_mut.proofs.attributes.parts.ChangingWriteParts.attribute.Goals as goal

pub returns-clause-done : goal.returns-clause-done
returns-clause-done g c = record {
  called = changed_single (CalledAtMut g.F.FnMut) _ _ _ _ _ (search (rules, of_calls));
  same = search rules;
}
