use Rattle.std.proofs.Common.{rules}
use Rattle.std.specs.Fn.{CalledAtMut}
use Rattle.wesl_visit_children_mut.proofs.Meeting.{all_changed}
use Rattle.wesl_visit_children_mut.proofs.attributes.attribute.GlobalDeclarationVisitAttributes.visit_mut.Goals as goal

pub returns-clause-changed : goal.returns-clause-changed
returns-clause-changed g c = let all : _ = all_changed (CalledAtMut g.F.FnMut) c.change_declaration.ensures.changed in search rules

pub returns-clause-callable : goal.returns-clause-callable
returns-clause-callable g c = let all : _ = all_changed (CalledAtMut g.F.FnMut) c.change_declaration.ensures.changed in search rules
