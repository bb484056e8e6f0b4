use Rattle.std.proofs.Common.{refl, rules}
use Rattle.std.specs.Fn.{CalledAtMut}
use Rattle.wesl_visit_in_modules.proofs.TypesMeeting.{all_changed, all_outermost}
use Rattle.wesl_visit_in_modules.proofs.types.visit.GlobalDeclarationVisitTypes.visit_mut.Goals as goal

pub returns-clause-changed : goal.returns-clause-changed
returns-clause-changed g c = let all : _ = all_outermost (CalledAtMut g.F.FnMut) refl c.change_declaration.ensures.changed in search rules

pub returns-clause-callable : goal.returns-clause-callable
returns-clause-callable g c = let all : _ = all_changed (CalledAtMut g.F.FnMut) c.change_declaration.ensures.changed in search rules
