use Rattle.std.proofs.Common.{refl, rules}
use Rattle.std.specs.Fn.{CalledAtMut}
use Rattle.wesl_visit_in_modules.proofs.TypesMeeting.{all_changed, all_deep}
use Rattle.wesl_visit_in_modules.proofs.types.visit.TranslationUnitVisitTypes.visit_rec_mut.Goals as goal

pub returns-clause-changed : goal.returns-clause-changed
returns-clause-changed g c = let all : _ = all_deep (CalledAtMut g.F.FnMut) refl c.change_unit.ensures.changed in search rules

pub returns-clause-callable : goal.returns-clause-callable
returns-clause-callable g c = let all : _ = all_changed (CalledAtMut g.F.FnMut) c.change_unit.ensures.changed in search rules
