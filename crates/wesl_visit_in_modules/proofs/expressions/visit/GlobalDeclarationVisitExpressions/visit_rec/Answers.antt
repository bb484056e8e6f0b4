use Rattle.std.proofs.Common.{rules}
use Rattle.std.specs.Fn.{CalledAt}
use Rattle.wesl_visit_in_modules.proofs.Meeting.{all_met}
use Rattle.wesl_visit_in_modules.proofs.expressions.visit.GlobalDeclarationVisitExpressions.visit_rec.Goals as goal

pub returns-clause-met : goal.returns-clause-met
returns-clause-met g c = let all : _ = all_met (CalledAt g.F.FnMut) c.meet_declaration.ensures.met in search rules

pub returns-clause-callable : goal.returns-clause-callable
returns-clause-callable g c = let all : _ = all_met (CalledAt g.F.FnMut) c.meet_declaration.ensures.met in search rules
