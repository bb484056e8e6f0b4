use Rattle.std.proofs.Common.{subst}
use Rattle.core_eval.specs.Refusals.{Answers}
use Rattle.core_eval.specs.Scopes.{decls, outside}
use Rattle.core_lower.proofs.Pushed.{all_pushed_is}
use Rattle.core_lower.proofs.unit.lowered_declarations.Goals as goal

pub returns : goal.returns
returns c = subst (λ o. Answers decls o c.lowered_in_turn.result) (all_pushed_is (outside c.args.declarations.now c.args.consts.now) (decls c.args.nodes.now)) c.lowered_in_turn.ensures
