use Rattle.std.proofs.Common.{refl, subst}
use Rattle.wesl_reachability.specs.Joining.{Joins}
use Rattle.wesl_reachability.proofs.Goes.{joins_first, joins_waiting, joins_round, joins_passed}
use Rattle.wesl_reachability.proofs.closing.Closing.join.Goals as goal

pub returns-in-First-clause-joins : goal.returns-in-First-clause-joins
returns-in-First-clause-joins c =
    joins_first c.args.modules.now c.args.self.now _ c.args.before c.args.via refl refl refl refl
    (subst (λ r. Joins c.args.modules.now c.args.before c.args.via c.args.self.now.chains r c.join.new.self) c.in-First.is c.in_ok-joined.ensures)

pub returns-in_ok-pass_before-in-Passed-clause-joins : goal.returns-in_ok-pass_before-in-Passed-clause-joins
returns-in_ok-pass_before-in-Passed-clause-joins c =
    joins_passed c.args.modules.now c.args.self.now _ c.join.new.self c.args.before c.args.via refl refl refl
    (subst (λ r. Joins c.args.modules.now c.args.before c.args.via c.args.self.now.chains r c.join.new.self) c.in-Passed.is c.in_ok-joined.ensures) c.in_ok-pass_before-in-Passed.ensures

pub returns-in-Waiting-clause-joins : goal.returns-in-Waiting-clause-joins
returns-in-Waiting-clause-joins c =
    joins_waiting c.args.modules.now c.args.self.now _ c.args.before c.args.via refl refl refl refl
    (subst (λ r. Joins c.args.modules.now c.args.before c.args.via c.args.self.now.chains r c.join.new.self) c.in-Waiting.is c.in_ok-joined.ensures)

pub returns-in-Itself-clause-joins : goal.returns-in-Itself-clause-joins
returns-in-Itself-clause-joins c =
    joins_round c.args.modules.now c.args.self.now _ c.args.before c.args.via (subst (λ r. Joins c.args.modules.now c.args.before c.args.via c.args.self.now.chains r c.join.new.self) c.in-Itself.is c.in_ok-joined.ensures) refl refl refl refl
