use Rattle.std.proofs.Common.{refl, subst, Some, true, false}
use Rattle.wesl_reachability.specs.Joining.{Goes}
use Rattle.wesl_reachability.proofs.Rows.{is_onward}
use Rattle.wesl_reachability.proofs.chains.Chains.go_on.Goals as goal

pub returns-then-is_round : goal.returns-then-is_round
returns-then-is_round c =
    (c.args.from, refl, subst (λ b. Goes c.args.modules.now c.args.from c.args.via c.args.self.now b c.goes_round.new.self) c.if-is_round.true c.in_ok-is_round.ensures)

pub returns : goal.returns
returns c =
    is_onward c.args.modules.now (Some c.args.from) c.args.via c.args.self.now c.args.state c.how_joined.result c.goes_round.new.self
    (subst (λ b. Goes c.args.modules.now c.args.from c.args.via c.args.self.now b c.goes_round.new.self) c.if-is_round.false c.in_ok-is_round.ensures) c.how_joined.ensures
