use Rattle.std.proofs.Common.{subst}
use Rattle.wesl_reachability.specs.Joining.{PassesImport}
use Rattle.wesl_reachability.proofs.Passes.{passes_first, passes_again}
use Rattle.wesl_reachability.proofs.passing.pass_one.Goals as goal

pub returns-in_ok-pass : goal.returns-in_ok-pass
returns-in_ok-pass c =
    let p = subst (λ b. PassesImport c.args.via c.args.chains.now c.args.work.now.items b c.pass.new.self c.pass.new.arrived.items) c.if-is_first.true c.in_ok-is_first.ensures in
    passes_first c.args.via c.args.chains.now c.pass.new.self p.0 p.1 c.args.modules.now c.args.holding.now c.pass-then-is_first.new.self c.args.work.now.items c.pass.new.arrived.items c.in_ok-pass.ensures p.2

pub returns-else-is_first : goal.returns-else-is_first
returns-else-is_first c =
    let p = subst (λ b. PassesImport c.args.via c.args.chains.now c.args.work.now.items b c.pass.new.self c.pass.new.arrived.items) c.if-is_first.false c.in_ok-is_first.ensures in
    passes_again c.args.modules.now c.args.via c.args.holding.now c.args.chains.now c.pass.new.self c.args.work.now.items c.pass.new.arrived.items p.0 p.1 p.2
