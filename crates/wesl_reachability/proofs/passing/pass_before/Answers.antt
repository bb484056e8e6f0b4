use Rattle.std.proofs.Common.{ap, sym, subst}
use Rattle.std.specs.Option.{option_to_list}
use Rattle.wesl_reachability.specs.Passing.{PassesBefore}
use Rattle.wesl_reachability.proofs.Passes.{passes_none}
use Rattle.wesl_reachability.proofs.passing.pass_before.Goals as goal

pub returns-in-None : goal.returns-in-None
returns-in-None c =
    subst (λ l. PassesBefore c.args.modules.now (option_to_list l) c.args.holding.now c.args.chains.now c.args.holding.now c.args.chains.now) (sym c.in-None.is)
    (passes_none c.args.modules.now c.args.holding.now c.args.chains.now)
