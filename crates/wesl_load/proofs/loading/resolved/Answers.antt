use Rattle.wesl_load.proofs.Asking.{one_asked}
use Rattle.wesl_load.proofs.loading.resolved.Goals as goal

pub returns-in-Ok-clause-asked : goal.returns-in-Ok-clause-asked
returns-in-Ok-clause-asked g c = one_asked (g.R.Resolver.asked c.args.resolver.now) c.args.path.now c.resolve_module.result (g.R.Resolver.asked c.resolve_module.new.self) c.resolve_module.ensures.asked

pub returns-in-Err-clause-asked : goal.returns-in-Err-clause-asked
returns-in-Err-clause-asked g c = one_asked (g.R.Resolver.asked c.args.resolver.now) c.args.path.now c.resolve_module.result (g.R.Resolver.asked c.resolve_module.new.self) c.resolve_module.ensures.asked
