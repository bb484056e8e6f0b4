use Rattle.std.proofs.Common.{rules}
use Rattle.wesl_load.specs.Asked.{StayAsked}
use Rattle.weslc_compile.proofs.Inside.{asked_there}
use Rattle.weslc_compile.proofs.compiling.compile_modules.Goals as goal

pub returns-clause-asked : goal.returns-clause-asked
returns-clause-asked g c =
    let last = c.compile_decided-answer.new.resolver.inner.resolver in
    let stay : StayAsked (g.R.Resolver.asked c.args.resolver.now) (g.R.Resolver.asked last.now) = rw c.new-inner.ensures at c.compile_decided-answer.ensures.asked in
    asked_there g.R.Resolver.asked (g.R.Resolver.asked c.args.resolver.now) last.now _ (search rules) stay
