use Rattle.std.proofs.Common.{refl}
use Rattle.wesl_reachability.proofs.Taking.{taken_none}
use Rattle.wesl_reachability.proofs.closing.Closing.new.Goals as goal

pub returns : goal.returns
returns c = λ modules. taken_none modules _ c.new.ensures.reached c.new.ensures.work c.new.ensures.passed c.new-2.ensures.items c.new-3.ensures.states c.new-3.ensures.before c.new-3.ensures.links refl c.new-4.ensures refl
