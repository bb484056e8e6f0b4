use Rattle.std.proofs.Common.{refl}
use Rattle.wesl_mark.proofs.Growing.{grows_by_mark}
use Rattle.wesl_mark.proofs.mark.MarkList.add.Goals as goal

pub returns-clause-grows : goal.returns-clause-grows
returns-clause-grows c = grows_by_mark c.args.self.now _ c.args.mark refl refl c.in_ok-push.ensures.items
