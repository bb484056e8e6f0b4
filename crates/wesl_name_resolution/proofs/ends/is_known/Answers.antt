use Rattle.wesl_name_resolution.proofs.Known.{looked_at}
use Rattle.wesl_name_resolution.proofs.ends.is_known.Goals as goal

pub returns-in_default : goal.returns-in_default
returns-in_default c = looked_at c.args.end c.in_default.not-Unknown
