use Rattle.wesl_name_resolution.proofs.Known.{says_itself}
use Rattle.wesl_name_resolution.proofs.ends.told.Goals as goal

pub returns-in_default : goal.returns-in_default
returns-in_default c = says_itself c.args.end c.in_default.not-ReferenceTarget
