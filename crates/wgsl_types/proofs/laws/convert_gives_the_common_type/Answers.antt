use Rattle.wgsl_types.proofs.Converted.{both_at_common, both_unless_unfit}
use Rattle.wgsl_types.proofs.laws.convert_gives_the_common_type.Goals as goal

pub returns-clause-common : goal.returns-clause-common
returns-clause-common g c = both_at_common g.T.Ty.type_of g.T.Convert.converted g.met.T.Convert.has_type

pub returns-clause-unless : goal.returns-clause-unless
returns-clause-unless g c = both_unless_unfit g.T.Ty.type_of g.T.Convert.converted g.T.Convert.unfit g.met.T.Convert.unless_unfit
