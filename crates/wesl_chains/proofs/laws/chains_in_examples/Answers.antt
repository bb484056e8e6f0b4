use Rattle.wesl_chains.proofs.Shown.{reexport, refused, passed, asked}
use Rattle.wesl_chains.proofs.laws.chains_in_examples.Goals as goal

pub returns-clause-reexport : goal.returns-clause-reexport
returns-clause-reexport c = reexport

pub returns-clause-ring : goal.returns-clause-ring
returns-clause-ring c = refused

pub returns-clause-passed : goal.returns-clause-passed
returns-clause-passed c = passed

pub returns-clause-asked : goal.returns-clause-asked
returns-clause-asked c = asked
