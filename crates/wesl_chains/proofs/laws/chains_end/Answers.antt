use Rattle.wesl_chains.proofs.Loops.{long_chains_loop, chains_end as all}
use Rattle.wesl_chains.proofs.laws.chains_end.Goals as goal

pub returns-clause-long : goal.returns-clause-long
returns-clause-long c = long_chains_loop

pub returns-clause-all : goal.returns-clause-all
returns-clause-all c = all
