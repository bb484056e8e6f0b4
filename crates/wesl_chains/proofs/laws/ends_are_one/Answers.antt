use Rattle.wesl_chains.proofs.Loops.{ends_are_one as chains, denotes_is_one}
use Rattle.wesl_chains.proofs.laws.ends_are_one.Goals as goal

pub returns-clause-chains : goal.returns-clause-chains
returns-clause-chains c = chains

pub returns-clause-names : goal.returns-clause-names
returns-clause-names c = denotes_is_one
