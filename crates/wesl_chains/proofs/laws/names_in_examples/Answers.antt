use Rattle.std.proofs.Common.{refl}
use Rattle.wesl_chains.specs.Reaching.{by_module}
use Rattle.wesl_chains.proofs.laws.names_in_examples.Goals as goal

pub returns-clause-scope : goal.returns-clause-scope
returns-clause-scope c = refl

pub returns-clause-senses : goal.returns-clause-senses
returns-clause-senses c = refl

pub returns-clause-steps : goal.returns-clause-steps
returns-clause-steps c = refl

pub returns-clause-order : goal.returns-clause-order
returns-clause-order c = (refl, by_module refl)
