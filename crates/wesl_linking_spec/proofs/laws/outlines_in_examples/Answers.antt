use Rattle.std.proofs.Common.{refl}
use Rattle.wesl_linking_spec.proofs.laws.outlines_in_examples.Goals as goal

pub returns-clause-paths : goal.returns-clause-paths
returns-clause-paths c = refl

pub returns-clause-scope : goal.returns-clause-scope
returns-clause-scope c = refl

pub returns-clause-senses : goal.returns-clause-senses
returns-clause-senses c = refl

pub returns-clause-kept : goal.returns-clause-kept
returns-clause-kept c = (refl, refl)

pub returns-clause-uses : goal.returns-clause-uses
returns-clause-uses c = refl

pub returns-clause-imports : goal.returns-clause-imports
returns-clause-imports c = refl
