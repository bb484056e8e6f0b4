use Rattle.wgsl_types.proofs.Lawful as law
use Rattle.wgsl_types.proofs.laws.conversion_is_a_partial_order.Goals as goal

pub returns-clause-reflexive : goal.returns-clause-reflexive
returns-clause-reflexive c = law.reflexive

pub returns-clause-transitive : goal.returns-clause-transitive
returns-clause-transitive c = law.transitive

pub returns-clause-antisymmetric : goal.returns-clause-antisymmetric
returns-clause-antisymmetric c = law.antisymmetric
