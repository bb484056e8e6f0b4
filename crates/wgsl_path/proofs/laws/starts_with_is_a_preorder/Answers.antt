use Rattle.wgsl_path.proofs.Lawful as law
use Rattle.wgsl_path.proofs.laws.starts_with_is_a_preorder.Goals as goal

pub returns-clause-reflexive : goal.returns-clause-reflexive
returns-clause-reflexive c = law.reflexive

pub returns-clause-transitive : goal.returns-clause-transitive
returns-clause-transitive c = law.transitive

pub returns-clause-joined : goal.returns-clause-joined
returns-clause-joined c = law.first
