use Rattle.wgsl_types.proofs.Lawful as law
use Rattle.wgsl_types.proofs.laws.convert_ty_is_symmetric.Goals as goal

pub returns-clause-common : goal.returns-clause-common
returns-clause-common c = law.symmetric

pub returns-clause-answer : goal.returns-clause-answer
returns-clause-answer c = law.same_answer
