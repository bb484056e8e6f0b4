use Rattle.wgsl_path.proofs.Lawful as law
use Rattle.wgsl_path.proofs.laws.join_path_is_a_monoid.Goals as goal

pub returns-clause-associative : goal.returns-clause-associative
returns-clause-associative c = law.associative

pub returns-clause-before : goal.returns-clause-before
returns-clause-before c = law.before

pub returns-clause-behind : goal.returns-clause-behind
returns-clause-behind c = law.behind
