use Rattle.std.proofs.Common.{ap}
use Rattle.wgsl_path.specs.Equality.{path_writes, paths_equiv, paths_Decide, same_paths}
use Rattle.wgsl_path.proofs.laws.paths_are_equal_where_they_are_the_same.Goals as goal

pub returns-clause-equivalence : goal.returns-clause-equivalence
returns-clause-equivalence c = paths_equiv

pub returns-clause-same : goal.returns-clause-same
returns-clause-same c = paths_Decide

pub returns-clause-hash : goal.returns-clause-hash
returns-clause-hash c = record { fed = λ p q same. ap path_writes (same_paths p q same) }
