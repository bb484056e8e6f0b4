use Rattle.std.proofs.Common.{drop}
use Rattle.wgsl_instance_operators.proofs.Pairing.{IsPairing}
use Rattle.wgsl_instance_operators.proofs.binary.of_pairs.Given as goal

abbrev pub invariant-loop-first : goal.invariant-loop-first
invariant-loop-first l = IsPairing l.stage l.operator l.left l.right l.components (drop l.first-index l.left) l.rest
