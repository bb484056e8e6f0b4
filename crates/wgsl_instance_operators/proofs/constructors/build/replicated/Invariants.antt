use Rattle.std.proofs.Common.{◌≡◌, replicate}
use Rattle.wgsl_instance_operators.proofs.constructors.build.replicated.Given as goal

abbrev pub invariant-loop : goal.invariant-loop
invariant-loop l = l.components ≡ replicate l.counter l.scalar
