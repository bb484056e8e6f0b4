use Rattle.std.proofs.Common.{◌≡◌, replicate}
use Rattle.wgsl_instance.proofs.zero.copies.Given as goal

abbrev pub invariant-loop : goal.invariant-loop
invariant-loop l = l.made ≡ replicate l.counter l.value
