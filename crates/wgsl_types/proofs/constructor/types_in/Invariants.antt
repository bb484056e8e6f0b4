use Rattle.std.proofs.Common.{◌≡◌, take}
use Rattle.wgsl_types.proofs.constructor.types_in.Given as goal

abbrev pub invariant-loop-arg : goal.invariant-loop-arg
invariant-loop-arg l = l.types ≡ take l.arg-index l.args
