use Rattle.std.proofs.Common.{◌≡◌, ◌==◌, map, sum, drop}
use Rattle.wgsl_types.specs.Constructor.{count_of}
use Rattle.wgsl_types.proofs.constructor.has_total.Given as goal

abbrev pub invariant-loop-arg : goal.invariant-loop-arg
invariant-loop-arg l = (sum (map count_of l.args) == l.n) ≡ (sum (map count_of (drop l.arg-index l.args)) == l.rest)
