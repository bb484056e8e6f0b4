use Rattle.std.proofs.Common.{drop}
use Rattle.wgsl_instance_operators.proofs.Pairing.{pairing_runs_out}
use Rattle.wgsl_instance_operators.proofs.binary.of_pairs.Goals as goal

pub returns-in-None : goal.returns-in-None
returns-in-None c =
    pairing_runs_out c.args.stage c.args.operator c.args.left.now c.args.right.now c.loop-first.components (drop c.loop-first.first-index c.args.left.now) c.loop-first.rest.now
    c.in-None.ensures.cases c.loop-first.invariant
