use Rattle.std.proofs.Common.{ap}
use Rattle.core_meaning.specs.Outcome.{computed}
use Rattle.core_eval.proofs.Faults.{fails}
use Rattle.core_eval.proofs.error.computed.Goals as goal

pub returns-in-Err : goal.returns-in-Err
returns-in-Err g c =
    fails (computed c.args.operation) c.in-Err.error c.operation_fault.result c.operation_fault.ensures (ap computed c.in-Err.is)
