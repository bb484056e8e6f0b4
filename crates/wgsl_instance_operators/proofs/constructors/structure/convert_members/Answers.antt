use Rattle.std.proofs.Common.{drop}
use Rattle.wgsl_instance_operators.proofs.Members.{filling_runs_out}
use Rattle.wgsl_instance_operators.proofs.constructors.structure.convert_members.Goals as goal

pub returns-in-None : goal.returns-in-None
returns-in-None c =
    filling_runs_out c.args.members.now c.args.args.now c.loop-member.values (drop c.loop-member.member-index c.args.members.now) c.loop-member.rest.now
    c.in-None.ensures.cases c.loop-member.invariant
