use Rattle.std.proofs.Common.{drop}
use Rattle.wgsl_instance_operators.proofs.Members.{IsFilling}
use Rattle.wgsl_instance_operators.proofs.constructors.structure.convert_members.Given as goal

abbrev pub invariant-loop-member : goal.invariant-loop-member
invariant-loop-member l = IsFilling l.members l.args l.values (drop l.member-index l.members) l.rest
