use Rattle.std.proofs.Common.{◌≡◌, drop}
use Rattle.wgsl_types.specs.Constructor.{misfit}
use Rattle.wgsl_types.proofs.constructor.typecheck_struct_ctor.Given as goal

abbrev pub invariant-loop-i : goal.invariant-loop-i
invariant-loop-i l = misfit l.members l.args ≡ misfit (drop l.i l.members) (drop l.i l.args)
