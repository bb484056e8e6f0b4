use Rattle.std.proofs.Common.{◌≡◌, take}
use Rattle.wgsl_types.proofs.constructor.params_in.Given as goal

abbrev pub invariant-loop-param : goal.invariant-loop-param
invariant-loop-param l = l.params ≡ take l.param-index l.given
