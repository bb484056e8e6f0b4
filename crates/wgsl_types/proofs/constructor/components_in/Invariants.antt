use Rattle.std.proofs.Common.{◌≡◌, map, take}
use Rattle.wgsl_types.specs.Constructor.{component_of}
use Rattle.wgsl_types.proofs.constructor.components_in.Given as goal

abbrev pub invariant-loop-arg : goal.invariant-loop-arg
invariant-loop-arg l = l.components ≡ map component_of (take l.arg-index l.args)
