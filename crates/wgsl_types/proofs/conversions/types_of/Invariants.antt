use Rattle.std.proofs.Common.{◌≡◌, map, take}
use Rattle.wgsl_types.proofs.conversions.types_of.Given as goal

abbrev pub invariant-loop-thing : goal.invariant-loop-thing
invariant-loop-thing g l = l.types ≡ map g.T.Ty.type_of (take l.thing-index l.things)
