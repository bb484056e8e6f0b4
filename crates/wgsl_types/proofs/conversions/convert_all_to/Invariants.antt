use Rattle.std.proofs.Common.{◌≡◌, ◌++◌, Some, drop}
use Rattle.wgsl_types.specs.Convert.{all_converted, ◌>>=◌}
use Rattle.wgsl_types.proofs.conversions.convert_all_to.Given as goal

abbrev pub invariant-loop-thing : goal.invariant-loop-thing
invariant-loop-thing g l =
    all_converted g.T.Convert.converted l.things l.ty ≡ (all_converted g.T.Convert.converted (drop l.thing-index l.things) l.ty >>= λ rest. Some (l.made ++ rest))
