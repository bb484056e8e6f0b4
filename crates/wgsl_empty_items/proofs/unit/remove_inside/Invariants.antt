use Rattle.std.proofs.Common.{◌≡◌, ◌++◌, take, drop, map}
use Rattle.wgsl_empty_items.specs.Units.{node_without_voids}
use Rattle.wgsl_empty_items.proofs.unit.remove_inside.Given as goal

abbrev pub invariant-loop-i : goal.invariant-loop-i
invariant-loop-i l = l.declarations ≡ map node_without_voids (take l.i l.initial.declarations) ++ drop l.i l.initial.declarations
