use Rattle.std.proofs.Common.{◌≡◌, ◌+◌, ◌*◌, drop}
use Rattle.std.specs.Cmp.Lexicographic.{pointwise}
use Rattle.wgsl_instance.specs.Alike.{same}
use Rattle.wgsl_instance.proofs.alike.+alike.Given as goal

abbrev pub decreases-are_alike : goal.decreases-are_alike
decreases-are_alike l = 8 * goal.size-are_alike l

abbrev pub decreases-are_parts_alike : goal.decreases-are_parts_alike
decreases-are_parts_alike l = 8 * goal.size-are_parts_alike l + 1

abbrev pub decreases-are_structs_alike : goal.decreases-are_structs_alike
decreases-are_structs_alike l = 8 * goal.size-are_structs_alike l + 2

abbrev pub decreases-are_arrays_alike : goal.decreases-are_arrays_alike
decreases-are_arrays_alike l = 8 * goal.size-are_arrays_alike l + 2

abbrev pub invariant-are_parts_alike-loop-i : goal.invariant-are_parts_alike-loop-i
invariant-are_parts_alike-loop-i l =
    pointwise same l.a l.b ≡ pointwise same (drop l.i l.a) (drop l.i l.b)
