use Rattle.std.proofs.Common.{◌≡◌, ◌+◌, ◌*◌, map, drop}
use Rattle.wgsl_expressions.specs.View.{node_tree}
use Rattle.wgsl_to_expr.specs.Written.{all_of, written}
use Rattle.wgsl_to_expr.proofs.Lists.{left}
use Rattle.wgsl_to_expr.proofs.value.+written.Given as goal

abbrev pub decreases-written_instance : goal.decreases-written_instance
decreases-written_instance l = 8 * goal.size-written_instance l

abbrev pub decreases-written_struct : goal.decreases-written_struct
decreases-written_struct l = 8 * goal.size-written_struct l + 2

abbrev pub decreases-written_array : goal.decreases-written_array
decreases-written_array l = 8 * goal.size-written_array l + 2

abbrev pub decreases-written_call : goal.decreases-written_call
decreases-written_call l = 8 * goal.size-written_call l + 1

abbrev pub invariant-written_call-loop-part : goal.invariant-written_call-loop-part
invariant-written_call-loop-part l = all_of (map written l.parts) ≡ left written (map node_tree l.arguments) (drop l.part-index l.parts)
