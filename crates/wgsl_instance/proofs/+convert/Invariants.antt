use Rattle.std.proofs.Common.{◌≡◌, ◌+◌, ◌*◌, drop}
use Rattle.wgsl_instance.specs.Converted as spec
use Rattle.wgsl_instance.specs.Answer.{IsCollecting}
use Rattle.wgsl_instance.proofs.+convert.Given as goal

abbrev pub decreases-tree::Instance::convert_to : goal.decreases-tree::Instance::convert_to
decreases-tree::Instance::convert_to l = 8 * goal.size-tree::Instance::convert_to l + 2

abbrev pub decreases-convert::convert_parts : goal.decreases-convert::convert_parts
decreases-convert::convert_parts l = 8 * goal.size-convert::convert_parts l + 1

abbrev pub decreases-convert::convert_array : goal.decreases-convert::convert_array
decreases-convert::convert_array l = 8 * goal.size-convert::convert_array l + 4

abbrev pub decreases-convert::convert_elements : goal.decreases-convert::convert_elements
decreases-convert::convert_elements l = 8 * goal.size-convert::convert_elements l + 3

abbrev pub invariant-convert::convert_elements-loop-element : goal.invariant-convert::convert_elements-loop-element
invariant-convert::convert_elements-loop-element l =
    IsCollecting (λ x. spec.converted x l.ty) l.elements l.converted (drop l.element-index l.elements)
