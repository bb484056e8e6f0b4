use Rattle.std.proofs.Common.{◌≡◌, ◌+◌, ◌*◌, take}
use Rattle.wgsl_instance.proofs.+copy.Given as goal

abbrev pub decreases-tree::Instance::clone : goal.decreases-tree::Instance::clone
decreases-tree::Instance::clone l = 8 * goal.size-tree::Instance::clone l

abbrev pub decreases-copy::copy_parts : goal.decreases-copy::copy_parts
decreases-copy::copy_parts l = 8 * goal.size-copy::copy_parts l + 1

abbrev pub decreases-copy::StructInstance::clone : goal.decreases-copy::StructInstance::clone
decreases-copy::StructInstance::clone l = 8 * goal.size-copy::StructInstance::clone l + 2

abbrev pub decreases-copy::ArrayInstance::clone : goal.decreases-copy::ArrayInstance::clone
decreases-copy::ArrayInstance::clone l = 8 * goal.size-copy::ArrayInstance::clone l + 2

abbrev pub invariant-copy::copy_parts-loop-part : goal.invariant-copy::copy_parts-loop-part
invariant-copy::copy_parts-loop-part l = l.copies ≡ take l.part-index l.parts
