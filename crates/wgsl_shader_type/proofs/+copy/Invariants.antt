use Rattle.std.proofs.Common.{◌≡◌, ◌+◌, ◌*◌, take}
use Rattle.wgsl_shader_type.proofs.+copy.Given as goal

abbrev pub decreases-tree::ShaderType::clone : goal.decreases-tree::ShaderType::clone
decreases-tree::ShaderType::clone l = 8 * goal.size-tree::ShaderType::clone l

abbrev pub decreases-copy::copy_boxed : goal.decreases-copy::copy_boxed
decreases-copy::copy_boxed l = 8 * goal.size-copy::copy_boxed l + 1

abbrev pub decreases-copy::StructMemberType::clone : goal.decreases-copy::StructMemberType::clone
decreases-copy::StructMemberType::clone l = 8 * goal.size-copy::StructMemberType::clone l + 2

abbrev pub decreases-copy::StructType::clone : goal.decreases-copy::StructType::clone
decreases-copy::StructType::clone l = 8 * goal.size-copy::StructType::clone l + 3

abbrev pub invariant-copy::StructType::clone-loop-member : goal.invariant-copy::StructType::clone-loop-member
invariant-copy::StructType::clone-loop-member l = l.members ≡ take l.member-index l.member-items
