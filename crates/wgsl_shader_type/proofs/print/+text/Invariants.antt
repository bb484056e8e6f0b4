use Rattle.std.proofs.Common.{◌+◌, ◌*◌}
use Rattle.wgsl_shader_type.proofs.print.+text.Given as goal

abbrev pub decreases-ShaderTypeDisplay::fmt : goal.decreases-ShaderTypeDisplay::fmt
decreases-ShaderTypeDisplay::fmt g l = 2 * goal.size-ShaderTypeDisplay::fmt g l

abbrev pub decreases-write_array : goal.decreases-write_array
decreases-write_array g l = 2 * goal.size-write_array g l + 1

abbrev pub decreases-write_vector : goal.decreases-write_vector
decreases-write_vector g l = 2 * goal.size-write_vector g l + 1

abbrev pub decreases-write_pointer : goal.decreases-write_pointer
decreases-write_pointer g l = 2 * goal.size-write_pointer g l + 1

abbrev pub decreases-write_reference : goal.decreases-write_reference
decreases-write_reference g l = 2 * goal.size-write_reference g l + 1
