use Rattle.std.proofs.Common.{All, take}
use Rattle.wgsl_shader_type.specs.Conversion.{Converts}
use Rattle.wgsl_shader_type.proofs.conversion.convert_all_ty.Given as goal

abbrev pub invariant-loop-ty : goal.invariant-loop-ty
invariant-loop-ty l = All (λ member. Converts member l.candidate) (take l.ty-index l.types)
