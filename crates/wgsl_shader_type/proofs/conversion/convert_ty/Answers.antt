use Rattle.std.proofs.Common.{refl}
use Rattle.wgsl_shader_type.proofs.Commons.{common_first, common_second}
use Rattle.wgsl_shader_type.proofs.conversion.convert_ty.Goals as goal

pub returns-then-is_convertible_to-clause-common : goal.returns-then-is_convertible_to-clause-common
returns-then-is_convertible_to-clause-common c = common_second c.args.first.now c.args.second.now (c.if-is_convertible_to.ensures.by_path.0 refl)

pub returns-then-is_convertible_to-2-clause-common : goal.returns-then-is_convertible_to-2-clause-common
returns-then-is_convertible_to-2-clause-common c = common_first c.args.first.now c.args.second.now (c.if-is_convertible_to-2.ensures.by_path.0 refl)
