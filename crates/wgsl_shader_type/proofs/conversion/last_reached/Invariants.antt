use Rattle.std.proofs.Common.{◌≡◌, take, Contains}
use Rattle.wgsl_shader_type.specs.declared.tree.ShaderType.{ShaderType}
use Rattle.wgsl_shader_type.specs.Conversion.{IsCommonType}
use Rattle.wgsl_shader_type.proofs.conversion.last_reached.Given as goal

abbrev pub invariant-loop-ty : goal.invariant-loop-ty
invariant-loop-ty l = record {
  member : Contains l.types l.reached;
  only : (common : ShaderType) → IsCommonType l.types common → Contains (take l.ty-index l.types) common → l.reached ≡ common;
}
