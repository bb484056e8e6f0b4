-- A view of a struct's member.
use Rattle.std.proofs.Common.{◌≡◌, ap, ◌∙◌, List, ℕ}
use Rattle.wgsl_shader_type.specs.declared.tree.StructTypeOf.{StructTypeOf}
use Rattle.wgsl_shader_type.specs.declared.tree.ShaderType.{ShaderType, out-ShaderType}
use Rattle.wgsl_shader_type.specs.declared.tree.ShaderType.TheVariants as type
use Rattle.wgsl_instance.specs.declared.tree.RefInstance.{RefInstance}
use Rattle.wgsl_instance.specs.Parts.{member_position}
use Rattle.wgsl_memory.specs.Views.{member_view, member_view_at, member_found}

pub struct_viewed : (r : RefInstance) (name : List ℕ) (s : StructTypeOf ShaderType) → r.ty ≡ type.Struct s → member_view r name ≡ member_found r name s.members (member_position name s.members)
struct_viewed r name s e = ap (member_view_at r name) (ap out-ShaderType e ∙ type.outs-Struct s)
