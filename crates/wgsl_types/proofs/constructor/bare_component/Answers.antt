use Rattle.std.proofs.Common.{◌∙◌, subst}
use Rattle.wgsl_shader_type.specs.Conversion.{HasNoCommonType}
use Rattle.wgsl_types.proofs.Emptiness.{full_if}
use Rattle.wgsl_types.proofs.Making.{no_common_part}
use Rattle.wgsl_types.proofs.constructor.bare_component.Goals as goal

pub returns-in-None : goal.returns-in-None
returns-in-None c = no_common_part c.args.n c.args.args.now (full_if c.args.args.now c.if-is_empty.ensures)
    (subst HasNoCommonType (c.as_slice.ensures ∙ c.in_ok-components.ensures) c.in-None.ensures)
