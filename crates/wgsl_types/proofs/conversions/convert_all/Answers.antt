use Rattle.std.proofs.Common.{refl, sym, ◌∙◌, subst, map}
use Rattle.wgsl_shader_type.specs.Conversion.{IsCommonType}
use Rattle.wgsl_types.proofs.Together.{at_common}
use Rattle.wgsl_types.proofs.conversions.convert_all.Goals as goal

pub returns-in-Some : goal.returns-in-Some
returns-in-Some g c =
    at_common g.T.Convert.converted (map g.T.Ty.type_of c.args.things.now) c.args.things.now c.in-Some.common.now
    (subst (λ types. IsCommonType types c.in-Some.common.now) (c.as_slice.ensures ∙ c.in_ok-types.ensures) c.in-Some.ensures)
    c.convert_all_to.result c.convert_all_to.ensures

pub returns : goal.returns
returns g c = record {
  some = λ common is. absurd (c.in-None.ensures common (subst (λ types. IsCommonType types common) (sym (c.as_slice.ensures ∙ c.in_ok-types.ensures)) is));
  none = λ no_common. refl;
}
