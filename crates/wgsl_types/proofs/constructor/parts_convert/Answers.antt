use Rattle.std.proofs.Common.{refl, sym, subst, All, true≢false}
use Rattle.std.proofs.lemmas.List.{take_all}
use Rattle.std.proofs.lemmas.List.Elements.{All-contains, All-more}
use Rattle.wgsl_shader_type.specs.declared.tree.ShaderType.{ShaderType}
use Rattle.wgsl_shader_type.specs.Conversion.{Converts}
use Rattle.wgsl_shader_type.proofs.Commons.{item_within}
use Rattle.wgsl_types.specs.Constructor.{component_of}
use Rattle.wgsl_types.proofs.constructor.parts_convert.Goals as goal

pub returns-then-not-is_convertible_to : goal.returns-then-not-is_convertible_to
returns-then-not-is_convertible_to c = (
  λ h. absurd (true≢false (sym h)),
  λ all. c.if-not-is_convertible_to.ensures.by_path.1 (subst (λ from. Converts from c.args.to.now) (sym c.component_of.ensures) (All-contains (λ arg. Converts (component_of arg) c.args.to.now) c.args.args.now c.arg-item.result all
      (item_within c.args.args.now c.loop-arg.arg-index c.arg-item.result c.loop-arg-test.true c.arg-item.is))),
)

pub loop-arg-preserved : goal.loop-arg-preserved
loop-arg-preserved c =
    let P : ShaderType → Type 0 = λ arg. Converts (component_of arg) c.args.to.now in
    All-more P c.args.args.now c.loop-arg.arg-index c.arg-item.result c.loop-arg-test.true c.loop-arg.invariant
    (subst P c.arg-item.is (subst (λ from. Converts from c.args.to.now) c.component_of.ensures (c.if-not-is_convertible_to.ensures.by_path.0 refl)))

pub returns : goal.returns
returns c = (λ h. subst (All (λ arg. Converts (component_of arg) c.args.to.now)) (take_all c.loop-arg.arg-index c.args.args.now c.loop-arg-test.false) c.loop-arg.invariant, λ all. refl)
