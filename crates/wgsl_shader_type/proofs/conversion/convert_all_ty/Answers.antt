use Rattle.std.proofs.Common.{refl, sym, subst, All, true≢false}
use Rattle.std.proofs.lemmas.List.{take_all}
use Rattle.std.proofs.lemmas.List.Elements.{All-contains, All-more}
use Rattle.wgsl_shader_type.specs.declared.tree.ShaderType.{ShaderType}
use Rattle.wgsl_shader_type.specs.Conversion.{Converts}
use Rattle.wgsl_shader_type.proofs.Commons.{item_within}
use Rattle.wgsl_shader_type.proofs.conversion.convert_all_ty.Goals as goal

pub returns-then-not-is_convertible_to : goal.returns-then-not-is_convertible_to
returns-then-not-is_convertible_to c = λ common is.
    true≢false (sym (c.if-not-is_convertible_to.ensures.by_path.1 (subst (Converts c.ty-item.result) (sym (c.in_ok-candidate.ensures.only common is))
    (All-contains (λ m. Converts m common) c.args.types.now c.ty-item.result is.all_convert
    (item_within c.args.types.now c.loop-ty.ty-index c.ty-item.result c.loop-ty-test.true c.ty-item.is)))))

pub loop-ty-preserved : goal.loop-ty-preserved
loop-ty-preserved c =
    let P : ShaderType → Type 0 = λ m. Converts m c.in_ok-candidate.candidate.now in
    All-more P c.args.types.now c.loop-ty.ty-index c.ty-item.result c.loop-ty-test.true c.loop-ty.invariant
    (subst P c.ty-item.is (c.if-not-is_convertible_to.ensures.by_path.0 refl))

pub returns : goal.returns
returns c = record {
  member = c.in_ok-candidate.ensures.member;
  all_convert = subst (All (λ m. Converts m c.in_ok-candidate.candidate.now)) (take_all c.loop-ty.ty-index c.args.types.now c.loop-ty-test.false) c.loop-ty.invariant;
}
