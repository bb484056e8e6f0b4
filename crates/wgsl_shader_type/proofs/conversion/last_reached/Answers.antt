use Rattle.std.proofs.Common.{refl, sym, ap, ◌∙◌, subst, Contains, true≢false}
use Rattle.std.proofs.lemmas.List.{take_all}
use Rattle.wgsl_shader_type.proofs.Commons.{only_kept, only_moved, item_within}
use Rattle.wgsl_shader_type.proofs.conversion.last_reached.Goals as goal
use Rattle.wgsl_shader_type.proofs.conversion.last_reached.Goals.{then-not-is_convertible_to, else-not-is_convertible_to}

pub loop-ty-preserved : goal.loop-ty-preserved
loop-ty-preserved c =
    let types = c.args.types.now in
    let i = c.loop-ty.ty-index in
    let before = c.loop-ty.reached.now in
    elim c.if-not-is_convertible_to.branch [
      | then-not-is_convertible_to w ↦
          let e = ap (λ r. r.now) w.reached-is in
          record {
            member = subst (Contains types) (sym e) (item_within types i c.ty-item.result c.loop-ty-test.true c.ty-item.is);
            only = λ common is h. e ∙ only_moved types i c.ty-item.result before c.loop-ty-test.true c.ty-item.is (λ converts. true≢false (sym (w.if-not-is_convertible_to.ensures.by_path.1 converts))) c.loop-ty.invariant.only common is h;
          }
      | else-not-is_convertible_to w ↦
          let e = ap (λ r. r.now) w.reached-is in
          record {
            member = subst (Contains types) (sym e) c.loop-ty.invariant.member;
            only = λ common is h. e ∙ only_kept types i c.ty-item.result before c.loop-ty-test.true c.ty-item.is c.loop-ty.invariant.member (w.if-not-is_convertible_to.ensures.by_path.0 refl) c.loop-ty.invariant.only common is h;
          }
    ]

pub returns : goal.returns
returns c = record {
  member = c.loop-ty.invariant.member;
  only = λ common is. c.loop-ty.invariant.only common is (subst (λ l. Contains l common) (sym (take_all c.loop-ty.ty-index c.args.types.now c.loop-ty-test.false)) is.member);
}
