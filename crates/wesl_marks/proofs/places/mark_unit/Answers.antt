-- Each loop adds a place, and keeps what the others say.
use Rattle.std.proofs.Common.{rules, ◌≡◌, ◌<◌, ◌++◌, ◌∷◌, [], length, get_or, subst}
use Rattle.wgsl_declarations.specs.declared.declaration.GlobalDeclaration.{GlobalDeclaration}
use Rattle.wgsl_declarations.specs.View.{declaration_tree}
use Rattle.wesl_mark.specs.Places.{IsSpot}
use Rattle.wesl_marks.specs.Units.{declaration_spot, directive_spots}
use Rattle.wesl_marks.proofs.Spots.{directive_step, declaration_step}
use Rattle.wesl_marks.proofs.places.mark_unit.Goals as goal

pub loop-directive-preserved : goal.loop-directive-preserved
loop-directive-preserved c =
    let xs = c.as_slice-directive-items.result.now in
    let below : c.loop-directive.directive-index < length xs = search rules in
    let at : c.directive-item.result ≡ get_or xs c.loop-directive.directive-index c.directive-item.result = search rules in
    let pushed : c.push.new.self.items ≡ c.loop-directive.places.items ++ c.in_ok-mark_directive_place.field-0 ∷ [] = search rules in (
      directive_step c.loop-directive.list c.mark_directive_place.new.list xs c.loop-directive.directive-index c.directive-item.result c.loop-directive.places.items c.push.new.self.items c.in_ok-mark_directive_place.field-0
          below at pushed c.loop-directive.invariant.0 c.in_ok-mark_directive_place.ensures.grows c.in_ok-mark_directive_place.ensures.spot,
      λ first h. c.in_ok-mark_directive_place.ensures.grows first (c.loop-directive.invariant.1 first h),
    )

pub loop-declaration-preserved : goal.loop-declaration-preserved
loop-declaration-preserved c =
    let xs = c.as_slice-declaration-items.result.now in
    let below : c.loop-declaration.declaration-index < length xs = search rules in
    let at : c.declaration-item.result ≡ get_or xs c.loop-declaration.declaration-index c.declaration-item.result = search rules in
    let pushed : c.push-in-loop-declaration.new.self.items ≡ c.loop-declaration.places.items ++ c.in_ok-mark_place.field-0 ∷ [] = search rules in
    let node : c.node.result.now ≡ c.declaration-item.result.node = search rules in (
      declaration_step c.loop-declaration.list c.mark_place.new.list (directive_spots c.args.unit.now.global_directives) xs c.loop-declaration.declaration-index c.declaration-item.result
          c.loop-declaration.places.items c.push-in-loop-declaration.new.self.items c.in_ok-mark_place.field-0
          below at pushed c.loop-declaration.invariant.0 c.in_ok-mark_place.ensures.grows
          (subst (λ (d : GlobalDeclaration). IsSpot c.mark_place.new.list c.in_ok-mark_place.field-0 (declaration_spot (declaration_tree d))) node c.in_ok-mark_place.ensures.spot),
      λ first h. c.in_ok-mark_place.ensures.grows first (c.loop-declaration.invariant.1 first h),
    )

pub returns-clause-grows : goal.returns-clause-grows
returns-clause-grows c first h = c.loop-declaration.invariant.1 first (c.loop-directive.invariant.1 first h)
