use Rattle.std.proofs.Common.{refl, ◌∙◌, ap, ◌<◌, arith}
use Rattle.wgsl_lr_driver.specs.Gathering.{below_taken}
use Rattle.wgsl_lr_driver.proofs.Gathers.{gathers_more, under_more, under_last}
use Rattle.wgsl_lr_driver.proofs.gather.take_place.Goals as goal

pub returns-then-left-gt0 : goal.returns-then-left-gt0
returns-then-left-gt0 g c =
    let some : 0 < c.args.left.now = omega arith in
    gathers_more _ _ _ _ _ _ _ _ _ _ c.in-Some.entry.now some refl c.in-Some.ensures.value
    (ap (below_taken _) c.forget_top.ensures ∙ under_more _ c.args.stack.now (record { state = c.in-Some.entry.now.state; value = c.take_part.new.phrase }) c.if-left-gt0.true)
    c.in_ok-take_part.ensures.extent c.if-place-eq0.false c.in_ok-take_part.ensures.parts

pub returns-else-left-gt0 : goal.returns-else-left-gt0
returns-else-left-gt0 g c =
    let some : 0 < c.args.left.now = omega arith in
    gathers_more _ _ _ _ _ _ _ _ _ _ c.in-Some.entry.now some refl c.in-Some.ensures.value
    (under_last _ c.args.stack.now (record { state = c.in-Some.entry.now.state; value = c.take_part.new.phrase }) c.if-left-gt0.false)
    c.in_ok-take_part.ensures.extent c.if-place-eq0.false c.in_ok-take_part.ensures.parts
