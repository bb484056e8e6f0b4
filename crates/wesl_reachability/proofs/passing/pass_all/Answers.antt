use Rattle.std.proofs.Common.{◌≡◌, sym, ap, ◌∙◌, drop, Some, None, arith}
use Rattle.std.specs.Prelude.{slice_get}
use Rattle.wesl_reachability.proofs.Passes.{passes_some, passes_more, passes_all, drop_none, drop_all}
use Rattle.wesl_reachability.proofs.passing.pass_all.Goals as goal

pub loop-at-init : goal.loop-at-init
loop-at-init c = passes_some c.args.modules.now c.args.work.now.items c.args.holding.now c.args.chains.now

pub returns-in_default : goal.returns-in_default
returns-in_default c =
    let none : slice_get c.loop-at.work.items c.loop-at.at ≡ None = ap (λ l. slice_get l c.loop-at.at) (sym c.as_slice.ensures.value) ∙ sym c.import_at.ensures ∙ c.in_default.is in
    passes_all c.args.modules.now c.args.work.now.items c.args.holding.now c.loop-at.holding c.args.chains.now c.loop-at.chains (drop c.loop-at.at c.loop-at.work.items) c.loop-at.invariant (drop_none c.loop-at.work.items c.loop-at.at none)

pub loop-at-preserved : goal.loop-at-preserved
loop-at-preserved c =
    let is : slice_get c.loop-at.work.items c.loop-at.at ≡ Some c.in-Some.via = ap (λ l. slice_get l c.loop-at.at) (sym c.as_slice.ensures.value) ∙ sym c.import_at.ensures ∙ c.in-Some.is in
    passes_more c.args.modules.now c.args.work.now.items c.args.holding.now c.loop-at.holding c.pass_one.new.holding c.args.chains.now c.loop-at.chains c.pass_one.new.chains c.loop-at.work.items c.pass_one.new.work.items c.loop-at.at c.in-Some.via is
    c.loop-at.invariant c.in_ok-pass_one.ensures
