use Rattle.std.proofs.Common.{ap, sym, ◌∙◌}
use Rattle.weslc_bundle.specs.declared.request.BundleError.TheVariants.{Value}
use Rattle.weslc_bundle.specs.declared.request.Key.TheVariants.{Features}
use Rattle.weslc_bundle.specs.Bundles.{required, flag_at}
use Rattle.weslc_bundle.proofs.Keys.{Entry}
use Rattle.weslc_bundle.proofs.Flags.{left_start, left_all, left_more}
use Rattle.weslc_bundle.proofs.features.read_each_flag.Goals as goal

pub loop-name-init : goal.loop-name-init
loop-name-init c =
    left_start c.args.members.now.entries c.into_iter-name-iterator.result c.new-flags.result c.new-flags.ensures (c.into_iter-name-iterator.ensures.into_iter_gives ∙ c.iter-name-items.ensures.rest)

pub loop-name-preserved : goal.loop-name-preserved
loop-name-preserved c =
    let e : Entry = (c.in-Some.name.now, c.in-Some.value.now) in
    rw c.in_ok-push.ensures.ok
    (left_more c.loop-name.flags c.args.members.now.entries c.loop-name.name-iterator e c.next.new.self c.in-Some-read_feature.feature _ c.in-Some.ensures.steps (sym c.in-Some-read_feature.ensures)
    (ap (λ n. flag_at n c.in-Some-read_feature.feature) (c.in_ok-name.ensures ∙ c.as_str.ensures.value)) c.loop-name.invariant)

pub returns : goal.returns
returns c = ap (required (Value Features)) (left_all _ _ _ c.in-None.ensures.steps.0 c.loop-name.invariant)
