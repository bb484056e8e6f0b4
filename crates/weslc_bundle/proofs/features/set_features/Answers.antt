use Rattle.std.proofs.Common.{string_bytes, ◌∙◌}
use Rattle.weslc_bundle.proofs.Flags.{set_more}
use Rattle.weslc_bundle.proofs.features.set_features.Goals as goal

pub loop-flag-preserved : goal.loop-flag-preserved
loop-flag-preserved c =
    set_more c.args.settings.now.flags c.loop-flag.flag-index c.flag-item.result (string_bytes c.in_ok-name.name) c.args.settings.now.default c.loop-flag.features c.set.new.self (rw (← c.as_slice-flag-items.ensures) c.loop-flag-test.true)
    (rw (← c.as_slice-flag-items.ensures) c.flag-item.is)
    (c.in_ok-name.ensures.ok ∙ c.as_str.ensures) c.in_ok-set.ensures.set c.loop-flag.invariant
