use Rattle.std.proofs.Common.{◌≡◌, ℕ, List, drop}
use Rattle.wesl_conditions.specs.Settings.{setting}
use Rattle.weslc_bundle.specs.Bundles.{set_to}
use Rattle.weslc_bundle.proofs.features.set_features.Given as goal

abbrev pub invariant-loop-flag : goal.invariant-loop-flag
invariant-loop-flag l =
    (name : List ℕ) → set_to (drop l.flag-index l.settings.flags) (setting l.features name) name ≡ set_to l.settings.flags l.settings.default name
