use Rattle.std.proofs.Common.{◌≡◌}
use Rattle.serde_json.specs.View.{members_view}
use Rattle.weslc_bundle.specs.Bundles.{flags_in}
use Rattle.weslc_bundle.proofs.Flags.{left}
use Rattle.weslc_bundle.proofs.features.read_each_flag.Given as goal

abbrev pub invariant-loop-name : goal.invariant-loop-name
invariant-loop-name l = flags_in (members_view l.members.entries) ≡ left l.flags l.name-iterator
