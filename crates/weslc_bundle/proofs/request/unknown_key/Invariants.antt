use Rattle.std.proofs.Common.{◌≡◌}
use Rattle.serde_json.specs.View.{members_view}
use Rattle.weslc_bundle.specs.Bundles.{unknown}
use Rattle.weslc_bundle.proofs.Keys.{unknown_name}
use Rattle.weslc_bundle.proofs.request.unknown_key.Given as goal

abbrev pub invariant-loop-key : goal.invariant-loop-key
invariant-loop-key l =
    (goal.iterator-loop-key).can_next l.key-iterator
    × (goal.iterator-loop-key).is_finite l.key-iterator
    × (unknown (members_view l.members.entries) ≡ unknown_name l.key-iterator)
