use Rattle.std.proofs.Common.{◌≡◌, drop}
use Rattle.serde_json.specs.Find.{as_str}
use Rattle.serde_json.specs.View.{items_view}
use Rattle.weslc_bundle.specs.Bundles.{each}
use Rattle.weslc_bundle.proofs.Lists.{left}
use Rattle.weslc_bundle.proofs.request.read_names.Given as goal

abbrev pub invariant-loop-value : goal.invariant-loop-value
invariant-loop-value l =
    each as_str (items_view l.values) ≡ left as_str l.names (drop l.value-index l.values)
