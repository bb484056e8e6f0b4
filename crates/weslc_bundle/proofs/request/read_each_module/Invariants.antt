use Rattle.std.proofs.Common.{◌≡◌, drop}
use Rattle.serde_json.specs.View.{items_view}
use Rattle.weslc_bundle.specs.Bundles.{each, module_of}
use Rattle.weslc_bundle.proofs.Lists.{left}
use Rattle.weslc_bundle.proofs.request.read_each_module.Given as goal

abbrev pub invariant-loop-value : goal.invariant-loop-value
invariant-loop-value l =
    each module_of (items_view l.values) ≡ left module_of l.modules (drop l.value-index l.values)
