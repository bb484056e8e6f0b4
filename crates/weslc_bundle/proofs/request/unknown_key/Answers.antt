use Rattle.std.proofs.Common.{◌∙◌, sym, ap}
use Rattle.weslc_bundle.proofs.Keys.{unknown_of_keys, unknown_name}
use Rattle.weslc_bundle.proofs.request.unknown_key.Goals as goal

pub loop-key-init : goal.loop-key-init
loop-key-init c =
    let all = c.into_iter-key-iterator.ensures.into_iter_gives ∙ c.keys-key-items.ensures.rest in
    (tt, tt, unknown_of_keys c.args.members.now.entries ∙ ap unknown_name (sym all))
