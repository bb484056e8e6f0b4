use Rattle.std.proofs.Common.{sym, ◌∙◌}
use Rattle.std.proofs.lemmas.Map.Text.{hash_map_updates_str}
use Rattle.core_eval.proofs.Tables.{holds_new, holds_old}
use Rattle.core_eval.proofs.start.add_value.Goals as goal

pub returns-then-contains_key : goal.returns-then-contains_key
returns-then-contains_key c cs h =
    holds_old c.args.consts.now _ c.args.name.now c.args.value cs c.as_str-key.ensures (sym c.contains_key.ensures ∙ c.if-contains_key.true) h

pub returns : goal.returns
returns c cs h =
    holds_new c.args.consts.now c.insert.new.self _ c.args.name.now c.args.value cs c.as_str-key.ensures (sym c.contains_key.ensures ∙ c.if-contains_key.false)
    (hash_map_updates_str c.as_str-key.result.now c.args.consts.now c.insert.new.self _ c.in_ok-insert.ensures.updates) h
