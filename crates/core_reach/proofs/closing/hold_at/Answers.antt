use Rattle.core_reach.proofs.ClosingLemmas.{holds}
use Rattle.core_reach.proofs.closing.hold_at.Goals as goal

pub returns : goal.returns
returns c =
    holds c.args.held.now c.take_places-places.new.held c.insert-2.new.self c.take_places-places.result c.insert.new.self c.in_ok-from_str.field-0 c.args.text.now c.args.place c.args.name
    c.take_places-places.ensures.places c.take_places-places.ensures.others c.in_ok-insert.ensures.updates c.in_ok-from_str.ensures.ok c.in_ok-insert-2.ensures.updates
