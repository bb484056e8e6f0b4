use Rattle.std.proofs.Common.{subst, sym, ◌∙◌}
use Rattle.std.specs.BTreeMap.{keys}
use Rattle.std.specs.Map.Iter.{deref}
use Rattle.std.proofs.lemmas.Map.Iter.{rest_more, rest_all}
use Rattle.core_scopes.specs.Outcomes.{loaded}
use Rattle.core_reach.specs.Missing.{FindsMissing, held_in, held_alone}
use Rattle.core_reach.proofs.FirstLemmas.{IsLower, IsLeft, all_parts, one_part, no_part, first_part, place_parts, places_ascend}
use Rattle.core_reach.proofs.missing.missing_among.Goals as goal

pub loop-place-init : goal.loop-place-init
loop-place-init c =
    let ks = keys c.args.places.now in
    let find = loaded c.args.modules.now in
    let part = held_alone c.args.text.now in
    subst (λ left. IsLeft find part IsLower left ks)
    (sym c.keys-place-items.ensures.rest ∙ sym c.into_iter-place-iterator.ensures.into_iter_gives)
    (all_parts find part IsLower ks (places_ascend ks c.keys-place-items.ensures.ordered))

pub loop-place-preserved : goal.loop-place-preserved
loop-place-preserved c =
    one_part (loaded c.args.modules.now) (held_alone c.args.text.now) IsLower c.loop-place.place-iterator c.next.new.self (keys c.args.places.now) c.in-Some.place.now
    (rest_more deref c.loop-place.place-iterator c.next.new.self c.next.result c.in-Some.place c.in-Some.is c.next.ensures.steps)
    c.loop-place.invariant
    (subst (FindsMissing (loaded c.args.modules.now) (held_alone c.args.text.now c.in-Some.place.now)) c.in_default.is c.in_ok-error.ensures)

pub returns-in-Some-2 : goal.returns-in-Some-2
returns-in-Some-2 c =
    first_part (loaded c.args.modules.now) (held_alone c.args.text.now) (held_in c.args.text.now c.args.places.now) IsLower (keys c.args.places.now)
    (place_parts c.args.text.now c.args.places.now) c.loop-place.place-iterator c.next.new.self c.in-Some.place.now c.in-Some-2.error
    (rest_more deref c.loop-place.place-iterator c.next.new.self c.next.result c.in-Some.place c.in-Some.is c.next.ensures.steps)
    c.loop-place.invariant
    (subst (FindsMissing (loaded c.args.modules.now) (held_alone c.args.text.now c.in-Some.place.now)) c.in-Some-2.is c.in_ok-error.ensures)

pub returns : goal.returns
returns c =
    no_part (loaded c.args.modules.now) (held_alone c.args.text.now) (held_in c.args.text.now c.args.places.now) IsLower (keys c.args.places.now)
    (place_parts c.args.text.now c.args.places.now) c.loop-place.place-iterator
    (rest_all deref c.loop-place.place-iterator c.next.new.self c.next.result c.in-None.is c.next.ensures.steps)
    c.loop-place.invariant
