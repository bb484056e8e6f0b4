use Rattle.std.proofs.Common.{subst, sym, Some, None}
use Rattle.std.specs.Map.Iter.{deref_pair}
use Rattle.std.proofs.lemmas.Map.Iter.{rest_more, rest_all}
use Rattle.core_scopes.specs.Outcomes.{loaded}
use Rattle.core_reach.specs.Closing.{held_at}
use Rattle.core_reach.specs.Missing.{FindsMissing, held_in}
use Rattle.core_reach.proofs.FirstLemmas.{held_under, IsAhead, IsLeft, all_parts, one_part, no_part, first_part, module_parts, modules_ascend, all_present_of}
use Rattle.core_reach.proofs.missing.first_missing.Goals as goal

pub loop-text-init : goal.loop-text-init
loop-text-init c =
    let es = c.args.held.now.entries in
    let find = loaded c.args.modules.now in
    subst (λ left. IsLeft find held_under IsAhead left es)
    (sym c.into_iter-text-iterator.ensures.into_iter_gives.0)
    (all_parts find held_under IsAhead es (modules_ascend es c.into_iter-text-iterator.ensures.into_iter_gives.5))

pub loop-text-preserved : goal.loop-text-preserved
loop-text-preserved c =
    let find = loaded c.args.modules.now in
    one_part find held_under IsAhead c.loop-text.text-iterator c.next.new.self c.args.held.now.entries (c.in-Some.text.now, c.in-Some.places.now)
    (rest_more deref_pair c.loop-text.text-iterator c.next.new.self c.next.result (c.in-Some.text, c.in-Some.places) c.in-Some.is c.next.ensures.steps)
    c.loop-text.invariant
    (subst (λ t. FindsMissing find (held_in t c.in-Some.places.now) None) c.as_str.ensures.value
    (subst (FindsMissing find (held_in c.as_str.result.now c.in-Some.places.now)) c.in_default.is c.in_ok-error.ensures))

pub returns-in-Some-2-clause-first : goal.returns-in-Some-2-clause-first
returns-in-Some-2-clause-first c =
    let find = loaded c.args.modules.now in
    first_part find held_under (held_at c.args.held.now) IsAhead c.args.held.now.entries (module_parts c.args.held.now c.into_iter-text-iterator.ensures.into_iter_gives.5)
    c.loop-text.text-iterator c.next.new.self (c.in-Some.text.now, c.in-Some.places.now) c.in-Some-2.error
    (rest_more deref_pair c.loop-text.text-iterator c.next.new.self c.next.result (c.in-Some.text, c.in-Some.places) c.in-Some.is c.next.ensures.steps)
    c.loop-text.invariant
    (subst (λ t. FindsMissing find (held_in t c.in-Some.places.now) (Some c.in-Some-2.error)) c.as_str.ensures.value
    (subst (FindsMissing find (held_in c.as_str.result.now c.in-Some.places.now)) c.in-Some-2.is c.in_ok-error.ensures))

none_left : (c : goal.In-None) → FindsMissing (loaded c.args.modules.now) (held_at c.args.held.now) None
none_left c =
    no_part (loaded c.args.modules.now) held_under (held_at c.args.held.now) IsAhead c.args.held.now.entries (module_parts c.args.held.now c.into_iter-text-iterator.ensures.into_iter_gives.5)
    c.loop-text.text-iterator
    (rest_all deref_pair c.loop-text.text-iterator c.next.new.self c.next.result c.in-None.is c.next.ensures.steps)
    c.loop-text.invariant

pub returns-clause-first : goal.returns-clause-first
returns-clause-first c = none_left c

pub returns-clause-present : goal.returns-clause-present
returns-clause-present c = λ none. all_present_of (loaded c.args.modules.now) (held_at c.args.held.now) (none_left c)
