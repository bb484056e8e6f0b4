use Rattle.std.proofs.Common.{◌≡◌, sym, subst, inr, Some}
use Rattle.std.specs.Prelude.{string_bytes}
use Rattle.std.specs.List.{Contains}
use Rattle.std.specs.BTreeMap.{get_by_text}
use Rattle.std.specs.declared.string.String.{String}
use Rattle.std.specs.declared.alloc.Global.{Global}
use Rattle.core_reach.specs.declared.linking.AskedModule.{AskedModule}
use Rattle.std.specs.Map.Iter.{deref_pair}
use Rattle.std.proofs.lemmas.List.Elements.{All-contains}
use Rattle.std.proofs.lemmas.Map.Iter.{rest_more, rest_all}
use Rattle.core_reach.specs.Stages.{asks, stage}
use Rattle.core_reach.specs.Underway.{LeadsOn, IsSought, EachName}
use Rattle.core_reach.proofs.FollowLemmas.{two_moves}
use Rattle.core_reach.proofs.PresentLemmas.{one_done, all_done}
use Rattle.core_reach.proofs.RootLemmas.{asks_nothing}
use Rattle.core_reach.proofs.SeekLemmas.{sought_moves, done_more, first_among, rest_among}
use Rattle.core_reach.proofs.AskedLemmas.{EntrySought, begins, none_reached, asked_underway}
use Rattle.core_reach.proofs.closing.close_asked.Goals as goal

pub loop-text-init : goal.loop-text-init
loop-text-init c = record {
  sound = λ lead before. (before, none_reached c.args.linking.now c.found_nothing-found.result.reached.items c.found_nothing-found.ensures.reached);
  in_order = λ keyed named. asks_nothing c.args.linking.now c.args.held.now c.found_nothing-found.result.asked c.found_nothing-found.ensures.asked named;
  moves = begins c.args.held.now (asks c.found_nothing-found.result.asked) c.found_nothing-found.result.is_missing c.found_nothing-found.result.reached.items c.found_nothing-found.ensures.reached;
  handled = λ e there. inr (subst (λ l. Contains l e) (sym c.into_iter-text-iterator.ensures.into_iter_gives.0) there);
  among = λ e left.
      let there = subst (λ l. Contains l e) c.into_iter-text-iterator.ensures.into_iter_gives.0 left in
      All-contains (λ (e : String Global × AskedModule). get_by_text c.args.asked.now (string_bytes e.0) ≡ Some e.1) c.args.asked.now.entries e c.into_iter-text-iterator.ensures.into_iter_gives.6 there;
}

pub loop-text-preserved : goal.loop-text-preserved
loop-text-preserved c =
    let left = rest_more deref_pair c.loop-text.text-iterator c.next.new.self c.next.result (c.in-Some.text, c.in-Some.«module») c.in-Some.is c.next.ensures.steps in
    let here = first_among c.loop-text.text-iterator c.next.new.self c.loop-text.text-iterator (c.in-Some.text.now, c.in-Some.«module».now) left (λ e there. there) in
    let is = c.loop-text.invariant.among (c.in-Some.text.now, c.in-Some.«module».now) here in
    let s = stage c.loop-text.held (asks c.loop-text.found.asked) c.loop-text.found.is_missing c.loop-text.found.reached.items in
    let t = stage c.seek_all.new.held (asks c.seek_all.new.found.asked) c.seek_all.new.found.is_missing c.seek_all.new.found.reached.items in
    record {
      sound = λ lead before.
          c.in_ok-seek_all.ensures.sound
          (subst (λ p. EachName (LeadsOn c.args.linking.now p) c.in-Some.«module».now.names) (sym c.as_str.ensures.value) (lead (string_bytes c.in-Some.text.now) c.in-Some.«module».now is))
          (c.loop-text.invariant.sound lead before);
      in_order = λ keyed named. c.in_ok-seek_all.ensures.in_order keyed (c.loop-text.invariant.in_order keyed named);
      moves = two_moves _ _ _ c.loop-text.invariant.moves c.in_ok-seek_all.ensures.moves;
      handled = one_done (EntrySought c.args.linking.now t) c.loop-text.text-iterator c.next.new.self c.args.asked.now.entries (c.in-Some.text.now, c.in-Some.«module».now) left
          (subst (λ p. EachName (IsSought c.args.linking.now t p) c.in-Some.«module».now.names) c.as_str.ensures.value c.in_ok-seek_all.ensures.handled)
          (done_more (EntrySought c.args.linking.now s) (EntrySought c.args.linking.now t) c.loop-text.text-iterator c.args.asked.now.entries
          (λ e each k there. sought_moves c.args.linking.now s t (string_bytes e.0) (string_bytes k) c.in_ok-seek_all.ensures.moves (each k there)) c.loop-text.invariant.handled);
      among = λ e there. c.loop-text.invariant.among e
          (rest_among c.loop-text.text-iterator c.next.new.self c.loop-text.text-iterator (c.in-Some.text.now, c.in-Some.«module».now) left (λ x y. y) e there);
    }

pub returns-clause-closed : goal.returns-clause-closed
returns-clause-closed c = λ old keyed closed on.
    let s = stage c.loop-text.held (asks c.loop-text.found.asked) c.loop-text.found.is_missing c.loop-text.found.reached.items in
    c.close.ensures.closed
    (asked_underway c.args.linking.now old c.args.held.now c.args.asked.now closed on
    c.loop-text.held c.loop-text.found.asked c.loop-text.found.is_missing c.loop-text.found.reached.items c.loop-text.invariant.moves
    (all_done (EntrySought c.args.linking.now s) c.loop-text.text-iterator c.args.asked.now.entries
    (rest_all deref_pair c.loop-text.text-iterator c.next.new.self c.next.result c.in-None.is c.next.ensures.steps) c.loop-text.invariant.handled)
    keyed c.loop-text.invariant.sound c.loop-text.invariant.in_order)

pub returns-clause-refused : goal.returns-clause-refused
returns-clause-refused c = λ old keyed closed on.
    let s = stage c.loop-text.held (asks c.loop-text.found.asked) c.loop-text.found.is_missing c.loop-text.found.reached.items in
    c.close.ensures.refused
    (asked_underway c.args.linking.now old c.args.held.now c.args.asked.now closed on
    c.loop-text.held c.loop-text.found.asked c.loop-text.found.is_missing c.loop-text.found.reached.items c.loop-text.invariant.moves
    (all_done (EntrySought c.args.linking.now s) c.loop-text.text-iterator c.args.asked.now.entries
    (rest_all deref_pair c.loop-text.text-iterator c.next.new.self c.next.result c.in-None.is c.next.ensures.steps) c.loop-text.invariant.handled)
    keyed c.loop-text.invariant.sound c.loop-text.invariant.in_order)
