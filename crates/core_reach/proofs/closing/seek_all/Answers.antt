use Rattle.std.proofs.Common.{sym, subst, inr}
use Rattle.std.specs.List.{Contains}
use Rattle.std.specs.Prelude.{string_bytes}
use Rattle.std.specs.Map.Iter.{deref}
use Rattle.std.proofs.lemmas.Map.Iter.{rest_more, rest_all}
use Rattle.core_reach.specs.Stages.{asks, stage}
use Rattle.core_reach.specs.Underway.{LeadsOn, IsSought}
use Rattle.core_reach.proofs.FollowLemmas.{two_moves, no_move}
use Rattle.core_reach.proofs.PresentLemmas.{one_done, all_done}
use Rattle.core_reach.proofs.SeekLemmas.{sought_moves, done_more, first_among, rest_among}
use Rattle.core_reach.proofs.closing.seek_all.Goals as goal

pub loop-name-init : goal.loop-name-init
loop-name-init c = record {
  sound = λ lead sound. sound;
  in_order = λ keyed before. before;
  moves = no_move (stage c.args.held.now (asks c.args.found.now.asked) c.args.found.now.is_missing c.args.found.now.reached.items);
  handled = λ x among. inr (subst (λ l. Contains l x) (sym c.into_iter-name-iterator.ensures.into_iter_gives.0) among);
  among = λ x left. subst (λ l. Contains l x) c.into_iter-name-iterator.ensures.into_iter_gives.0 left;
}

pub loop-name-preserved : goal.loop-name-preserved
loop-name-preserved c =
    let left = rest_more deref c.loop-name.name-iterator c.next.new.self c.next.result c.in-Some.name c.in-Some.is c.next.ensures.steps in
    let here = first_among c.loop-name.name-iterator c.next.new.self c.args.names.now.keys c.in-Some.name.now left c.loop-name.invariant.among in
    let s = stage c.loop-name.held (asks c.loop-name.found.asked) c.loop-name.found.is_missing c.loop-name.found.reached.items in
    let t = stage c.seek.new.held (asks c.seek.new.found.asked) c.seek.new.found.is_missing c.seek.new.found.reached.items in
    record {
      sound = λ lead sound.
          c.in_ok-seek.ensures.sound
          (subst (LeadsOn c.args.linking.now c.args.text.now) (sym c.as_str.ensures.value) (lead c.in-Some.name.now here))
          (c.loop-name.invariant.sound lead sound);
      in_order = λ keyed before. c.in_ok-seek.ensures.in_order keyed (c.loop-name.invariant.in_order keyed before);
      moves = two_moves _ _ _ c.loop-name.invariant.moves c.in_ok-seek.ensures.moves;
      handled = one_done (λ k. IsSought c.args.linking.now t c.args.text.now (string_bytes k)) c.loop-name.name-iterator c.next.new.self c.args.names.now.keys c.in-Some.name.now left
          (subst (IsSought c.args.linking.now t c.args.text.now) c.as_str.ensures.value c.in_ok-seek.ensures.handled)
          (done_more (λ k. IsSought c.args.linking.now s c.args.text.now (string_bytes k)) (λ k. IsSought c.args.linking.now t c.args.text.now (string_bytes k))
          c.loop-name.name-iterator c.args.names.now.keys
          (λ k. sought_moves c.args.linking.now s t c.args.text.now (string_bytes k) c.in_ok-seek.ensures.moves) c.loop-name.invariant.handled);
      among = rest_among c.loop-name.name-iterator c.next.new.self c.args.names.now.keys c.in-Some.name.now left c.loop-name.invariant.among;
    }

pub returns-clause-sound : goal.returns-clause-sound
returns-clause-sound c = c.loop-name.invariant.sound

pub returns-clause-in_order : goal.returns-clause-in_order
returns-clause-in_order c = c.loop-name.invariant.in_order

pub returns-clause-moves : goal.returns-clause-moves
returns-clause-moves c = c.loop-name.invariant.moves

pub returns-clause-handled : goal.returns-clause-handled
returns-clause-handled c =
    let s = stage c.loop-name.held (asks c.loop-name.found.asked) c.loop-name.found.is_missing c.loop-name.found.reached.items in
    all_done (λ k. IsSought c.args.linking.now s c.args.text.now (string_bytes k)) c.loop-name.name-iterator c.args.names.now.keys
    (rest_all deref c.loop-name.name-iterator c.next.new.self c.next.result c.in-None.is c.next.ensures.steps) c.loop-name.invariant.handled
