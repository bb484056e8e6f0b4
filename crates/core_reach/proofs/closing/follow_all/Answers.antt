use Rattle.std.proofs.Common.{◌≡◌, ◌≤◌, sym, ap, length, map, arith}
use Rattle.std.proofs.lemmas.Bool.{ltb-false}
use Rattle.std.proofs.lemmas.List.{length-map}
use Rattle.core_scopes.specs.Outcomes.{loaded}
use Rattle.core_reach.specs.Closing.{IsReached}
use Rattle.core_reach.specs.ClosingClauses.{found_stage}
use Rattle.core_reach.specs.Stages.{place_of}
use Rattle.core_reach.proofs.ClosingLemmas.{held_there}
use Rattle.core_reach.proofs.FollowLemmas.{no_move, two_moves, followed_more, followed_all}
use Rattle.core_reach.proofs.StageLemmas.{place_there}
use Rattle.core_reach.proofs.closing.follow_all.Goals as goal

pub loop-at-preserved : goal.loop-at-preserved
loop-at-preserved c = record {
  in_order = λ keyed sound before.
      c.in_ok-follow.ensures.in_order keyed
      (held_there (IsReached c.args.linking.now) c.deref.result.now c.loop-at.found.reached.items c.loop-at.at c.in-Some.symbol.now c.deref.ensures.value
      c.in-Some.ensures.lookup.3.0 c.in-Some.ensures.lookup.1 (c.loop-at.invariant.sound sound).1)
      (c.loop-at.invariant.in_order keyed sound before);
  sound = λ sound.
      let before = c.loop-at.invariant.sound sound in
      c.in_ok-follow.ensures.sound
      (held_there (IsReached c.args.linking.now) c.deref.result.now c.loop-at.found.reached.items c.loop-at.at c.in-Some.symbol.now c.deref.ensures.value
      c.in-Some.ensures.lookup.3.0 c.in-Some.ensures.lookup.1 before.1)
      before;
  moves = two_moves _ _ _ c.loop-at.invariant.moves c.in_ok-follow.ensures.moves;
  followed = λ followed.
      followed_more (loaded c.args.linking.now.modules.now) _ _ c.loop-at.at _ _ (c.loop-at.invariant.followed followed)
      (place_there c.deref.result.now c.loop-at.found.reached.items c.loop-at.at c.in-Some.symbol.now c.deref.ensures.value c.in-Some.ensures.lookup.3.0 c.in-Some.ensures.lookup.1)
      c.in_ok-follow.ensures.moves c.in_ok-follow.ensures.followed;
}

pub loop-at-init : goal.loop-at-init
loop-at-init c = record {
  in_order = λ keyed sound before. before;
  sound = λ sound. sound;
  moves = no_move _;
  followed = λ followed. followed;
}

pub returns-in_default-clause-sound : goal.returns-in_default-clause-sound
returns-in_default-clause-sound c = c.loop-at.invariant.sound

pub returns-in_default-clause-in_order : goal.returns-in_default-clause-in_order
returns-in_default-clause-in_order c = c.loop-at.invariant.in_order

pub returns-in_default-clause-moves : goal.returns-in_default-clause-moves
returns-in_default-clause-moves c = c.loop-at.invariant.moves

pub returns-in_default-clause-followed : goal.returns-in_default-clause-followed
returns-in_default-clause-followed c = λ followed.
    let over : length c.deref.result.now ≤ c.loop-at.at = ltb-false c.loop-at.at (length c.deref.result.now) (sym c.in_default.ensures.lookup.0) in
    let same : length c.deref.result.now ≡ length c.loop-at.found.reached.items = ap length c.deref.ensures.value in
    let places : length (map place_of c.loop-at.found.reached.items) ≡ length c.loop-at.found.reached.items = length-map c.loop-at.found.reached.items place_of in
    followed_all (loaded c.args.linking.now.modules.now) (found_stage c.loop-at.held c.loop-at.found) c.loop-at.at (omega arith) (c.loop-at.invariant.followed followed)

pub returns-clause-sound : goal.returns-clause-sound
returns-clause-sound c = c.loop-at.invariant.sound

pub returns-clause-in_order : goal.returns-clause-in_order
returns-clause-in_order c = c.loop-at.invariant.in_order

pub returns-clause-moves : goal.returns-clause-moves
returns-clause-moves c = c.loop-at.invariant.moves
