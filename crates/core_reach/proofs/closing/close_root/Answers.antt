use Rattle.std.proofs.Common.{sym, inl, []}
use Rattle.core_scopes.specs.Outcomes.{loaded}
use Rattle.core_reach.specs.Stages.{asks, stage}
use Rattle.wgsl_base.proofs.Members.{at_place}
use Rattle.core_reach.proofs.FollowLemmas.{two_moves}
use Rattle.core_reach.proofs.StageLemmas.{kept_more, kept_all, from_nothing}
use Rattle.core_reach.specs.Closed.{RefusesRoot}
use Rattle.core_reach.proofs.CloseLemmas.{err_passed}
use Rattle.core_reach.proofs.RootLemmas.{names_nothing, asks_nothing, refused_kept}
use Rattle.core_reach.proofs.closing.close_root.Goals as goal

pub reach_kept-requires : goal.reach_kept-requires
reach_kept-requires c = record { keep = (c.loop-name.name-index, c.loop-name-test.true, sym c.name-item.is) }

pub loop-name-preserved : goal.loop-name-preserved
loop-name-preserved c =
    let moves = c.in_ok-reach_kept.ensures.moves (asks c.loop-name.found.asked) c.loop-name.found.is_missing in
    record {
      sound = c.in_ok-reach_kept.ensures.sound c.loop-name.invariant.sound;
      moves = two_moves _ _ _ c.loop-name.invariant.moves moves;
      named = λ keyed named. c.in_ok-reach_kept.ensures.named keyed (c.loop-name.invariant.named keyed named);
      asked = c.loop-name.invariant.asked;
      kept = kept_more (loaded c.args.linking.now.modules.now) c.args.linking.now.root.now c.args.linking.now.keep.now c.loop-name.held c.reach_kept.new.held c.loop-name.name-index c.name-item.result
          (at_place c.args.linking.now.keep.now c.loop-name.name-index c.name-item.result c.loop-name-test.true (sym c.name-item.is))
          moves.stays_held c.loop-name.invariant.kept c.in_ok-reach_kept.ensures.kept;
    }

pub returns-clause-followed : goal.returns-clause-followed
returns-clause-followed c = λ empty.
    c.in_ok-asked.ensures.followed (from_nothing (loaded c.args.linking.now.modules.now)
    (stage c.args.held.now (asks c.loop-name.found.asked) c.loop-name.found.is_missing [])
    (stage c.loop-name.held (asks c.loop-name.found.asked) c.loop-name.found.is_missing c.loop-name.found.reached.items) empty c.loop-name.invariant.moves)

pub returns-clause-kept : goal.returns-clause-kept
returns-clause-kept c =
    kept_all (loaded c.args.linking.now.modules.now) c.args.linking.now.root.now c.args.linking.now.keep.now c.loop-name.held c.close.new.held c.loop-name.name-index
    c.loop-name-test.false c.in_ok-asked.ensures.stays c.loop-name.invariant.kept

pub returns-clause-closed : goal.returns-clause-closed
returns-clause-closed c = λ keyed nothing.
    c.in_ok-asked.ensures.closed (record {
      keyed = keyed;
      sound = c.loop-name.invariant.sound;
      in_order = asks_nothing c.args.linking.now c.loop-name.held c.loop-name.found.asked c.loop-name.invariant.asked
          (c.loop-name.invariant.named keyed (names_nothing c.args.linking.now c.args.held.now nothing));
      kept = kept_all (loaded c.args.linking.now.modules.now) c.args.linking.now.root.now c.args.linking.now.keep.now c.loop-name.held c.loop-name.held c.loop-name.name-index
          c.loop-name-test.false (λ m k h. h) c.loop-name.invariant.kept;
      followed = from_nothing (loaded c.args.linking.now.modules.now)
          (stage c.args.held.now (asks c.loop-name.found.asked) c.loop-name.found.is_missing [])
          (stage c.loop-name.held (asks c.loop-name.found.asked) c.loop-name.found.is_missing c.loop-name.found.reached.items) nothing c.loop-name.invariant.moves;
    })

pub returns-in_err-asked-clause-refused : goal.returns-in_err-asked-clause-refused
returns-in_err-asked-clause-refused c = λ keyed root nothing.
    let why = c.in_err-asked.ensures.refused (record {
      keyed = keyed;
      sound = c.loop-name.invariant.sound;
      in_order = asks_nothing c.args.linking.now c.loop-name.held c.loop-name.found.asked c.loop-name.invariant.asked
          (c.loop-name.invariant.named keyed (names_nothing c.args.linking.now c.args.held.now nothing));
      kept = kept_all (loaded c.args.linking.now.modules.now) c.args.linking.now.root.now c.args.linking.now.keep.now c.loop-name.held c.loop-name.held c.loop-name.name-index
          c.loop-name-test.false (λ m k h. h) c.loop-name.invariant.kept;
      followed = from_nothing (loaded c.args.linking.now.modules.now)
          (stage c.args.held.now (asks c.loop-name.found.asked) c.loop-name.found.is_missing [])
          (stage c.loop-name.held (asks c.loop-name.found.asked) c.loop-name.found.is_missing c.loop-name.found.reached.items) nothing c.loop-name.invariant.moves;
    }) in
    err_passed (RefusesRoot c.args.linking.now.modules.now c.args.linking.now.root.now c.args.linking.now.keep.now c.close.new.held)
    c.in_err-asked.field-0.0 c.from_residual-in_err-asked.result c.from_residual-in_err-asked.ensures.1 (inl why)

pub returns-in_err-reach_kept-clause-refused : goal.returns-in_err-reach_kept-clause-refused
returns-in_err-reach_kept-clause-refused c = λ keyed root nothing.
    let why = refused_kept c.args.linking.now _ c.reach_kept.new.held c.loop-name.held c.loop-name.name-index c.name-item.result c.in_err-reach_kept.field-0.0 root
    (at_place c.args.linking.now.keep.now c.loop-name.name-index c.name-item.result c.loop-name-test.true (sym c.name-item.is))
    c.loop-name.invariant.kept c.in_err-reach_kept.ensures.lacking in
    err_passed (RefusesRoot c.args.linking.now.modules.now c.args.linking.now.root.now c.args.linking.now.keep.now c.reach_kept.new.held)
    c.in_err-reach_kept.field-0.0 c.from_residual.result c.from_residual.ensures.1 why

pub returns-clause-sound : goal.returns-clause-sound
returns-clause-sound c = c.in_ok-asked.ensures.sound c.loop-name.invariant.sound
