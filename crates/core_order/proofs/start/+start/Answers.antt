use Rattle.std.proofs.Common.{ℕ, ◌<◌, [], length, arith, ap, sym, refl, ◌∙◌, subst}
use Rattle.std.proofs.lemmas.Result.{on_ok_weaker}
use Rattle.core_order.specs.Searches.{IsOn, Targets, Reaches}
use Rattle.core_order.proofs.Starting.{remaining, fewer_remain, keeps_begin, keeps_end, starts_none, starts_function, starts_next, starts_unmarked, starts_settled, starts_whole, starts_begun, read_mark, off_on}
use Rattle.core_order.proofs.start.+start.Goals as goal

pub returns-then-index-clause-starts : goal.returns-then-index-clause-starts
returns-then-index-clause-starts t c =
    starts_begun c.args.rows.now _ c.args.position c.requires.kept
    (read_mark _ c.args.position _ _ (omega (arith, c.requires.kept.sized, c.requires.within)) c.index.ensures c.if-index.true)

pub returns-then-denote_settled : goal.returns-then-denote_settled
returns-then-denote_settled t c =
    let rows = c.args.rows.now in
    let row = c.index-rows-position.result in
    let mid = c.begin.new.state in
    let off = read_mark c.args.state.now.marks.items c.args.position _ _ (omega (arith, c.requires.kept.sized, c.requires.within)) c.index.ensures c.if-index.false in
    let kept = keeps_begin rows c.args.state.now mid c.args.position c.requires.kept c.requires.within c.in_ok-begin.ensures in
    let same = c.as_slice.ensures ∙ ap (λ r. r.places) (sym c.index-rows-position.is) in
    let all = subst (λ s. (j : ℕ) → Targets row.places j → IsOn s j) c.as_slice-2.ensures.value
    (subst (λ ps. (j : ℕ) → Targets ps j → IsOn c.as_slice-2.result.now j) same (c.if-denote_settled.ensures refl)) in
    let reached = starts_settled rows c.args.position row mid kept c.requires.within c.index-rows-position.is all in
    record {
      kept =
          on_ok_weaker c.end.result
          (keeps_end rows c.args.position (length rows) [] c.args.state.now mid mid c.end.new.state kept c.in_ok-begin.ensures (omega arith) reached
          (λ j on. absurd (off_on [] j refl on)))
          c.end.ensures;
      starts =
          on_ok_weaker c.end.result
          (starts_whole rows c.args.position (length rows) [] c.args.state.now mid mid c.end.new.state c.requires.kept off c.in_ok-begin.ensures (omega arith) reached)
          c.end.ensures;
    }

pub loop-other-init : goal.loop-other-init
loop-other-init t c = record {
  kept = keeps_begin c.args.rows.now c.args.state.now c.begin.new.state c.args.position c.requires.kept c.requires.within c.in_ok-begin.ensures;
  reached = starts_none _ _ _;
}

pub loop-other-preserved-then-is_some : goal.loop-other-preserved-then-is_some
loop-other-preserved-then-is_some t c = record {
  kept = c.loop-other.invariant.kept;
  reached = starts_function c.args.rows.now c.args.position c.loop-other.other c.index-rows-other.result c.loop-other-test.true c.index-rows-other.is _ _
      c.loop-other.invariant.reached (sym c.is_some.ensures ∙ c.if-is_some.true);
}

pub loop-other-preserved-then-not-index : goal.loop-other-preserved-then-not-index
loop-other-preserved-then-not-index t c =
    let marks = c.in_ok-marks.marks.items in
    let found = c.in_ok-marks.ensures in
    let inside : c.loop-other.other < length marks = omega (arith, found.sized, c.loop-other-test.true) in
    record {
      kept = c.loop-other.invariant.kept;
      reached = starts_unmarked c.args.rows.now c.args.position c.loop-other.other c.index-rows-other.result marks c.begin.new.state c.loop-other.state
          c.loop-other-test.true c.index-rows-other.is
          (keeps_begin c.args.rows.now c.args.state.now c.begin.new.state c.args.position c.requires.kept c.requires.within c.in_ok-begin.ensures)
          c.loop-other.invariant.reached
          (subst (λ s. Reaches c.args.rows.now c.args.position s marks) c.as_slice-3.ensures.value found)
          (read_mark marks c.loop-other.other _ _ inside c.index-in-loop-other.ensures c.if-not-index.true);
    }

pub start-requires : goal.start-requires
start-requires t c =
    let off = read_mark c.args.state.now.marks.items c.args.position _ _ (omega (arith, c.requires.kept.sized, c.requires.within)) c.index.ensures c.if-index.false in
    let fewer : remaining c.loop-other.state.marks.items < remaining c.args.state.now.marks.items =
    fewer_remain c.args.rows.now c.args.position c.args.state.now c.begin.new.state c.loop-other.state _ c.requires.kept c.loop-other.invariant.kept off
    c.in_ok-begin.ensures c.loop-other.invariant.reached.comes in
    let below : remaining c.loop-other.state.marks.items < t = omega (arith, fewer, c.decreases) in
    (below, (c.loop-other-test.true, c.loop-other.invariant.kept))

pub loop-other-preserved : goal.loop-other-preserved
loop-other-preserved t c =
    let marks = c.in_ok-marks.marks.items in
    let found = c.in_ok-marks.ensures in
    let inside : c.loop-other.other < length marks = omega (arith, found.sized, c.loop-other-test.true) in
    record {
      kept = c.in_ok-start.ensures.kept;
      reached = starts_next c.args.rows.now c.args.position c.loop-other.other c.index-rows-other.result c.loop-other-test.true c.index-rows-other.is _ _
          c.loop-other.invariant.reached (sym c.is_some.ensures ∙ c.if-is_some.false)
          (found.only c.loop-other.other (read_mark marks c.loop-other.other _ _ inside c.index-in-loop-other.ensures c.if-not-index.false))
          _ c.in_ok-start.ensures.starts;
    }

pub returns-clause-kept : goal.returns-clause-kept
returns-clause-kept t c =
    let rows = c.args.rows.now in
    on_ok_weaker c.end-2.result
    (keeps_end rows c.args.position c.loop-other.other c.as_slice-4.result.now c.args.state.now c.begin.new.state c.loop-other.state c.end-2.new.state
    c.loop-other.invariant.kept c.in_ok-begin.ensures c.loop-other-test.false c.loop-other.invariant.reached
    (λ j on. c.in_ok-marks.ensures.only j (subst (λ m. IsOn m j) c.as_slice-4.ensures.value on)))
    c.end-2.ensures

pub returns-clause-starts : goal.returns-clause-starts
returns-clause-starts t c =
    let off = read_mark c.args.state.now.marks.items c.args.position _ _ (omega (arith, c.requires.kept.sized, c.requires.within)) c.index.ensures c.if-index.false in
    on_ok_weaker c.end-2.result
    (starts_whole c.args.rows.now c.args.position c.loop-other.other c.as_slice-4.result.now c.args.state.now c.begin.new.state c.loop-other.state c.end-2.new.state
    c.requires.kept off c.in_ok-begin.ensures c.loop-other-test.false c.loop-other.invariant.reached)
    c.end-2.ensures
