use Rattle.std.proofs.Common.{[], ◌+◌, take, sym, ◌∙◌, subst}
use Rattle.core_order.specs.Order.{none_left}
use Rattle.core_order.specs.Progressing.{view, none_begun, StartsAll}
use Rattle.core_order.specs.Units.{values_from}
use Rattle.core_order.proofs.Starting.{keeps_function, starts_first, passes_function, is_order}
use Rattle.core_order.proofs.start.start_all.Goals as goal

pub loop-position-init : goal.loop-position-init
loop-position-init c = record {
  kept = c.requires.kept;
  starts = subst (λ p. StartsAll c.args.rows.now p [] (view c.args.state.now)) c.requires.first none_left;
}

pub loop-position-preserved-then-is_some : goal.loop-position-preserved-then-is_some
loop-position-preserved-then-is_some c = record {
  kept =
      keeps_function c.args.rows.now c.loop-position.position c.index-rows-position.result c.loop-position.state c.settle_function.new.state c.loop-position-test.true
      c.index-rows-position.is (sym c.is_some.ensures ∙ c.if-is_some.true) c.loop-position.invariant.kept c.settle_function.ensures;
  starts =
      subst (λ p. StartsAll c.args.rows.now none_begun (values_from 0 (take (c.loop-position.position + 1) c.args.rows.now)) p) (sym c.settle_function.ensures.progress)
      (passes_function c.args.rows.now _ _ c.loop-position.position c.index-rows-position.result c.loop-position-test.true c.index-rows-position.is
      (sym c.is_some.ensures ∙ c.if-is_some.true) c.loop-position.invariant.starts);
}

pub loop-position-preserved : goal.loop-position-preserved
loop-position-preserved c = record {
  kept = c.in_ok-start.ensures.kept;
  starts = starts_first c.args.rows.now _ _ _ c.loop-position.position c.index-rows-position.result c.loop-position-test.true c.index-rows-position.is
      (sym c.is_some.ensures ∙ c.if-is_some.false) c.loop-position.invariant.starts c.in_ok-start.ensures.starts;
}

pub returns : goal.returns
returns c = is_order c.args.rows.now c.loop-position.position c.loop-position.state c.loop-position-test.false c.loop-position.invariant.starts
