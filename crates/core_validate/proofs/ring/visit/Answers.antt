use Rattle.std.proofs.Common.{subst}
use Rattle.core_validate.specs.Searches.{PassesBy}
use Rattle.core_validate.proofs.SearchLemmas.{visits_more}
use Rattle.core_validate.proofs.ring.visit.Goals as goal

pub loop-place-preserved : goal.loop-place-preserved
loop-place-preserved c = record {
  marked = c.in_ok-pass.ensures.marked c.if-branch.false;
  visited =
      visits_more _ _ c.place-item.result _ _ _ _ _ c.loop-place-test.true c.place-item.is c.loop-place.invariant.visited
      (subst (λ n. PassesBy c.place-item.result.meaning c.args.start n c.loop-place.reached.items c.pass.new.reached.items) c.loop-place.auto.seen
      (c.in_ok-pass.ensures.passes c.if-branch.false));
}
