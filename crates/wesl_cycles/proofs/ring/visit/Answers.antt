use Rattle.std.proofs.Common.{subst, refl, get_or}
use Rattle.wesl_cycles.specs.Searches.{PassesBy}
use Rattle.wesl_cycles.proofs.SearchLemmas.{visits_more}
use Rattle.wesl_cycles.proofs.ring.visit.Goals as goal

pub loop-position-preserved : goal.loop-position-preserved
loop-position-preserved c =
    let at = get_or c.args.row.now c.loop-position.position-index 0 in
    record {
      marked = c.in_ok-pass.ensures.marked c.if-branch.false;
      visited =
          visits_more c.args.row.now c.loop-position.position-index at 0 _ _ _ _ _ c.loop-position-test.true refl c.loop-position.invariant.visited
          (subst (λ n. PassesBy at c.args.start n c.loop-position.reached.items c.pass.new.reached.items) c.loop-position.auto.seen
          (c.in_ok-pass.ensures.passes c.if-branch.false));
    }
