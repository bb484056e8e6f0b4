use Rattle.std.proofs.Common.{◌<◌, length, rules, arith, ◌∙◌}
use Rattle.core_order.proofs.Searching.{search_starts, search_more, search_ends}
use Rattle.core_order.proofs.search.search.Goals as goal

pub returns-then-at-len : goal.returns-then-at-len
returns-then-at-len c =
    search_ends _ _ _ _ _ _ c.loop-at.invariant.searched (omega (arith, c.loop-at.reached.ok.0)) c.loop-at.invariant.sized c.loop-at.invariant.marked

pub loop-at-init : goal.loop-at-init
loop-at-init c = record {
  sized = c.visit_row.auto.seen ∙ c.requires.sized;
  marked = c.in_ok-visit_row.ensures.marked;
  searched = search_starts _ _ _ _ (search rules);
}

pub loop-at-preserved : goal.loop-at-preserved
loop-at-preserved c =
    let more : c.loop-at.at < length c.loop-at.reached.items = omega (arith, c.loop-at.reached.ok.0, c.loop-at.invariant.searched.within) in
    record {
      sized = c.visit_row-in-loop-at.auto.seen ∙ c.loop-at.invariant.sized;
      marked = c.in_ok-visit_row-2.ensures.marked;
      searched =
          search_more _ _ _ c.loop-at.at _ c.loop-at.invariant.searched c.index-position.result.now more c.index-position.ensures _
          c.in_ok-visit_row-2.ensures.visits;
    }
