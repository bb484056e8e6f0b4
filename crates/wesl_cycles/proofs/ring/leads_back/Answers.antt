use Rattle.std.proofs.Common.{◌<◌, length, rules, arith, ◌∙◌}
use Rattle.wesl_cycles.proofs.SearchLemmas.{search_finds, search_more, search_ends}
use Rattle.wesl_cycles.proofs.ring.leads_back.Goals as goal

pub returns-then-at-len : goal.returns-then-at-len
returns-then-at-len c =
    ((λ t. absurd (search rules)), (λ ring. absurd (search_ends _ _ _ _ c.loop-at.invariant.searched (omega (arith, c.loop-at.reached.ok.0)) ring)))

pub returns-then-branch : goal.returns-then-branch
returns-then-branch c =
    let more : c.loop-at.at < length c.loop-at.reached.items = omega (arith, c.loop-at.reached.ok.0, c.loop-at.invariant.searched.within) in (
      (λ t. search_finds _ _ c.loop-at.at _ c.loop-at.invariant.searched c.index-position.result.now more c.index-position.ensures (c.in_ok-visit_row.ensures.back c.if-branch.true)),
      (λ ring. search rules),
    )

pub loop-at-preserved : goal.loop-at-preserved
loop-at-preserved c =
    let more : c.loop-at.at < length c.loop-at.reached.items = omega (arith, c.loop-at.reached.ok.0, c.loop-at.invariant.searched.within) in
    record {
      sized = c.visit_row.auto.seen ∙ c.loop-at.invariant.sized;
      marked = c.in_ok-visit_row.ensures.marked c.if-branch.false;
      searched =
          search_more _ _ c.loop-at.at _ c.loop-at.invariant.searched c.index-position.result.now more c.index-position.ensures _
          (c.in_ok-visit_row.ensures.visits c.if-branch.false);
    }
