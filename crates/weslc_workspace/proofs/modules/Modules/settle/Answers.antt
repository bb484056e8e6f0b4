use Rattle.std.proofs.Common.{refl, ◌∙◌}
use Rattle.weslc_workspace.proofs.Counting.{counts_none, counts_more}
use Rattle.weslc_workspace.proofs.modules.Modules.settle.Goals as goal

pub loop-path-init : goal.loop-path-init
loop-path-init c = record { texts = refl; counts = counts_none _ _ refl refl }

pub loop-path-preserved : goal.loop-path-preserved
loop-path-preserved c = record {
  texts = c.settle_one.ensures.texts ∙ c.loop-path.invariant.texts;
  counts = counts_more _ _ _ c.loop-path.invariant.counts c.settle_one.ensures.counts;
}

pub returns-in_err-settle_one-clause-texts : goal.returns-in_err-settle_one-clause-texts
returns-in_err-settle_one-clause-texts c = c.settle_one.ensures.texts ∙ c.loop-path.invariant.texts

pub returns-in_err-settle_one-clause-counts : goal.returns-in_err-settle_one-clause-counts
returns-in_err-settle_one-clause-counts c = counts_more _ _ _ c.loop-path.invariant.counts c.settle_one.ensures.counts
