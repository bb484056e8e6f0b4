use Rattle.std.proofs.Common.{arith, rules}
use Rattle.std.proofs.lemmas.Option.{slice_get_within}
use Rattle.core_validate.proofs.SearchLemmas.{ranks_more}
use Rattle.core_validate.proofs.ring.are_ranks.Goals as goal

pub loop-at-preserved : goal.loop-at-preserved
loop-at-preserved c =
    ranks_more c.args.ranks.now c.args.rows.now c.loop-at.at c.index-rows-at.result c.loop-at-test.true c.index-rows-at.is c.loop-at.invariant
    (c.is_row_ranked.ensures (search rules))

pub returns : goal.returns
returns c = λ t i j l h. c.loop-at.invariant i j (omega (arith, slice_get_within c.args.rows.now i l.row l.stands)) l h
