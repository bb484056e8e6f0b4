use Rattle.std.proofs.Common.{◌≤◌, arith, rules, subst, sym}
use Rattle.std.specs.Prelude.{slice_index}
use Rattle.std.specs.List.{Contains}
use Rattle.std.proofs.lemmas.Option.{slice_get_within}
use Rattle.wesl_cycles.proofs.SearchLemmas.{ranks_more}
use Rattle.wesl_cycles.proofs.ring.are_ranks.Goals as goal

pub loop-at-preserved : goal.loop-at-preserved
loop-at-preserved c =
    ranks_more c.args.ranks.now c.args.rows.now c.loop-at.at c.index-rows-at.result c.loop-at-test.true c.index-rows-at.is c.loop-at.invariant
    (λ j h. subst (λ r. slice_index c.args.ranks.now j ≤ r) c.rank_of.ensures
    (c.is_row_under.ensures (search rules) j (subst (λ xs. Contains xs j) (sym c.as_slice.ensures) h)))

pub returns : goal.returns
returns c = λ t i j l. c.loop-at.invariant i j (omega (arith, slice_get_within c.args.rows.now i l.row l.stands)) l
