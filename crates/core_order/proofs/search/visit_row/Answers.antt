use Rattle.std.proofs.Common.{refl, subst, length}
use Rattle.std.proofs.lemmas.Option.{slice_get_past, slice_get_read}
use Rattle.std.proofs.lemmas.Result.{on_ok_weaker}
use Rattle.core_order.specs.Searches.{Visits}
use Rattle.core_order.proofs.Searching.{visits_row_none, visits_row_some}
use Rattle.core_order.proofs.search.visit_row.Goals as goal

pub returns-in-None-clause-visits : goal.returns-in-None-clause-visits
returns-in-None-clause-visits c = visits_row_none _ _ _ _ (slice_get_past c.args.rows.now c.args.position c.in-None.ensures.lookup.3)

pub returns-in-Some-clause-visits : goal.returns-in-Some-clause-visits
returns-in-Some-clause-visits c =
    let rows = c.args.rows.now in
    let row = c.in-Some.row.now in
    let old = c.args.reached.now.items in
    let new = c.visit.new.reached.items in
    let found = c.in-Some.ensures.lookup.3 in
    let stands = slice_get_read rows _ c.args.position row refl found.0 (found.1 row) in
    on_ok_weaker c.visit.result
    (λ h. visits_row_some rows c.args.position c.args.settled.now old new row stands
    (subst (λ ps. Visits ps c.args.settled.now (length rows) old new) c.as_slice.ensures
    (subst (λ n. Visits c.as_slice.result.now c.args.settled.now n old new) c.requires.sized h)))
    c.visit.ensures.visits
