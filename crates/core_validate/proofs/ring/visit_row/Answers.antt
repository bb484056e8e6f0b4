use Rattle.std.proofs.Common.{◌≡◌, refl, subst, true, false, length}
use Rattle.std.proofs.lemmas.Option.{slice_get_past, slice_get_read}
use Rattle.std.proofs.lemmas.Result.{IfOk-weaker}
use Rattle.core_validate.specs.Rings.{Leads}
use Rattle.core_validate.specs.Searches.{Targets, Visits, VisitsRow}
use Rattle.core_validate.proofs.SearchLemmas.{visits_row_none, visits_row_some, lead_to}
use Rattle.core_validate.proofs.ring.visit_row.Goals as goal

pub returns-in-None-clause-visits : goal.returns-in-None-clause-visits
returns-in-None-clause-visits c = λ _. visits_row_none _ _ _ _ (slice_get_past c.args.rows.now c.args.position c.in-None.ensures.lookup.3)

pub returns-in-Some-clause-visits : goal.returns-in-Some-clause-visits
returns-in-Some-clause-visits c =
    let rows = c.args.rows.now in
    let row = c.in-Some.row.now in
    let old = c.args.reached.now.items in
    let new = c.visit.new.reached.items in
    let found = c.in-Some.ensures.lookup.3 in
    let stands = slice_get_read rows _ c.args.position row refl found.0 (found.1 row) in
    IfOk-weaker c.visit.result (λ back. back ≡ false → Visits c.as_slice.result.now c.args.start (length c.args.seen.now) old new)
    (λ back. back ≡ false → VisitsRow rows c.args.position c.args.start old new)
    (λ back h e. visits_row_some rows c.args.position c.args.start old new row stands
    (subst (λ ps. Visits ps c.args.start (length rows) old new) c.as_slice.ensures
    (subst (λ n. Visits c.as_slice.result.now c.args.start n old new) c.requires.sized (h e))))
    c.visit.ensures.visits

pub returns-in-Some-clause-back : goal.returns-in-Some-clause-back
returns-in-Some-clause-back c =
    let rows = c.args.rows.now in
    let row = c.in-Some.row.now in
    let found = c.in-Some.ensures.lookup.3 in
    let stands = slice_get_read rows _ c.args.position row refl found.0 (found.1 row) in
    IfOk-weaker c.visit.result (λ back. back ≡ true → Targets c.as_slice.result.now c.args.start) (λ back. back ≡ true → Leads rows c.args.position c.args.start)
    (λ back h e. lead_to rows c.args.position c.args.start row stands (subst (λ ps. Targets ps c.args.start) c.as_slice.ensures (h e)))
    c.visit.ensures.back
