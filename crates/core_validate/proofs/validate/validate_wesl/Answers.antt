use Rattle.std.proofs.Common.{◌≡◌, ◌∙◌, subst, []}
use Rattle.std.specs.List.{flat_map}
use Rattle.core_syntax.specs.View.{unit_tree}
use Rattle.core_validate.specs.Lookups.{lookup, texts, trees}
use Rattle.core_validate.specs.Faults.{duplicates_in, faults_at, undefined_at, miscall_at, IsFlat, FindsRing}
use Rattle.core_validate.proofs.FaultLemmas.{Refuses}
use Rattle.core_validate.proofs.UnitLemmas.{rows_are, distinct_is, through, names_duplicate, names_undefined, names_miscall, faultless, ring_named}
use Rattle.core_validate.proofs.validate.validate_wesl.Goals as goal

pub returns-in_err-check_duplicates-clause-fault : goal.returns-in_err-check_duplicates-clause-fault
returns-in_err-check_duplicates-clause-fault c =
    let unit = unit_tree c.args.unit.now in
    let table = texts c.args.names.now in
    let are = c.as_slice-declarations.ensures in
    through _ unit table _ c.in_err-check_duplicates.field-0.0 c.from_residual.ensures.1
    (names_duplicate unit table c.in_err-check_duplicates.field-0.0
    (subst (λ xs. Refuses (flat_map duplicates_in (trees xs)) c.in_err-check_duplicates.field-0.0) are c.in_err-check_duplicates.ensures))

pub returns-in_err-check_names-clause-fault : goal.returns-in_err-check_names-clause-fault
returns-in_err-check_names-clause-fault c =
    let unit = unit_tree c.args.unit.now in
    let table = texts c.args.names.now in
    let are = c.as_slice-declarations.ensures in
    let distinct = distinct_is c.args.unit.now c.as_slice-declarations.result.now are c.in_ok-check_duplicates.ensures in
    let made = rows_are c.args.unit.now c.as_slice-declarations.result.now (lookup c.in_ok-index.index) c.as_slice-rows.result.now are c.in_ok-index.ensures (c.as_slice-rows.ensures ∙ c.in_ok-rows.ensures) in
    through _ unit table _ c.in_err-check_names.field-0.0 c.from_residual-in_err-check_names.ensures.1
    (names_undefined unit table c.in_err-check_names.field-0.0 distinct
    (subst (λ rs. Refuses (faults_at (undefined_at table) rs) c.in_err-check_names.field-0.0) made c.in_err-check_names.ensures))

pub returns-in_err-check_calls-clause-fault : goal.returns-in_err-check_calls-clause-fault
returns-in_err-check_calls-clause-fault c =
    let unit = unit_tree c.args.unit.now in
    let table = texts c.args.names.now in
    let are = c.as_slice-declarations.ensures in
    let distinct = distinct_is c.args.unit.now c.as_slice-declarations.result.now are c.in_ok-check_duplicates.ensures in
    let made = rows_are c.args.unit.now c.as_slice-declarations.result.now (lookup c.in_ok-index.index) c.as_slice-rows.result.now are c.in_ok-index.ensures (c.as_slice-rows.ensures ∙ c.in_ok-rows.ensures) in
    let defined = subst (λ rs. faults_at (undefined_at table) rs ≡ []) made c.in_ok-check_names.ensures in
    through _ unit table _ c.in_err-check_calls.field-0.0 c.from_residual-in_err-check_calls.ensures.1
    (names_miscall unit table c.in_err-check_calls.field-0.0 distinct defined
    (subst (λ rs. Refuses (faults_at (miscall_at rs) rs) c.in_err-check_calls.field-0.0) made c.in_err-check_calls.ensures))

pub returns-clause-ok : goal.returns-clause-ok
returns-clause-ok c =
    let unit = unit_tree c.args.unit.now in
    let table = texts c.args.names.now in
    let are = c.as_slice-declarations.ensures in
    let distinct = distinct_is c.args.unit.now c.as_slice-declarations.result.now are c.in_ok-check_duplicates.ensures in
    let made = rows_are c.args.unit.now c.as_slice-declarations.result.now (lookup c.in_ok-index.index) c.as_slice-rows.result.now are c.in_ok-index.ensures (c.as_slice-rows.ensures ∙ c.in_ok-rows.ensures) in
    let defined = subst (λ rs. faults_at (undefined_at table) rs ≡ []) made c.in_ok-check_names.ensures in
    let called = subst (λ rs. faults_at (miscall_at rs) rs ≡ []) made c.in_ok-check_calls.ensures in
    let flat : IsFlat unit table = record { distinct = distinct; defined = defined; called = called } in
    faultless unit table _ c.check_rings.result flat (subst (λ rs. FindsRing rs c.check_rings.result) made c.check_rings.ensures)

pub returns-clause-fault : goal.returns-clause-fault
returns-clause-fault c =
    let unit = unit_tree c.args.unit.now in
    let table = texts c.args.names.now in
    let are = c.as_slice-declarations.ensures in
    let distinct = distinct_is c.args.unit.now c.as_slice-declarations.result.now are c.in_ok-check_duplicates.ensures in
    let made = rows_are c.args.unit.now c.as_slice-declarations.result.now (lookup c.in_ok-index.index) c.as_slice-rows.result.now are c.in_ok-index.ensures (c.as_slice-rows.ensures ∙ c.in_ok-rows.ensures) in
    let defined = subst (λ rs. faults_at (undefined_at table) rs ≡ []) made c.in_ok-check_names.ensures in
    let called = subst (λ rs. faults_at (miscall_at rs) rs ≡ []) made c.in_ok-check_calls.ensures in
    let flat : IsFlat unit table = record { distinct = distinct; defined = defined; called = called } in
    ring_named unit table _ c.check_rings.result flat (subst (λ rs. FindsRing rs c.check_rings.result) made c.check_rings.ensures)
