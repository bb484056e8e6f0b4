use Rattle.std.proofs.Common.{sym}
use Rattle.std.proofs.lemmas.Result.{err_from_is_err_and}
use Rattle.weslc_bundle.proofs.HandedKeys.{asked_value, asked_members, asked_handed, asked_whole}
use Rattle.weslc_bundle.proofs.handed.read_asked.Goals as goal

pub returns-in_err-value-clause-fault : goal.returns-in_err-value-clause-fault
returns-in_err-value-clause-fault c =
    let p = err_from_is_err_and c.from_residual.result c.from_residual.ensures.1 in
    rw (p.1, p.2) (asked_value _ _ c.in_err-value.ensures.fault)

pub returns-in_err-request-clause-fault : goal.returns-in_err-request-clause-fault
returns-in_err-request-clause-fault c =
    let p = err_from_is_err_and c.from_residual-in_err-request.result c.from_residual-in_err-request.ensures.1 in
    rw (p.1, p.2) (asked_members _ _ _ c.in_ok-value.ensures.value c.in_err-request.ensures)

pub returns-in_err-handed-clause-fault : goal.returns-in_err-handed-clause-fault
returns-in_err-handed-clause-fault c =
    let p = err_from_is_err_and c.from_residual-in_err-handed.result c.from_residual-in_err-handed.ensures.1 in
    rw (p.1, p.2) (asked_handed _ _ _ _ c.in_ok-value.ensures.value c.in_ok-request.ensures c.in_err-handed.ensures)

pub returns-clause-asked : goal.returns-clause-asked
returns-clause-asked c = asked_whole _ _ _ c.in_ok-value.ensures.value c.in_ok-request.ensures
