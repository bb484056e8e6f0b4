use Rattle.std.proofs.Common.{sym}
use Rattle.std.proofs.lemmas.Result.{err_from_is_err_and}
use Rattle.weslc_bundle.proofs.Answered.{faults_of}
use Rattle.weslc_bundle.proofs.Requests.{faults_flags, faults_default, settings_whole}
use Rattle.weslc_bundle.proofs.features.read_features.Goals as goal

pub returns-in_err-flags : goal.returns-in_err-flags
returns-in_err-flags c =
    let p = err_from_is_err_and c.from_residual.result c.from_residual.ensures.1 in
    rw (p.1, p.2) (faults_flags _ _ c.in_err-flags.ensures)

pub returns-in_err-default : goal.returns-in_err-default
returns-in_err-default c =
    let p = err_from_is_err_and c.from_residual-in_err-default.result c.from_residual-in_err-default.ensures.1 in
    rw (p.1, p.2) (faults_default _ _ _ c.in_ok-flags.ensures (faults_of c.in_err-default.ensures))

pub returns : goal.returns
returns c = settings_whole _ _ _ c.in_ok-flags.ensures (sym c.in_ok-default.ensures)
