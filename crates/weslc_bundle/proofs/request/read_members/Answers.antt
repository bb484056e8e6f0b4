use Rattle.std.proofs.Common.{sym}
use Rattle.std.proofs.lemmas.Result.{err_from_is_err_and}
use Rattle.weslc_bundle.proofs.Answered.{faults_of}
use Rattle.weslc_bundle.proofs.Requests.{faults_keys, faults_command, faults_root, faults_modules, faults_features, faults_keep, faults_mode, faults_max_modules, faults_max_steps, request_whole}
use Rattle.weslc_bundle.proofs.request.read_members.Goals as goal

pub returns-in_err-check_keys : goal.returns-in_err-check_keys
returns-in_err-check_keys c =
    let p = err_from_is_err_and c.from_residual.result c.from_residual.ensures.1 in
    rw (p.1, p.2) (faults_keys _ _ c.in_err-check_keys.ensures)

pub returns-in_err-command : goal.returns-in_err-command
returns-in_err-command c =
    let p = err_from_is_err_and c.from_residual-in_err-command.result c.from_residual-in_err-command.ensures.1 in
    rw (p.1, p.2) (faults_command _ _ _ c.in_ok-check_keys.ensures (faults_of c.in_err-command.ensures))

pub returns-in_err-root : goal.returns-in_err-root
returns-in_err-root c =
    let p = err_from_is_err_and c.from_residual-in_err-root.result c.from_residual-in_err-root.ensures.1 in
    rw (p.1, p.2) (faults_root _ _ _ _ c.in_ok-check_keys.ensures (sym c.in_ok-command.ensures) c.in_err-root.ensures)

pub returns-in_err-modules : goal.returns-in_err-modules
returns-in_err-modules c =
    let p = err_from_is_err_and c.from_residual-in_err-modules.result c.from_residual-in_err-modules.ensures.1 in
    rw (p.1, p.2) (faults_modules _ _ _ _ _ c.in_ok-check_keys.ensures (sym c.in_ok-command.ensures) c.in_ok-root.ensures c.in_err-modules.ensures)

pub returns-in_err-features : goal.returns-in_err-features
returns-in_err-features c =
    let p = err_from_is_err_and c.from_residual-in_err-features.result c.from_residual-in_err-features.ensures.1 in
    rw (p.1, p.2) (faults_features _ _ _ _ _ _ c.in_ok-check_keys.ensures (sym c.in_ok-command.ensures) c.in_ok-root.ensures c.in_ok-modules.ensures c.in_err-features.ensures)

pub returns-in_err-keep : goal.returns-in_err-keep
returns-in_err-keep c =
    let p = err_from_is_err_and c.from_residual-in_err-keep.result c.from_residual-in_err-keep.ensures.1 in
    rw (p.1, p.2) (faults_keep _ _ _ _ _ _ _ c.in_ok-check_keys.ensures (sym c.in_ok-command.ensures) c.in_ok-root.ensures c.in_ok-modules.ensures c.in_ok-features.ensures c.in_err-keep.ensures)

pub returns-in_err-mode : goal.returns-in_err-mode
returns-in_err-mode c =
    let p = err_from_is_err_and c.from_residual-in_err-mode.result c.from_residual-in_err-mode.ensures.1 in
    rw (p.1, p.2) (faults_mode _ _ _ _ _ _ _ _ c.in_ok-check_keys.ensures (sym c.in_ok-command.ensures) c.in_ok-root.ensures c.in_ok-modules.ensures c.in_ok-features.ensures c.in_ok-keep.ensures (faults_of c.in_err-mode.ensures))

pub returns-in_err-max_modules : goal.returns-in_err-max_modules
returns-in_err-max_modules c =
    let p = err_from_is_err_and c.from_residual-in_err-max_modules.result c.from_residual-in_err-max_modules.ensures.1 in
    rw (p.1, p.2) (faults_max_modules _ _ _ _ _ _ _ _ _ c.in_ok-check_keys.ensures (sym c.in_ok-command.ensures) c.in_ok-root.ensures c.in_ok-modules.ensures c.in_ok-features.ensures c.in_ok-keep.ensures (sym c.in_ok-mode.ensures) (faults_of c.in_err-max_modules.ensures))

pub returns-in_err-max_steps : goal.returns-in_err-max_steps
returns-in_err-max_steps c =
    let p = err_from_is_err_and c.from_residual-in_err-max_steps.result c.from_residual-in_err-max_steps.ensures.1 in
    rw (p.1, p.2) (faults_max_steps _ _ _ _ _ _ _ _ _ _ c.in_ok-check_keys.ensures (sym c.in_ok-command.ensures) c.in_ok-root.ensures c.in_ok-modules.ensures c.in_ok-features.ensures c.in_ok-keep.ensures (sym c.in_ok-mode.ensures) (sym c.in_ok-max_modules.ensures) (faults_of c.in_err-max_steps.ensures))

pub returns : goal.returns
returns c = request_whole _ _ _ _ _ _ _ _ _ _ c.in_ok-check_keys.ensures (sym c.in_ok-command.ensures) c.in_ok-root.ensures c.in_ok-modules.ensures c.in_ok-features.ensures c.in_ok-keep.ensures (sym c.in_ok-mode.ensures) (sym c.in_ok-max_modules.ensures) (sym c.in_ok-max_steps.ensures)
