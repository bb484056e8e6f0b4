-- The refusal of the call is the program's, memory aside.
use Rattle.std.proofs.lemmas.Result.{err_from_is_err_and}
use Rattle.weslc_bundle.proofs.Calls.{whole_refused}
use Rattle.weslc_bundle.proofs.answer.compile_modules.Goals as goal

pub returns-in_err-text-clause-refusal : goal.returns-in_err-text-clause-refusal
returns-in_err-text-clause-refusal c =
    let p = err_from_is_err_and c.from_residual.result c.from_residual.ensures.1 in
    rw p.1 (whole_refused c.args.bundle.now c.in_err-text.field-0.0 p.0 c.in_err-text.ensures.refusal p.2)

pub returns-clause-text : goal.returns-clause-text
returns-clause-text c = c.in_ok-text.ensures.text
