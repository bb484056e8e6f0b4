-- What the call says of the bundle's resolver holds of the request's modules.
use Rattle.std.proofs.lemmas.Result.{err_from_is_err_and}
use Rattle.weslc_bundle.proofs.Calls.{bundle_refused}
use Rattle.weslc_bundle.proofs.Held.{texts_answered, calls_refused}
use Rattle.weslc_bundle.proofs.serve.run_bundle.Goals as goal

pub returns-clause-text : goal.returns-clause-text
returns-clause-text g c =
    texts_answered (g.R.Read.remaining c.args.reader.now) c.in_ok-bytes.bytes.items c.in_ok-bytes.ensures.bytes c.in_ok-bundle.bundle c.answer.result
    (rw c.as_slice.ensures.value at c.in_ok-bundle.ensures.bundle) c.answer.ensures.text

pub returns-clause-refusal : goal.returns-clause-refusal
returns-clause-refusal g c =
    calls_refused (g.R.Read.remaining c.args.reader.now) c.in_ok-bytes.bytes.items c.in_ok-bytes.ensures.bytes c.in_ok-bundle.bundle c.answer.result
    (rw c.as_slice.ensures.value at c.in_ok-bundle.ensures.bundle) c.answer.ensures.refusal

pub returns-in_err-bundle-clause-refusal : goal.returns-in_err-bundle-clause-refusal
returns-in_err-bundle-clause-refusal g c =
    let p = err_from_is_err_and c.from_residual-in_err-bundle.result c.from_residual-in_err-bundle.ensures.1 in
    rw p.1 (bundle_refused (g.R.Read.remaining c.args.reader.now) c.in_ok-bytes.bytes.items c.in_err-bundle.field-0.0 p.0 c.in_ok-bytes.ensures.bytes (rw c.as_slice.ensures.value at c.in_err-bundle.ensures.fault) p.2)
