use Rattle.std.proofs.Common.{◌∙◌}
use Rattle.std.proofs.lemmas.Result.{err_from_is_err_and}
use Rattle.weslc_bundle.specs.Bundles.{module_of}
use Rattle.weslc_bundle.proofs.Answered.{some_required, faults_whole}
use Rattle.weslc_bundle.proofs.Lists.{item_taken, item_refused}
use Rattle.weslc_bundle.proofs.request.read_each_module.Goals as goal

pub returns-in_err-read_module : goal.returns-in_err-read_module
returns-in_err-read_module c =
    let p = err_from_is_err_and c.from_residual.result c.from_residual.ensures.1 in
    rw (p.1, p.2)
    (faults_whole _ _ _ _
    (λ none. c.loop-value.invariant ∙ item_refused module_of c.loop-value.modules c.args.values.now c.loop-value.value-index c.value-item.result c.loop-value-test.true c.value-item.is none)
    c.in_err-read_module.ensures)

pub loop-value-preserved : goal.loop-value-preserved
loop-value-preserved c =
    c.loop-value.invariant
    ∙ rw c.in_ok-push.ensures.ok
    (item_taken module_of c.loop-value.modules c.args.values.now c.loop-value.value-index c.value-item.result c.in_ok-read_module.field-0 c.loop-value-test.true c.value-item.is
    (some_required _ _ _ c.in_ok-read_module.ensures))
