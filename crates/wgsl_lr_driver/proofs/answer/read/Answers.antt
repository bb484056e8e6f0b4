use Rattle.std.proofs.Common.{refl}
use Rattle.wgsl_lr_driver.proofs.Answering.{read_said, stopped_said}
use Rattle.wgsl_lr_driver.proofs.answer.read.Goals as goal

pub returns-in-Ok : goal.returns-in-Ok
returns-in-Ok c =
    read_said c.args.start c.args.tokens c.args.tokens c.number.result c.in-Ok.phrase c.passed.result refl c.number.ensures.is c.in-Ok.ensures c.passed.ensures

pub returns-in-Err-Unexpected : goal.returns-in-Err-Unexpected
returns-in-Err-Unexpected c =
    stopped_said c.args.start c.args.tokens c.args.tokens c.in-Err-Unexpected.tokens c.number.result c.in-Err-Unexpected.stack c.stopped.result refl
    c.number.ensures.is (rw c.in-Err-Unexpected.field-0-is at c.in-Err-Unexpected.ensures) c.stopped.ensures
