-- Of a run and an evaluation nothing is said.
use Rattle.weslc_bundle.proofs.Calls.{run_texts, run_refusals, eval_texts, eval_refusals}
use Rattle.weslc_bundle.proofs.answer.answer.Goals as goal

pub returns-in-Compile-clause-text : goal.returns-in-Compile-clause-text
returns-in-Compile-clause-text c = rw c.in-Compile.is c.compile_modules.ensures.text

pub returns-in-Run-clause-text : goal.returns-in-Run-clause-text
returns-in-Run-clause-text c = rw c.in-Run.is (run_texts c.args.bundle _)

pub returns-in-Run-clause-refusal : goal.returns-in-Run-clause-refusal
returns-in-Run-clause-refusal c = rw c.in-Run.is (run_refusals c.args.bundle _ c.run_entry.ensures)

pub returns-in-Eval-clause-text : goal.returns-in-Eval-clause-text
returns-in-Eval-clause-text c = rw c.in-Eval.is (eval_texts c.args.bundle _)

pub returns-in-Eval-clause-refusal : goal.returns-in-Eval-clause-refusal
returns-in-Eval-clause-refusal c = rw c.in-Eval.is (eval_refusals c.args.bundle _ c.eval_expression.ensures)
