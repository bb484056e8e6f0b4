use Rattle.wgsl_templates.proofs.Answers.{answer_ended, answer_unfinished}
use Rattle.wgsl_templates.proofs.recognizer.recognizer.ListRecognizerRecognizer.recognize.Goals as goal

pub returns-in-Ends : goal.returns-in-Ends
returns-in-Ends c = answer_ended _ _ _ _ c.loop-kind.invariant _ _ c.in-Some.ensures.cases.0 _ _ _ c.in_ok-next.ensures c.in-Ends.is

pub returns : goal.returns
returns c = answer_unfinished _ _ _ _ c.loop-kind.invariant c.in_default.ensures.cases
