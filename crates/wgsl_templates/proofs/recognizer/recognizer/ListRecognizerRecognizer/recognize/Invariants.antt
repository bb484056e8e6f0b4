use Rattle.std.proofs.Common.{◌≡◌, reverse, length}
use Rattle.wgsl_templates.specs.Actions.{reading}
use Rattle.wgsl_templates.specs.Runs.{verdict}
use Rattle.wgsl_templates.proofs.Run.{beginning}
use Rattle.wgsl_templates.proofs.recognizer.recognizer.ListRecognizerRecognizer.recognize.Given as goal

abbrev pub invariant-loop-kind : goal.invariant-loop-kind
invariant-loop-kind l = verdict l.rest (reading l.state (reverse l.frames.items)) ≡ verdict l.fn.kinds beginning

abbrev pub decreases-loop-kind : goal.decreases-loop-kind
decreases-loop-kind l = length l.rest
