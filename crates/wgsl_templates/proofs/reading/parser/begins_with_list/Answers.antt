use Rattle.wgsl_templates.proofs.Starts.{answers_never}
use Rattle.wgsl_templates.proofs.reading.parser.begins_with_list.Goals as goal

pub returns-in-Never : goal.returns-in-Never
returns-in-Never c = answers_never _ _ c.in_ok-recognize.ensures c.in-Never.is
