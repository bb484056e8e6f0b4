use Rattle.wgsl_templates.proofs.Lines.{nothing_ahead}
use Rattle.wgsl_templates.proofs.ahead.Ahead.at_end.Goals as goal

pub returns : goal.returns
returns c = nothing_ahead
