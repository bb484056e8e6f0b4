use Rattle.wgsl_templates.proofs.Whole as whole
use Rattle.wgsl_templates.proofs.meaning.laws.opens_as_read.Goals as goal

pub returns : goal.returns
returns c = whole.opens_as_read
