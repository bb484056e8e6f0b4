use Rattle.wgsl_read_back.proofs.Whole as whole
use Rattle.wgsl_read_back.proofs.laws.expressions_are_read_back.Goals as goal

pub returns : goal.returns
returns c = whole.expressions_are_read_back
