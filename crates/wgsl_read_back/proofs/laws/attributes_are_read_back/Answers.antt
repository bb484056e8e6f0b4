use Rattle.wgsl_read_back.proofs.Whole as whole
use Rattle.wgsl_read_back.proofs.laws.attributes_are_read_back.Goals as goal

pub returns : goal.returns
returns c = whole.attributes_are_read_back
