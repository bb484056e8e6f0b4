use Rattle.wgsl_read_back.proofs.Whole as whole
use Rattle.wgsl_read_back.proofs.laws.imports_are_read_back.Goals as goal

pub returns : goal.returns
returns c = whole.imports_are_read_back
